-- The names of a pattern's parts.
use Rattle.std.proofs.Common.{◌≡◌, ℕ, zero, suc, ◌+◌, ◌<◌, ◌≤◌, List, [], ◌∷◌, length, Some, None, Ok, Err, sym, refl, ap, ◌∙◌, subst, arith}
use Rattle.globals.specs.Known.{meaning_in}
use Rattle.globals.proofs.PairLaws.{kind_valid}
use Rattle.grammar.specs.Trees.{PatternPart, bound, skipped, Script}
use Rattle.naming.specs.Binding.{PartsAnswers, OnName, OnParts}
use Rattle.naming.specs.Judges.{Desk, Setting, Ready, Lying, names, rows_of, text_of}
use Rattle.naming.specs.declared.world.World.{World}
use Rattle.layout.specs.declared.word.Word.{Word}
use Rattle.patterns.specs.Parts.{IsPart}
use Rattle.program.specs.Programs.{program}
use Rattle.program.specs.Scopes.{bind_scope, bits}
use Rattle.script_refusals.specs.declared.refusal.Refused.{Refused}
use Rattle.type_rows.specs.Rows.{row_at, kind_at, TypesLie, no_rows, and_row, IsKind}
use Rattle.type_rows.specs.Shapes.{ty}
use Rattle.type_rows.specs.declared.row.Row.{Row}
use Rattle.type_rows.specs.declared.value_type.ValueType.{ValueType}
use Rattle.typing.specs.Contexts.{Context}
use Rattle.typing.specs.Judging.{with_all_bound}
use Rattle.typing.specs.Types.{Ty, Tys, and_type, count}

-- the bits of six fields
abbrev pow : ℕ → ℕ
pow zero = 1
pow (suc n) = pow n + pow n

pow_up : (n m : ℕ) → n ≤ m → pow n ≤ pow m
pow_up zero zero few = omega arith
pow_up zero (suc m) few = omega (arith, pow_up zero m (omega arith))
pow_up (suc n) zero few = absurd (omega arith)
pow_up (suc n) (suc m) few = omega (arith, pow_up n m (omega arith))

bits_below : (xs : List PatternPart) → bits xs < pow (length xs)
bits_below [] = omega arith
bits_below (bound x ∷ xs) = let h = bits_below xs in omega arith
bits_below (skipped p ∷ xs) = let h = bits_below xs in omega arith

pub bits_few : (xs : List PatternPart) → length xs ≤ 6 → bits xs < 64
bits_few xs few =
    let a = bits_below xs in
    let b = pow_up (length xs) 6 few in
    let six : pow 6 ≡ 64 = refl in
    omega arith

-- the first of some types and the others
pub record Divided (rows : List Row) (m : ℕ → Ty) (row last : ℕ) (n : ℕ) (τs : Tys) : Type 0 where
  pub type : Ty
  pub more : Tys
  pub is : τs ≡ and_type type more
  pub here : ty m (kind_at rows row) ≡ type
  pub lie : TypesLie rows m (row_at rows row).past last more
  pub count_is : n ≡ count more

pub divided : (rows : List Row) (m : ℕ → Ty) (row last n : ℕ) (τs : Tys) → TypesLie rows m row last τs → suc n ≡ count τs → Divided rows m row last n τs
divided rows m row last n τs (no_rows e) many = absurd (omega arith)
divided rows m row last n τs (and_row {t = t} {ts = ts} low here lie) many = record { type = t; more = ts; is = refl; here = here; lie = lie; count_is = omega arith }

module _ (world : World) (script : Script) (set : Setting world script) where
  abbrev Γ_of : Desk → Context
  Γ_of d = names world script d

  abbrev lie_from : ℕ → ℕ → Tys → Type 0
  lie_from row last τs = TypesLie (rows_of world script) (meaning_in script) row last τs

  abbrev kind_of_row : ℕ → ValueType
  kind_of_row row = kind_at (rows_of world script) row

  -- A name before other parts.
  module _ (row after height high next : ℕ) (old : Desk) (ready : Ready world script old) (w : Word) (kind : ValueType) (ek : kind ≡ kind_of_row row) (en : next ≡ (row_at (rows_of world script) row).past) where
    pub part_refused : (xs : List PatternPart) (τs : Tys) (last : ℕ) (r : Refused) (mid new : Desk) → IsPart (text_of world script) xs (Some (record { name = Some w; after = after })) → lie_from row last τs → length xs ≡ count τs
        → OnName world w kind height old (Err r) mid → PartsAnswers world script xs τs height old (Err r) new
    part_refused [] τs last r mid new at lie many bind = absurd at
    part_refused (skipped p ∷ xs) τs last r mid new at lie many bind = absurd at.0
    part_refused (bound x ∷ xs) τs last r mid new at lie many bind =
        let d = divided (rows_of world script) (meaning_in script) row last (length xs) τs lie many in
        let e = bind script x set ready (subst (IsKind (rows_of world script)) (sym ek) (kind_valid (rows_of world script) row)) at.0 (with_all_bound (program script) xs d.more) in
        subst (λ τs. PartsAnswers world script (bound x ∷ xs) τs height old (Err r) new) (sym d.is)
        (subst (λ τ. PartsAnswers world script (bound x ∷ xs) (and_type τ d.more) height old (Err r) new) (ap (ty (meaning_in script)) ek ∙ d.here) e)

    pub part_bound : (xs : List PatternPart) (τs : Tys) (last : ℕ) (mid new : Desk) (b c : ℕ) → IsPart (text_of world script) xs (Some (record { name = Some w; after = after })) → lie_from row last τs → length xs ≡ count τs → length xs ≤ 6
        → OnName world w kind height old (Ok tt) mid → OnParts world after next high mid (Ok b) new
        → (height ≤ 131072 → high ≡ height + 1) → (b < 64 → c ≡ 1 + (b + b)) → PartsAnswers world script xs τs height old (Ok c) new
    part_bound [] τs last mid new b c at lie many six bind rest up bit = absurd at
    part_bound (skipped p ∷ xs) τs last mid new b c at lie many six bind rest up bit = absurd at.0
    part_bound (bound x ∷ xs) τs last mid new b c at lie many six bind rest up bit =
        let d = divided (rows_of world script) (meaning_in script) row last (length xs) τs lie many in
        let one = bind script x set ready (subst (IsKind (rows_of world script)) (sym ek) (kind_valid (rows_of world script) row)) at.0 in
        let more = rest script xs d.more last set one.ready at.1 (subst (λ r. lie_from r last d.more) (sym en) d.lie) d.count_is (omega arith) in
        let few = bits_few xs (omega arith) in
        let p = more.0 in
        subst (λ τs. PartsAnswers world script (bound x ∷ xs) τs height old (Ok c) new) (sym d.is)
        (subst (λ τ. PartsAnswers world script (bound x ∷ xs) (and_type τ d.more) height old (Ok c) new) (ap (ty (meaning_in script)) ek ∙ d.here) (
          record {
            type = one.type (with_all_bound (program script) xs d.more) ∙ p.type;
            ready = p.ready;
            depth = omega (arith, p.depth, one.depth);
            lying = λ G i j on low lying.
                let few = lying.few in
                let small = ready.few in
                let under = lying.low in
                let eh : high ≡ height + 1 = up (omega arith) in
                let l = one.lying G i i (omega arith) under lying in
                let l' = p.lying (Some x.bytes ∷ G) i j on low (subst (λ h. Lying world script mid (Some x.bytes ∷ G) h i) (sym eh) l) in
                subst (λ h. Lying world script new (bind_scope xs (Some x.bytes ∷ G)) h j) (omega arith) l';
          },
          bit (omega (arith, more.1)) ∙ ap (λ b. 1 + (b + b)) more.1,
        ))

    pub part_later : (xs : List PatternPart) (τs : Tys) (last : ℕ) (mid new : Desk) (r : Refused) → IsPart (text_of world script) xs (Some (record { name = Some w; after = after })) → lie_from row last τs → length xs ≡ count τs → length xs ≤ 6
        → OnName world w kind height old (Ok tt) mid → OnParts world after next high mid (Err r) new → PartsAnswers world script xs τs height old (Err r) new
    part_later [] τs last mid new r at lie many six bind rest = absurd at
    part_later (skipped p ∷ xs) τs last mid new r at lie many six bind rest = absurd at.0
    part_later (bound x ∷ xs) τs last mid new r at lie many six bind rest =
        let d = divided (rows_of world script) (meaning_in script) row last (length xs) τs lie many in
        let one = bind script x set ready (subst (IsKind (rows_of world script)) (sym ek) (kind_valid (rows_of world script) row)) at.0 in
        let more = rest script xs d.more last set one.ready at.1 (subst (λ r. lie_from r last d.more) (sym en) d.lie) d.count_is (omega arith) in
        subst (λ τs. PartsAnswers world script (bound x ∷ xs) τs height old (Err r) new) (sym d.is)
        (subst (λ τ. PartsAnswers world script (bound x ∷ xs) (and_type τ d.more) height old (Err r) new) (ap (ty (meaning_in script)) ek ∙ d.here)
        (one.type (with_all_bound (program script) xs d.more) ∙ more))

  -- A wildcard before other parts.
  module _ (row after height next : ℕ) (old : Desk) (ready : Ready world script old) (en : next ≡ (row_at (rows_of world script) row).past) where
    pub part_skipped : (xs : List PatternPart) (τs : Tys) (last : ℕ) (new : Desk) (b c : ℕ) → IsPart (text_of world script) xs (Some (record { name = None; after = after })) → lie_from row last τs → length xs ≡ count τs → length xs ≤ 6
        → OnParts world after next height old (Ok b) new → (b < 64 → c ≡ b + b) → PartsAnswers world script xs τs height old (Ok c) new
    part_skipped [] τs last new b c at lie many six rest bit = absurd at
    part_skipped (bound x ∷ xs) τs last new b c at lie many six rest bit = absurd at.0
    part_skipped (skipped p ∷ xs) τs last new b c at lie many six rest bit =
        let d = divided (rows_of world script) (meaning_in script) row last (length xs) τs lie many in
        let more = rest script xs d.more last set ready at.1 (subst (λ r. lie_from r last d.more) (sym en) d.lie) d.count_is (omega arith) in
        let few = bits_few xs (omega arith) in
        let q = more.0 in
        subst (λ τs. PartsAnswers world script (skipped p ∷ xs) τs height old (Ok c) new) (sym d.is)
        (record { type = q.type; ready = q.ready; depth = q.depth; lying = q.lying }, bit (omega (arith, more.1)) ∙ ap (λ b. b + b) more.1)

    pub part_skipped_later : (xs : List PatternPart) (τs : Tys) (last : ℕ) (new : Desk) (r : Refused) → IsPart (text_of world script) xs (Some (record { name = None; after = after })) → lie_from row last τs → length xs ≡ count τs → length xs ≤ 6
        → OnParts world after next height old (Err r) new → PartsAnswers world script xs τs height old (Err r) new
    part_skipped_later [] τs last new r at lie many six rest = absurd at
    part_skipped_later (bound x ∷ xs) τs last new r at lie many six rest = absurd at.0
    part_skipped_later (skipped p ∷ xs) τs last new r at lie many six rest =
        let d = divided (rows_of world script) (meaning_in script) row last (length xs) τs lie many in
        subst (λ τs. PartsAnswers world script (skipped p ∷ xs) τs height old (Err r) new) (sym d.is) (rest script xs d.more last set ready at.1 (subst (λ r. lie_from r last d.more) (sym en) d.lie) d.count_is (omega arith))

    pub part_end : (xs : List PatternPart) (τs : Tys) → IsPart (text_of world script) xs None → PartsAnswers world script xs τs height old (Ok 0) old
    part_end [] τs at = (
      record {
        type = refl;
        ready = ready;
        depth = omega arith;
        lying = λ G i j on low lying. record { among = lying.among; size = omega (arith, lying.size); few = omega (arith, lying.few); low = low };
      },
      refl,
    )
    part_end (bound x ∷ xs) τs at = absurd at
    part_end (skipped p ∷ xs) τs at = absurd at
