-- The constructors of a datatype, one by one.
use Rattle.std.proofs.Common.{◌≡◌, ℕ, ◌+◌, ◌<◌, ◌≤◌, List, [], ◌∷◌, ◌++◌, reverse, length, slice_index_or, sym, refl, ap, ◌∙◌, append_assoc, arith}
use Rattle.std.proofs.lemmas.List.{append-nil, map-append, reverse-append, length_push}
use Rattle.globals.specs.Lying.{VariantLies}
use Rattle.globals.specs.Tallies.{Tally, bound_names, seen_bound, also_variants, Next, Holds}
use Rattle.globals.specs.declared.declarations.Declarations.{Declarations}
use Rattle.globals.specs.declared.variant.Variant.{Variant}
use Rattle.grammar.specs.Limits.{types_count, types_length}
use Rattle.grammar.specs.Trees.{Constructor}
use Rattle.layout.specs.Tabling.{unused_constructor}
use Rattle.layout.specs.declared.tables.Tables.{Tables}
use Rattle.program.specs.Programs as means
use Rattle.program.specs.Programs.{Name, Bound, bound_variants}
use Rattle.script_refusals.specs.declared.refusal.Refused.{Refused}
use Rattle.typing.specs.Scripts.{basis_names}
use Rattle.typing.specs.Verdict.{Verdict, refused, once, once_variants}

-- a name more is the newest that was seen
pub seen_more : (bs : List Bound) (b : Bound) (before : List Name) → reverse (bound_names (bs ++ b ∷ [])) ++ before ≡ b.name.bytes ∷ (reverse (bound_names bs) ++ before)
seen_more bs b before = ap (λ l. reverse l ++ before) (map-append (λ (b : Bound). b.name.bytes) bs (b ∷ [])) ∙ ap (λ l. l ++ before) (reverse-append (bound_names bs) (b.name.bytes ∷ []))

-- tallies by their parts
tally_of : (t : Tally) (bs cs : List Bound) (vs ws : List Variant) → bs ≡ cs → vs ≡ ws → ◌≡◌ {A = Tally} (record t { bound = bs; variants = vs }) (record t { bound = cs; variants = ws })
tally_of t bs cs vs ws p q = ap (λ b. record t { bound = b; variants = vs }) p ∙ ap (λ v. record t { bound = cs; variants = v }) q

pub no_variants : (d i k : ℕ) (t : Tally) → also_variants d i k [] t ≡ t
no_variants d i k t = tally_of t _ _ _ _ (append-nil t.bound) (append-nil t.variants)

pub more_variants : (d i k : ℕ) (c : Constructor) (cs : List Constructor) (t : Tally) → also_variants d i k (c ∷ cs) t ≡ also_variants d (i + 1) (k + types_count c.fields) cs (also_variants d i k (c ∷ []) t)
more_variants d i k c cs t = tally_of t _ _ _ _ (sym (append_assoc t.bound _ _)) (sym (append_assoc t.variants _ _))

-- what was declared on the way, and what is left
pub record Midway (text : List ℕ) (tables : Tables) (d first past k : ℕ) (cs : List Constructor) (t : Tally) (i : ℕ) (now : Declarations) : Type 0 where
  pub tally : Tally
  pub at : ℕ
  pub left : List Constructor
  pub holds : Holds text now tally
  pub next : Next text tables tally i past at left
  pub said : (then : List Name → Verdict) → once_variants cs (seen_bound t) then ≡ once_variants left (seen_bound tally) then
  pub whole : also_variants d first k cs t ≡ also_variants d i at left tally

-- what each of the calls for one constructor says
pub record Declares (text : List ℕ) (tables : Tables) (d i : ℕ) (before after : Declarations) : Type 0 where
  pub told_ok : (t : Tally) (k : ℕ) (x : Constructor) (next : Verdict) → Holds text before t → VariantLies text tables (slice_index_or tables.constructors i unused_constructor) k x → once x.name (seen_bound t) next ≡ next
  pub holds_ok : (t : Tally) (k : ℕ) (x : Constructor) → Holds text before t → VariantLies text tables (slice_index_or tables.constructors i unused_constructor) k x → length t.variants ≡ i → i < 256 → length t.bound < 512 → Holds text after (also_variants d i k (x ∷ []) t)

module _ (text : List ℕ) (tables : Tables) (d first past k : ℕ) (cs : List Constructor) (t : Tally) where
  pub midway_start : (now : Declarations) → Holds text now t → Next text tables t first past k cs → Midway text tables d first past k cs t first now
  midway_start now h n = record { tally = t; at = k; left = cs; holds = h; next = n; said = λ then. refl; whole = refl }

  pub midway_next : (i : ℕ) (now after : Declarations) → i < past → Declares text tables d i now after → Midway text tables d first past k cs t i now → Midway text tables d first past k cs t (i + 1) after
  midway_next i now after low one m = go m.left m.next m.said m.whole
    where
      go : (left : List Constructor) → Next text tables m.tally i past m.at left → ((then : List Name → Verdict) → once_variants cs (seen_bound t) then ≡ once_variants left (seen_bound m.tally) then)
          → also_variants d first k cs t ≡ also_variants d i m.at left m.tally → Midway text tables d first past k cs t (i + 1) after
      go [] n said whole = absurd (let e = n.end in omega arith)
      go (c ∷ left) n said whole =
          let few = n.few in
          let end = n.end in
          let many = n.many in
          let room = n.room in
          let more : also_variants d i m.at (c ∷ left) m.tally ≡ also_variants d (i + 1) (m.at + types_count c.fields) left (also_variants d i m.at (c ∷ []) m.tally) = more_variants d i m.at c left m.tally in
          let v = length_push m.tally.variants record { datatype = d; first = m.at; past = m.at + types_count c.fields; fields = types_length c.fields } in
          let b = length_push m.tally.bound record { name = c.name; meaning = means.constructor i } in
          record {
            tally = also_variants d i m.at (c ∷ []) m.tally;
            at = m.at + types_count c.fields;
            left = left;
            holds = one.holds_ok m.tally m.at c m.holds n.lie.0 n.many (omega arith) (omega arith);
            next = record { lie = n.lie.1; end = omega arith; few = few; many = omega arith; room = omega arith };
            said = λ then. said then ∙ one.told_ok m.tally m.at c _ m.holds n.lie.0 ∙ ap (λ seen. once_variants left seen then) (sym (seen_more m.tally.bound record { name = c.name; meaning = means.constructor i } basis_names));
            whole = whole ∙ more;
          }

  -- at the end nothing is left
  pub midway_end : (i : ℕ) (now : Declarations) → past ≤ i → (m : Midway text tables d first past k cs t i now) → (m.left ≡ []) × (also_variants d first k cs t ≡ m.tally)
  midway_end i now high m = go m.left m.next m.whole
    where
      go : (left : List Constructor) → Next text tables m.tally i past m.at left → also_variants d first k cs t ≡ also_variants d i m.at left m.tally → (left ≡ []) × (also_variants d first k cs t ≡ m.tally)
      go [] n whole = (refl, whole ∙ no_variants d i m.at m.tally)
      go (c ∷ left) n whole = absurd (let e = n.end in omega arith)

  pub midway_refused : (i : ℕ) (now : Declarations) (r : Refused) → i < past
      → ((t : Tally) (k : ℕ) (x : Constructor) (next : Verdict) → Holds text now t → VariantLies text tables (slice_index_or tables.constructors i unused_constructor) k x → once x.name (seen_bound t) next ≡ refused r)
      → (then : List Name → Verdict) → Midway text tables d first past k cs t i now → once_variants cs (seen_bound t) then ≡ refused r
  midway_refused i now r low one then m = m.said then ∙ go m.left m.next
    where
      go : (left : List Constructor) → Next text tables m.tally i past m.at left → once_variants left (seen_bound m.tally) then ≡ refused r
      go [] n = absurd (let e = n.end in omega arith)
      go (c ∷ left) n = one m.tally m.at c _ m.holds n.lie.0

  pub midway_said : (i : ℕ) (now : Declarations) → past ≤ i → (then : List Name → Verdict) → (m : Midway text tables d first past k cs t i now) → once_variants cs (seen_bound t) then ≡ then (seen_bound (also_variants d first k cs t))
  midway_said i now high then m =
      let e = midway_end i now high m in
      m.said then ∙ ap (λ l. once_variants l (seen_bound m.tally) then) e.0 ∙ ap (λ t. then (seen_bound t)) (sym e.1)
