-- The parameters of a define.
use Rattle.std.proofs.Common.{◌≡◌, ℕ, ◌+◌, ◌<◌, ◌≤◌, List, [], ◌∷◌, map, length, Some, Ok, Err, Result, sym, refl, ap, ◌∙◌, subst, arith}
use Rattle.std.specs.Prelude.{slice_index_or}
use Rattle.globals.specs.Known.{meaning_in}
use Rattle.globals.specs.Lying.{ParametersLie}
use Rattle.globals.proofs.PairLaws.{kind_valid}
use Rattle.grammar.specs.Trees.{Ident, PatternPart, bound, Script}
use Rattle.layout.specs.Spelling.{Spells}
use Rattle.layout.specs.Tabling.{unused_word}
use Rattle.layout.specs.declared.tables.Tables.{Tables}
use Rattle.layout.specs.declared.word.Word.{Word}
use Rattle.naming.specs.Binding.{NameBound, ParametersAnswers, OnName}
use Rattle.naming.specs.Judges.{Desk, Setting, Ready, Lying, meant, rows_of, text_of}
use Rattle.naming.specs.declared.world.World.{World}
use Rattle.naming.proofs.PartsLaws.{divided}
use Rattle.program.specs.Programs.{program}
use Rattle.program.specs.Scopes.{bind_scope}
use Rattle.script_refusals.specs.declared.refusal.Refused.{Refused}
use Rattle.type_rows.specs.Rows.{row_at, kind_at, TypesLie, IsKind}
use Rattle.type_rows.specs.Shapes.{ty}
use Rattle.type_rows.specs.declared.value_type.ValueType.{ValueType}
use Rattle.typing.specs.Judging.{with_all_bound}
use Rattle.typing.specs.Types.{Tys, and_type, count}

module _ (world : World) (script : Script) (tables : Tables) (past : ℕ) (xs : List Ident) (τs : Tys) (old : Desk) where
  abbrev lie_from : ℕ → ℕ → Tys → Type 0
  lie_from row last τs = TypesLie (rows_of world script) (meaning_in script) row last τs

  -- what is left of a define's parameters, from an entry of the table of parameters and from a row on
  pub record ParametersLeft (first row : ℕ) (now : Desk) : Type 0 where
    pub left : List Ident
    pub types : Tys
    pub last : ℕ
    pub ready : Ready world script now
    pub at : ParametersLie (text_of world script) tables first left
    pub size : past ≡ first + length left
    pub lie : lie_from row last types
    pub many : length left ≡ count types
    pub whole : (result : Result (Unit {0}) Refused) (new : Desk) → ParametersAnswers world script (map bound left) types now result new → ParametersAnswers world script (map bound xs) τs old result new

  pub parameters_end : (first row : ℕ) (now : Desk) → ParametersLeft first row now → past ≤ first → ParametersAnswers world script (map bound xs) τs old (Ok tt) now
  parameters_end first row now l few = l.whole (Ok tt) now (none l.left l.types l.size)
    where
      none : (left : List Ident) (types : Tys) → past ≡ first + length left → ParametersAnswers world script (map bound left) types now (Ok tt) now
      none [] types size = record {
        type = refl;
        ready = l.ready;
        depth = omega arith;
        lying = λ G i j on low lying. record { among = lying.among; size = omega (arith, lying.size); few = omega (arith, lying.few); low = low };
      }
      none (x ∷ left) types size = absurd (omega arith)

  -- a name, and then others
  one_more : (x : Ident) (ys : List PatternPart) (types : Tys) (kind : ValueType) (now mid : Desk) (result : Result (Unit {0}) Refused) (new : Desk) → NameBound world script x kind now.depth now mid → ParametersAnswers world script ys types mid result new
      → ParametersAnswers world script (bound x ∷ ys) (and_type (meant world script kind) types) now result new
  one_more x ys types kind now mid (Ok u) new one p = record {
    type = one.type (with_all_bound (program script) ys types) ∙ p.type;
    ready = p.ready;
    depth = omega (arith, p.depth, one.depth);
    lying = λ G i j on low lying.
        let l = one.lying G i i (omega arith) lying.low lying in
        let l' = p.lying (Some x.bytes ∷ G) i j on low (subst (λ h. Lying world script mid (Some x.bytes ∷ G) h i) (sym one.depth) l) in
        subst (λ h. Lying world script new (bind_scope ys (Some x.bytes ∷ G)) h j) (let e = one.depth in omega arith) l';
  }
  one_more x ys types kind now mid (Err r) new one p = one.type (with_all_bound (program script) ys types) ∙ p

  module _ (set : Setting world script) (first row next : ℕ) (now : Desk) (l : ParametersLeft first row now) (low : first < past) (word : Word) (kind : ValueType) (ew : word ≡ slice_index_or tables.parameters first unused_word)
      (ek : kind ≡ kind_at (rows_of world script) row) (en : next ≡ (row_at (rows_of world script) row).past) where
    valid : IsKind (rows_of world script) kind
    valid = subst (IsKind (rows_of world script)) (sym ek) (kind_valid (rows_of world script) row)

    spelt : (x : Ident) → Spells (text_of world script) (slice_index_or tables.parameters first unused_word) x → Spells (text_of world script) word x
    spelt x s = subst (λ w. Spells (text_of world script) w x) (sym ew) s

    pub parameters_refused : (r : Refused) (mid new : Desk) → OnName world word kind now.depth now (Err r) mid → ParametersAnswers world script (map bound xs) τs old (Err r) new
    parameters_refused r mid new bind = l.whole (Err r) new (go l.left l.types l.at l.size l.lie l.many)
      where
        go : (left : List Ident) (types : Tys) → ParametersLie (text_of world script) tables first left → past ≡ first + length left → lie_from row l.last types → length left ≡ count types → ParametersAnswers world script (map bound left) types now (Err r) new
        go [] types at size lie many = absurd (omega arith)
        go (x ∷ left) types at size lie many =
            let d = divided (rows_of world script) (meaning_in script) row l.last (length left) types lie many in
            let e = bind script x set l.ready valid (spelt x at.0) (with_all_bound (program script) (map bound left) d.more) in
            subst (λ τs. ParametersAnswers world script (bound x ∷ map bound left) τs now (Err r) new) (sym d.is)
            (subst (λ τ. ParametersAnswers world script (bound x ∷ map bound left) (and_type τ d.more) now (Err r) new) (ap (ty (meaning_in script)) ek ∙ d.here) e)

    pub parameters_next : (mid : Desk) → OnName world word kind now.depth now (Ok tt) mid → ParametersLeft (first + 1) next mid
    parameters_next mid bind = go l.left l.types l.at l.size l.lie l.many l.whole
      where
        go : (left : List Ident) (types : Tys) → ParametersLie (text_of world script) tables first left → past ≡ first + length left → lie_from row l.last types → length left ≡ count types
            → ((result : Result (Unit {0}) Refused) (new : Desk) → ParametersAnswers world script (map bound left) types now result new → ParametersAnswers world script (map bound xs) τs old result new) → ParametersLeft (first + 1) next mid
        go [] types at size lie many whole = absurd (omega arith)
        go (x ∷ left) types at size lie many whole =
            let d = divided (rows_of world script) (meaning_in script) row l.last (length left) types lie many in
            let one = bind script x set l.ready valid (spelt x at.0) in
            record {
              left = left;
              types = d.more;
              last = l.last;
              ready = one.ready;
              at = at.1;
              size = omega arith;
              lie = subst (λ r. lie_from r l.last d.more) (sym en) d.lie;
              many = d.count_is;
              whole = λ result new rest.
                  whole result new
                  (subst (λ τs. ParametersAnswers world script (bound x ∷ map bound left) τs now result new) (sym d.is)
                  (subst (λ τ. ParametersAnswers world script (bound x ∷ map bound left) (and_type τ d.more) now result new) (ap (ty (meaning_in script)) ek ∙ d.here) (one_more x (map bound left) d.more kind now mid result new one rest)));
            }
