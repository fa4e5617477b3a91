-- The pass over a node list: what is done, and what is left.
use Rattle.std.proofs.Common.{◌≡◌, ℕ, ◌+◌, ◌<◌, ◌≤◌, List, [], ◌∷◌, ◌++◌, length, get_or, take, drop, set, Some, None, Option, sym, refl, ap, ◌∙◌, arith}
use Rattle.std.proofs.lemmas.List.{append-nil, append_assoc, drop_more, drop_all, take_all, get_or-drop, take_more, take_more_set, drop-set-lt, drop-drop, length-set}
use Rattle.layout.specs.Encoding.{node, unused}
use Rattle.layout.specs.Literals.{Literal, place_of_first}
use Rattle.layout.specs.declared.node.Node.{Node}
use Rattle.layout.specs.declared.node.NodeForm.{NodeForm}
use Rattle.layout.specs.declared.node.NodeForm.TheVariants as form
use Rattle.symbols.specs.Indexing.{IsIndex, Holds}
use Rattle.symbols.specs.Numbering.{literal_at, symbol_place, numbered}
use Rattle.symbols.specs.declared.index.Index.{Index}

-- one node
module _ (text : List ℕ) (seen : List Literal) (n : Node) (ns : List Node) where
  pub numbered_symbol : (p : ℕ) → symbol_place n.form ≡ Some p
      → numbered text seen (n ∷ ns) ≡ node (form.Symbol (place_of_first (seen ++ literal_at text p ∷ []) (literal_at text p).bytes)) n.place n.past ∷ numbered text (seen ++ literal_at text p ∷ []) ns
  numbered_symbol p e = ap (λ (o : Option ℕ). elim o [
    | Some p ↦ node (form.Symbol (place_of_first (seen ++ literal_at text p ∷ []) (literal_at text p).bytes)) n.place n.past ∷ numbered text (seen ++ literal_at text p ∷ []) ns
    | None ↦ n ∷ numbered text seen ns
  ]) e

  pub numbered_other : symbol_place n.form ≡ None → numbered text seen (n ∷ ns) ≡ n ∷ numbered text seen ns
  numbered_other e = ap (λ (o : Option ℕ). elim o [
    | Some p ↦ node (form.Symbol (place_of_first (seen ++ literal_at text p ∷ []) (literal_at text p).bytes)) n.place n.past ∷ numbered text (seen ++ literal_at text p ∷ []) ns
    | None ↦ n ∷ numbered text seen ns
  ]) e

-- a form that is no symbol
pub no_symbol : (f : NodeForm) → ((p : ℕ) → f ≡ form.Symbol p → ⊥) → symbol_place f ≡ None
no_symbol (form.Symbol p) h = absurd (h p refl)
no_symbol form.Unused h = refl
no_symbol (form.Integer z) h = refl
no_symbol (form.Boolean b) h = refl
no_symbol form.Unit h = refl
no_symbol (form.Name n) h = refl
no_symbol form.If h = refl
no_symbol form.Begin h = refl
no_symbol form.Let h = refl
no_symbol form.Case h = refl
no_symbol (form.Dup w) h = refl
no_symbol form.Apply h = refl
no_symbol (form.Binding w) h = refl
no_symbol (form.Branch q) h = refl

pub record Passing (text : List ℕ) (old : List Node) (i : ℕ) (index : Index) (now : List Node) : Type 0 where
  pub is_index : IsIndex text index
  pub few : index.count ≤ i
  pub seen : List Literal
  pub holds : Holds text index seen
  pub whole : take i now ++ numbered text seen (drop i old) ≡ numbered text [] old
  pub rest : drop i now ≡ drop i old
  pub long : length now ≡ length old

module _ (text : List ℕ) (old : List Node) where
  pub passing_start : (index : Index) → IsIndex text index → index.count ≡ 0 → Holds text index [] → Passing text old 0 index old
  passing_start index ix none held = record { is_index = ix; few = omega arith; seen = []; holds = held; whole = refl; rest = refl; long = refl }

  module _ (i : ℕ) (index : Index) (now : List Node) (below : i < length old) (s : Passing text old i index now) where
    abbrev here : Node
    here = get_or now i unused

    next : drop i old ≡ here ∷ drop (i + 1) old
    next =
        let zero_is : i + 0 ≡ i = omega arith in
        let same : get_or now i unused ≡ get_or old i unused =
        sym (ap (λ j. get_or now j unused) zero_is) ∙ sym (get_or-drop i now 0 unused) ∙ ap (λ xs. get_or xs 0 unused) s.rest ∙ get_or-drop i old 0 unused ∙ ap (λ j. get_or old j unused) zero_is in
        drop_more old i unused below ∙ ap (λ x. x ∷ drop (i + 1) old) (sym same)

    further : (v : Node) → drop (i + 1) (set now i v) ≡ drop (i + 1) old
    further v =
        let less : i < i + 1 = omega arith in
        drop-set-lt (i + 1) now i v less ∙ sym (drop-drop 1 i now) ∙ ap (drop 1) s.rest ∙ drop-drop 1 i old

    pub passing_symbol : (p first : ℕ) (new : Index) (v : Node) → symbol_place (get_or now i unused).form ≡ Some p → IsIndex text new → new.count ≤ index.count + 1
        → ((seen : List Literal) → Holds text index seen → first ≡ place_of_first (seen ++ literal_at text p ∷ []) (literal_at text p).bytes)
        → ((seen : List Literal) → Holds text index seen → Holds text new (seen ++ literal_at text p ∷ []))
        → v ≡ node (form.Symbol first) (get_or now i unused).place (get_or now i unused).past → Passing text old (i + 1) new (set now i v)
    passing_symbol p first new v symbol ix more is held v_is =
        let few = s.few in
        let long = s.long in
        let first-is = is s.seen s.holds in
        let step : numbered text s.seen (drop i old) ≡ v ∷ numbered text (s.seen ++ literal_at text p ∷ []) (drop (i + 1) old) =
        ap (numbered text s.seen) next ∙ numbered_symbol text s.seen here (drop (i + 1) old) p symbol
        ∙ ap (λ x. x ∷ numbered text (s.seen ++ literal_at text p ∷ []) (drop (i + 1) old)) (ap (λ q. node (form.Symbol q) here.place here.past) (sym first-is) ∙ sym v_is) in
        record {
          is_index = ix;
          few = omega arith;
          seen = s.seen ++ literal_at text p ∷ [];
          holds = held s.seen s.holds;
          whole = ap (λ xs. xs ++ numbered text (s.seen ++ literal_at text p ∷ []) (drop (i + 1) old)) (take_more_set now i v (omega arith))
              ∙ append_assoc (take i now) (v ∷ []) (numbered text (s.seen ++ literal_at text p ∷ []) (drop (i + 1) old)) ∙ ap (λ xs. take i now ++ xs) (sym step) ∙ s.whole;
          rest = further v;
          long = length-set now i v ∙ long;
        }

    pub passing_other : symbol_place (get_or now i unused).form ≡ None → Passing text old (i + 1) index now
    passing_other other =
        let few = s.few in
        let long = s.long in
        let step : numbered text s.seen (drop i old) ≡ here ∷ numbered text s.seen (drop (i + 1) old) = ap (numbered text s.seen) next ∙ numbered_other text s.seen here (drop (i + 1) old) other in
        record {
          is_index = s.is_index;
          few = omega arith;
          seen = s.seen;
          holds = s.holds;
          whole = ap (λ xs. xs ++ numbered text s.seen (drop (i + 1) old)) (take_more now i unused (omega arith))
              ∙ append_assoc (take i now) (here ∷ []) (numbered text s.seen (drop (i + 1) old)) ∙ ap (λ xs. take i now ++ xs) (sym step) ∙ s.whole;
          rest = sym (drop-drop 1 i now) ∙ ap (drop 1) s.rest ∙ drop-drop 1 i old;
          long = long;
        }

  pub passing_end : (i : ℕ) (index : Index) (now : List Node) → length old ≤ i → Passing text old i index now → now ≡ numbered text [] old
  passing_end i index now past s =
      let long = s.long in
      sym (append-nil now) ∙ ap (λ xs. now ++ numbered text s.seen xs) (sym (drop_all i old past)) ∙ ap (λ xs. xs ++ numbered text s.seen (drop i old)) (sym (take_all i now (omega arith))) ∙ s.whole
