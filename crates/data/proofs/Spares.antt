-- Stores that are the same but for spare numbers.
use Rattle.std.proofs.Common.{◌≡◌, ℕ, suc, [], ◌∷◌, length, set, Some, None, Option, sym, refl, ◌∙◌, subst, ⊎_elim, arith}
use Rattle.std.proofs.lemmas.Bool.{cases_eq}
use Rattle.cells.specs.declared.records.CellRecord.{CellRecord}
use Rattle.cells.specs.Records.{SparePut}
use Rattle.cells.specs.Meaning.{Cells, at, one, count_live}
use Rattle.cells.proofs.Calls.{at_other, at_put}
use Rattle.data.specs.Alike.{Alike, AlikeCells, Respared, Kept}
use Rattle.data.proofs.Stores.{within}
use Rattle.data.proofs.Keeping.{cleared_within}

pub alike_put : {r q : CellRecord} {n : ℕ} → SparePut r n q → Alike r q
alike_put p = record { constructor_is = p.constructor_is; used_is = p.used_is; fields_are = p.fields_are }

alike_same : (c : Option CellRecord) → AlikeCells c c
alike_same None = tt
alike_same (Some r) = record { constructor_is = refl; used_is = refl; fields_are = refl }

pub respared_none : (cs : Cells) → Respared cs cs
respared_none cs = record { each = λ i. alike_same (at cs i) }

pub respared_more : {a b c : Cells} → Respared a b → Respared b c → Respared a c
respared_more {a} {b} {c} h k = record { each = λ i. both (at a i) (at b i) (at c i) (h.each i) (k.each i) }
  where
    both : (x y z : Option CellRecord) → AlikeCells x y → AlikeCells y z → AlikeCells x z
    both None None z h k = k
    both None (Some q) z h k = absurd h
    both (Some r) None z h k = absurd h
    both (Some r) (Some q) None h k = k
    both (Some r) (Some q) (Some s) h k = record { constructor_is = k.constructor_is ∙ h.constructor_is; used_is = k.used_is ∙ h.used_is; fields_are = k.fields_are ∙ h.fields_are }

pub respared_set : (cs : Cells) (c : ℕ) (r q : CellRecord) → at cs c ≡ Some r → Alike r q → Respared cs (set cs c (Some q))
respared_set cs c r q h a = record {
  each = λ i.
      ⊎_elim
      (λ s. subst (λ z. AlikeCells z (at (set cs c (Some q)) i)) (subst (λ j. Some r ≡ at cs j) (sym s) (sym h)) (subst (λ z. AlikeCells (Some r) z) (subst (λ j. Some q ≡ at (set cs c (Some q)) j) (sym s) (sym (at_put cs c (Some q) (within cs c r h)))) a))
      (λ d. subst (λ z. AlikeCells (at cs i) z) (sym (at_other cs c i (Some q) d)) (alike_same (at cs i)))
      (cases_eq i c);
}

-- a live record is alike afterwards
pub respared_live : {a b : Cells} → Respared a b → (i : ℕ) (r : CellRecord) → at a i ≡ Some r → (q : CellRecord) × (at b i ≡ Some q) × Alike r q
respared_live {a} {b} h i r e = found (at b i) (subst (λ z. AlikeCells z (at b i)) e (h.each i))
  where
    found : (c : Option CellRecord) → AlikeCells (Some r) c → (q : CellRecord) × (c ≡ Some q) × Alike r q
    found None k = absurd k
    found (Some q) k = (q, refl, k)

-- as many are live
pub respared_count : (a b : Cells) → length b ≡ length a → Respared a b → count_live b ≡ count_live a
respared_count [] [] l h = refl
respared_count [] (y ∷ ys) l h = absurd (omega arith)
respared_count (x ∷ xs) [] l h = absurd (omega arith)
respared_count (x ∷ xs) (y ∷ ys) l h = omega (arith, same_one x y (h.each 0), respared_count xs ys (omega arith) (record { each = λ i. h.each (suc i) }))
  where
    same_one : (c d : Option CellRecord) → AlikeCells c d → one d ≡ one c
    same_one None None k = refl
    same_one None (Some q) k = absurd k
    same_one (Some r) None k = absurd k
    same_one (Some r) (Some q) k = refl

-- what is live afterwards was live

pub kept_none : (cs : Cells) → Kept cs cs
kept_none cs = record { each = λ i r e. (r, e, record { constructor_is = refl; used_is = refl; fields_are = refl }) }

pub kept_more : {a b c : Cells} → Kept a b → Kept b c → Kept a c
kept_more h k = record {
  each = λ i r e.
      let x = h.each i r e in
      let y = k.each i x.0 x.1 in
      (y.0, y.1, record { constructor_is = y.2.constructor_is ∙ x.2.constructor_is; used_is = y.2.used_is ∙ x.2.used_is; fields_are = y.2.fields_are ∙ x.2.fields_are });
}

pub respared_kept : {a b : Cells} → Respared a b → Kept b a
respared_kept {a} {b} h = record { each = λ i r e. found (at a i) r (subst (λ z. AlikeCells (at a i) z) e (h.each i)) }
  where
    found : (c : Option CellRecord) (r : CellRecord) → AlikeCells c (Some r) → (q : CellRecord) × (c ≡ Some q) × Alike r q
    found None r k = absurd k
    found (Some q) r k = (q, refl, record { constructor_is = sym k.constructor_is; used_is = sym k.used_is; fields_are = sym k.fields_are })

pub freed_kept : (cs : Cells) (n : ℕ) → Kept (set cs n None) cs
freed_kept cs n = record { each = λ i r e. (r, cleared_within cs n i r e, record { constructor_is = refl; used_is = refl; fields_are = refl }) }
