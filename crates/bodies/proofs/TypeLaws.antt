-- Types that are the same.
use Rattle.std.proofs.Common.{◌≡◌, ℕ, Bool, true, false, ◌&&◌, Some, None, sym, refl, ap, ◌∙◌, subst}
use Rattle.bodies.specs.Parts.{AlikeAnswers}
use Rattle.grammar.specs.Trees.{Script}
use Rattle.naming.specs.Judges.{Setting, meant, rows_of}
use Rattle.naming.specs.declared.world.World.{World}
use Rattle.globals.specs.Known.{meaning_in}
use Rattle.type_rows.specs.Rows.{IsKind, RowsMean}
use Rattle.type_rows.specs.Shapes.{ty}
use Rattle.type_rows.specs.declared.rows.Rows.{Rows}
use Rattle.type_rows.specs.declared.value_type.ValueType.{ValueType}
use Rattle.typing.proofs.TypeRows.{same_type_law, type_same, same_types_law, types_same}
use Rattle.typing.specs.Judging.{all_alike}
use Rattle.typing.specs.Types.{Ty, Tys, no_types, and_type, same_type, same_types}

-- what holds of both truth values alike
by_both : (a b : Bool) → (a ≡ true → b ≡ true) → (b ≡ true → a ≡ true) → a ≡ b
by_both true true f g = refl
by_both true false f g = sym (f refl)
by_both false true f g = g refl
by_both false false f g = refl

first_of_types : Tys → Ty → Ty
first_of_types no_types τ = τ
first_of_types (and_type σ σs) τ = σ

others_of : Tys → Tys
others_of no_types = no_types
others_of (and_type σ σs) = σs

both : (a b : Bool) → (a && b) ≡ true → (a ≡ true) × (b ≡ true)
both true true e = (refl, refl)
both true false e = absurd (cc)
both false b e = absurd (cc)

-- one type more in each of two lists
pub same_more : (σ τ : Ty) (σs τs : Tys) → same_types (and_type σ σs) (and_type τ τs) ≡ (same_type σ τ && same_types σs τs)
unfolding first_of_types others_of
same_more σ τ σs τs = by_both _ _ there back
  where
    there : same_types (and_type σ σs) (and_type τ τs) ≡ true → (same_type σ τ && same_types σs τs) ≡ true
    there e =
        let h = same_types_law (and_type σ σs) (and_type τ τs) e in
        let a : σ ≡ τ = ap (λ ts. first_of_types ts σ) h in
        let b : σs ≡ τs = ap others_of h in
        subst (λ t. (same_type σ t && same_types σs τs) ≡ true) a (subst (λ ts. (same_type σ σ && same_types σs ts) ≡ true) b (rw (type_same σ, types_same σs) refl))

    back : (same_type σ τ && same_types σs τs) ≡ true → same_types (and_type σ σs) (and_type τ τs) ≡ true
    back e =
        let h = both (same_type σ τ) (same_types σs τs) e in
        let a = same_type_law σ τ h.0 in
        let b = same_types_law σs τs h.1 in
        subst (λ t. same_types (and_type σ σs) (and_type t τs) ≡ true) a (subst (λ ts. same_types (and_type σ σs) (and_type σ ts) ≡ true) b (types_same (and_type σ σs)))

is_false : (b : Bool) → (b ≡ true → ⊥) → b ≡ false
is_false true f = absurd (f refl)
is_false false f = refl

more_apart : (τ : Ty) (τs : Tys) → and_type τ τs ≡ no_types → ⊥
more_apart τ τs e = absurd (cc)

pub more_none : (τ : Ty) (τs : Tys) → same_types (and_type τ τs) no_types ≡ false
more_none τ τs = is_false _ (λ e. more_apart τ τs (same_types_law (and_type τ τs) no_types e))

pub none_more : (τ : Ty) (τs : Tys) → same_types no_types (and_type τ τs) ≡ false
none_more τ τs = is_false _ (λ e. more_apart τ τs (sym (same_types_law no_types (and_type τ τs) e)))

alike_by : (τ σ : Ty) (σs : Tys) → τ ≡ σ → all_alike σ σs ≡ true → all_alike τ (and_type σ σs) ≡ true
alike_by τ σ σs e h = subst (λ τ. all_alike τ (and_type σ σs) ≡ true) (sym e) (rw (type_same σ) h)

unlike_by : (τ σ : Ty) (σs : Tys) → (τ ≡ σ → all_alike σ σs ≡ true → ⊥) → all_alike τ (and_type σ σs) ≡ false
unlike_by τ σ σs not = go (same_type τ σ) (all_alike τ σs) refl refl
  where
    go : (a b : Bool) → same_type τ σ ≡ a → all_alike τ σs ≡ b → (a && b) ≡ false
    go false b ea eb = refl
    go true false ea eb = refl
    go true true ea eb = let h = same_type_law τ σ ea in absurd (not h (subst (λ τ. all_alike τ σs ≡ true) h eb))

-- what the table of types says of two types, in the script's terms
pub same_in : (world : World) (script : Script) → Setting world script → (rows : Rows) → rows ≡ world.globals.now.rows → (a b : ValueType) (r : Bool)
    → ((m : ℕ → Ty) → RowsMean rows.rows m → IsKind rows.rows a → IsKind rows.rows b → r ≡ same_type (ty m a) (ty m b))
    → IsKind (rows_of world script) a → IsKind (rows_of world script) b → r ≡ same_type (meant world script a) (meant world script b)
same_in world script set rows is a b r h va vb =
    h (meaning_in script) (subst (λ (rows : Rows). RowsMean rows.rows (meaning_in script)) (sym is) set.known.mean) (subst (λ (rows : Rows). IsKind rows.rows a) (sym is) va) (subst (λ (rows : Rows). IsKind rows.rows b) (sym is) vb)

module _ (world : World) (script : Script) (set : Setting world script) (kind : ValueType) where
  pub alike_same : (other : ValueType) → (IsKind (rows_of world script) kind → IsKind (rows_of world script) other → true ≡ same_type (meant world script kind) (meant world script other)) → AlikeAnswers world script kind (Some other) (Some kind)
  alike_same other same no_types one valid = absurd one
  alike_same other same (and_type σ σs) one valid =
      let h = same_type_law (meant world script kind) (meant world script other) (sym (same valid one.1)) in
      (refl, valid, alike_by (meant world script kind) σ σs (h ∙ sym one.0) one.2)

  pub alike_other : (other : ValueType) → (IsKind (rows_of world script) kind → IsKind (rows_of world script) other → false ≡ same_type (meant world script kind) (meant world script other)) → AlikeAnswers world script kind (Some other) None
  alike_other other same no_types one valid = absurd one
  alike_other other same (and_type σ σs) one valid = unlike_by (meant world script kind) σ σs (λ e h. different (same valid one.1 ∙ subst (λ t. same_type (meant world script kind) t ≡ true) (e ∙ one.0) (type_same (meant world script kind))))
    where
      different : false ≡ true → ⊥
      different e = absurd (cc)

  pub alike_none : AlikeAnswers world script kind None None
  alike_none no_types one valid = absurd one
  alike_none (and_type σ σs) one valid = unlike_by (meant world script kind) σ σs (λ e h. different (sym one ∙ h))
    where
      different : false ≡ true → ⊥
      different e = absurd (cc)
