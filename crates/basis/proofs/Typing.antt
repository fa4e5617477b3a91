-- Every function of the basis meets its type.
use Rattle.std.proofs.Common.{◌≡◌, ◌⊎◌, List, [], ◌∷◌, map, ℤ, Ok, Err, Result, sym, refl, ap, ◌∙◌, subst, inl, inr, ⊎_elim}
use mathlib.Core.Bool as bool
use Rattle.basis.specs.Arithmetic.{quotient, remainder_of, unsigned_quotient, unsigned_remainder_of, left_shift, right_shift}
use Rattle.basis.specs.Calls.{answer, as_int, as_bool, as_sym, as_unit, none, one, two, applied}
use Rattle.basis.specs.CallLaws.{type_of, Gives, Suits}
use Rattle.basis.specs.Types.{parameter_types, result_of, listed}
use Rattle.basis.specs.declared.applied.Applied.{Applied}
use Rattle.basis.specs.declared.applied.Applied.TheVariants.{Bool, Prints, Mismatch}
use Rattle.basis.specs.declared.basis_type.BasisType.{BasisType}
use Rattle.basis.specs.declared.basis_type.BasisType.TheVariants as type
use Rattle.basis.specs.declared.fault.ArithmeticFault.{ArithmeticFault}
use Rattle.basis.specs.declared.function.Basis.{Basis}
use Rattle.basis.specs.declared.function.Basis.TheVariants.{EqualInt, EqualBool, EqualSym, EqualUnit, Add, Subtract, Multiply, Divide, Remainder, UnsignedDivide, UnsignedRemainder, Negate, Greater, Less, GreaterOrEqual, LessOrEqual, Not, And, Or, Xor, BitAnd, BitOr, BitXor, ShiftLeft, ShiftRight, Complement, PrintInt, PrintBool, PrintSym, PrintUnit, PrintNewline, PrintAscii, Input}
use Rattle.basis.specs.declared.plain.Plain.{Plain}
use Rattle.basis.specs.declared.plain.Plain.TheVariants as plain
use Rattle.basis.specs.declared.print.Print.TheVariants as print

-- `use` goes on with a value of the type t, and with no other
abbrev Takes : {X : Type 0} → (Plain → (X → Applied) → Applied) → BasisType → Type 0
Takes {X} use' t = (v : Plain)
    → ((x : X) × (type_of v ≡ t) × ((f : X → Applied) → use' v f ≡ f x))
    ⊎ ((type_of v ≡ t → ⊥) × ((f : X → Applied) → use' v f ≡ Mismatch))

takes_int : Takes as_int type.Int
takes_int (plain.Int n) = inl (n, refl, λ f. refl)
takes_int (plain.Bool b) = inr (λ e. (cc), λ f. refl)
takes_int (plain.Sym n) = inr (λ e. (cc), λ f. refl)
takes_int plain.Unit = inr (λ e. (cc), λ f. refl)

takes_bool : Takes as_bool type.Bool
takes_bool (plain.Int n) = inr (λ e. (cc), λ f. refl)
takes_bool (plain.Bool b) = inl (b, refl, λ f. refl)
takes_bool (plain.Sym n) = inr (λ e. (cc), λ f. refl)
takes_bool plain.Unit = inr (λ e. (cc), λ f. refl)

takes_sym : Takes as_sym type.Sym
takes_sym (plain.Int n) = inr (λ e. (cc), λ f. refl)
takes_sym (plain.Bool b) = inr (λ e. (cc), λ f. refl)
takes_sym (plain.Sym n) = inl (n, refl, λ f. refl)
takes_sym plain.Unit = inr (λ e. (cc), λ f. refl)

abbrev of_unit : Plain → (Unit {0} → Applied) → Applied
of_unit v f = as_unit v (f tt)

takes_unit : Takes of_unit type.Unit
takes_unit (plain.Int n) = inr (λ e. (cc), λ f. refl)
takes_unit (plain.Bool b) = inr (λ e. (cc), λ f. refl)
takes_unit (plain.Sym n) = inr (λ e. (cc), λ f. refl)
takes_unit plain.Unit = inl (tt, refl, λ f. refl)

-- with the arguments' types ts, a call gives a result of the type t
abbrev Meets : List BasisType → BasisType → List Plain → Applied → Type 0
Meets ts t s a = (map type_of s ≡ ts → Gives t a) × ((map type_of s ≡ ts → ⊥) → a ≡ Mismatch)

meets_none : (t : BasisType) (a : Applied) → Gives t a → (s : List Plain) → Meets [] t s (none s a)
meets_none t a g [] = (λ _. g, λ h. absurd (h refl))
meets_none t a g (v ∷ s) = (λ e. (cc), λ _. refl)

module _ {X : Type 0} (use' : Plain → (X → Applied) → Applied) (u : BasisType) (takes : Takes use' u) (t : BasisType) where
  meets_one : (f : X → Applied) → ((x : X) → Gives t (f x)) → (s : List Plain) → Meets (u ∷ []) t s (one s (λ v. use' v f))
  meets_one f g [] = (λ e. (cc), λ _. refl)
  meets_one f g (v ∷ []) = ⊎_elim
      (λ k. (λ _. subst (Gives t) (sym (k.2 f)) (g k.0), λ h. absurd (h (ap (λ w. w ∷ []) k.1))))
      (λ k. (λ e. let same : type_of v ≡ u = cc in absurd (k.0 same), λ _. k.1 f))
      (takes v)
  meets_one f g (v ∷ w ∷ s) = (λ e. (cc), λ _. refl)

  meets_two : (f : X → X → Applied) → ((x y : X) → Gives t (f x y)) → (s : List Plain) → Meets (u ∷ u ∷ []) t s (two s (λ v w. use' v (λ a. use' w (λ b. f a b))))
  meets_two f g [] = (λ e. (cc), λ _. refl)
  meets_two f g (v ∷ []) = (λ e. (cc), λ _. refl)
  meets_two f g (v ∷ w ∷ []) = ⊎_elim
      (λ k. ⊎_elim
      (λ l. (
        λ _. subst (Gives t) (sym (k.2 (λ a. use' w (λ b. f a b)) ∙ l.2 (λ b. f k.0 b))) (g k.0 l.0),
        λ h. absurd (h (ap (λ p. p ∷ type_of w ∷ []) k.1 ∙ ap (λ p. u ∷ p ∷ []) l.1)),
      ))
      (λ l. (λ e. let same : type_of w ≡ u = cc in absurd (l.0 same), λ _. k.2 (λ a. use' w (λ b. f a b)) ∙ l.1 (λ b. f k.0 b)))
      (takes w))
      (λ k. (λ e. let same : type_of v ≡ u = cc in absurd (k.0 same), λ _. k.1 (λ a. use' w (λ b. f a b))))
      (takes v)
  meets_two f g (v ∷ w ∷ x ∷ s) = (λ e. (cc), λ _. refl)

answers : (r : Result ℤ ArithmeticFault) → Gives type.Int (answer r)
answers (Ok n) = refl
answers (Err f) = refl

meets : (b : Basis) (s : List Plain) → Meets (listed (parameter_types b)) (result_of b) s (applied b s)
meets EqualInt s = meets_two as_int type.Int takes_int type.Bool _ (λ _ _. refl) s
meets EqualBool s = meets_two as_bool type.Bool takes_bool type.Bool _ (λ _ _. refl) s
meets EqualSym s = meets_two as_sym type.Sym takes_sym type.Bool _ (λ _ _. refl) s
meets EqualUnit s = meets_two of_unit type.Unit takes_unit type.Bool (λ _ _. Bool bool.true) (λ _ _. refl) s
meets Add s = meets_two as_int type.Int takes_int type.Int _ (λ _ _. refl) s
meets Subtract s = meets_two as_int type.Int takes_int type.Int _ (λ _ _. refl) s
meets Multiply s = meets_two as_int type.Int takes_int type.Int _ (λ _ _. refl) s
meets Divide s = meets_two as_int type.Int takes_int type.Int _ (λ a b. answers (quotient a b)) s
meets Remainder s = meets_two as_int type.Int takes_int type.Int _ (λ a b. answers (remainder_of a b)) s
meets UnsignedDivide s = meets_two as_int type.Int takes_int type.Int _ (λ a b. answers (unsigned_quotient a b)) s
meets UnsignedRemainder s = meets_two as_int type.Int takes_int type.Int _ (λ a b. answers (unsigned_remainder_of a b)) s
meets Negate s = meets_one as_int type.Int takes_int type.Int _ (λ _. refl) s
meets Greater s = meets_two as_int type.Int takes_int type.Bool _ (λ _ _. refl) s
meets Less s = meets_two as_int type.Int takes_int type.Bool _ (λ _ _. refl) s
meets GreaterOrEqual s = meets_two as_int type.Int takes_int type.Bool _ (λ _ _. refl) s
meets LessOrEqual s = meets_two as_int type.Int takes_int type.Bool _ (λ _ _. refl) s
meets Not s = meets_one as_bool type.Bool takes_bool type.Bool _ (λ _. refl) s
meets And s = meets_two as_bool type.Bool takes_bool type.Bool _ (λ _ _. refl) s
meets Or s = meets_two as_bool type.Bool takes_bool type.Bool _ (λ _ _. refl) s
meets Xor s = meets_two as_bool type.Bool takes_bool type.Bool _ (λ _ _. refl) s
meets BitAnd s = meets_two as_int type.Int takes_int type.Int _ (λ _ _. refl) s
meets BitOr s = meets_two as_int type.Int takes_int type.Int _ (λ _ _. refl) s
meets BitXor s = meets_two as_int type.Int takes_int type.Int _ (λ _ _. refl) s
meets ShiftLeft s = meets_two as_int type.Int takes_int type.Int _ (λ a b. answers (left_shift a b)) s
meets ShiftRight s = meets_two as_int type.Int takes_int type.Int _ (λ a b. answers (right_shift a b)) s
meets Complement s = meets_one as_int type.Int takes_int type.Int _ (λ _. refl) s
meets PrintInt s = meets_one as_int type.Int takes_int type.Unit _ (λ _. refl) s
meets PrintBool s = meets_one as_bool type.Bool takes_bool type.Unit _ (λ _. refl) s
meets PrintSym s = meets_one as_sym type.Sym takes_sym type.Unit _ (λ _. refl) s
meets PrintUnit s = meets_one of_unit type.Unit takes_unit type.Unit (λ _. Prints print.Unit) (λ _. refl) s
meets PrintNewline s = meets_none type.Unit _ refl s
meets PrintAscii s = meets_one as_int type.Int takes_int type.Unit _ (λ _. refl) s
meets Input s = meets_none type.Int _ refl s

-- on arguments of the parameters' types a call gives what the function's type says
pub gives : (b : Basis) (s : List Plain) → Suits b s → Gives (result_of b) (applied b s)
gives b s h = (meets b s).0 h

-- and on all others there is a mismatch
pub mismatch : (b : Basis) (s : List Plain) → (Suits b s → ⊥) → applied b s ≡ Mismatch
mismatch b s h = (meets b s).1 h
