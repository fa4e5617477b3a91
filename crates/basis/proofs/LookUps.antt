-- The look-up of a name finds exactly the function that has it.
use Rattle.std.proofs.Common.{◌≡◌, ℕ, Bool, true, false, cond, List, [], ◌∷◌, ◌++◌, Some, None, Option, sym, refl, ap, ◌∙◌, MatchOption}
use Rattle.std.proofs.lemmas.Slice.Eq.{bytes_eq-Decides}
use Rattle.std.specs.Str.{bytes_eq}
use Rattle.basis.specs.Names.{name_of, first_named, named}
use Rattle.basis.specs.Numbers.{every_function}
use Rattle.basis.specs.declared.function.Basis.{Basis}
use Rattle.basis.specs.declared.function.Basis.TheVariants.{EqualInt, EqualBool, EqualSym, EqualUnit, Add, Subtract, Multiply, Divide, Remainder, UnsignedDivide, UnsignedRemainder, Negate, Greater, Less, GreaterOrEqual, LessOrEqual, Not, And, Or, Xor, BitAnd, BitOr, BitXor, ShiftLeft, ShiftRight, Complement, PrintInt, PrintBool, PrintSym, PrintUnit, PrintNewline, PrintAscii, Input}

module _ (word : List ℕ) where
  -- a name that is found in the first of two lists
  here : (bs cs : List Basis) (b : Basis) → Some b ≡ first_named word bs → Some b ≡ first_named word (bs ++ cs)
  here [] cs b e = (cc)
  here (x ∷ bs) cs b e = by (bytes_eq word (name_of x)) (here bs cs b) e
    where
      by : (t : Bool) → (Some b ≡ first_named word bs → Some b ≡ first_named word (bs ++ cs))
          → Some b ≡ cond t (Some x) (first_named word bs) → Some b ≡ cond t (Some x) (first_named word (bs ++ cs))
      by true more e = e
      by false more e = more e

  -- a name that is not found there
  later : (bs cs : List Basis) → None ≡ first_named word bs → first_named word cs ≡ first_named word (bs ++ cs)
  later [] cs e = refl
  later (x ∷ bs) cs e = by (bytes_eq word (name_of x)) (later bs cs) e
    where
      by : (t : Bool) → (None ≡ first_named word bs → first_named word cs ≡ first_named word (bs ++ cs))
          → None ≡ cond t (Some x) (first_named word bs) → first_named word cs ≡ cond t (Some x) (first_named word (bs ++ cs))
      by true more e = (cc)
      by false more e = more e

  -- what is found has that name
  sound : (bs : List Basis) (b : Basis) → Some b ≡ first_named word bs → name_of b ≡ word
  sound [] b e = (cc)
  sound (x ∷ bs) b e = by (bytes_eq word (name_of x)) refl (sound bs b) e
    where
      by : (t : Bool) → bytes_eq word (name_of x) ≡ t → (Some b ≡ first_named word bs → name_of b ≡ word)
          → Some b ≡ cond t (Some x) (first_named word bs) → name_of b ≡ word
      by true p more e = let same : b ≡ x = cc in ap name_of same ∙ sym ((bytes_eq-Decides word (name_of x)).0 p)
      by false p more e = more e

  -- what is found in one list, or else in another, is what is found in both
  pub either : {P : Type 0} (bs cs : List Basis) (a r : Option Basis) → a ≡ first_named word bs → (P → r ≡ first_named word cs) → MatchOption a P (λ b. r ≡ Some b) → r ≡ first_named word (bs ++ cs)
  either bs cs None r e f m = f m ∙ later bs cs e
  either bs cs (Some b) r e f m = m ∙ here bs cs b e

-- every function is found by its name, so no two have one name
pub by_name : (b : Basis) → named (name_of b) ≡ Some b
by_name EqualInt = refl
by_name EqualBool = refl
by_name EqualSym = refl
by_name EqualUnit = refl
by_name Add = refl
by_name Subtract = refl
by_name Multiply = refl
by_name Divide = refl
by_name Remainder = refl
by_name UnsignedDivide = refl
by_name UnsignedRemainder = refl
by_name Negate = refl
by_name Greater = refl
by_name Less = refl
by_name GreaterOrEqual = refl
by_name LessOrEqual = refl
by_name Not = refl
by_name And = refl
by_name Or = refl
by_name Xor = refl
by_name BitAnd = refl
by_name BitOr = refl
by_name BitXor = refl
by_name ShiftLeft = refl
by_name ShiftRight = refl
by_name Complement = refl
by_name PrintInt = refl
by_name PrintBool = refl
by_name PrintSym = refl
by_name PrintUnit = refl
by_name PrintNewline = refl
by_name PrintAscii = refl
by_name Input = refl

pub exact : (word : List ℕ) (r : Option Basis) → r ≡ named word → MatchOption r ((b : Basis) → name_of b ≡ word → ⊥) (λ b. name_of b ≡ word)
exact word None e = λ b h. let f = by_name b in let g = ap named h in (cc)
exact word (Some b) e = sound word every_function b e
