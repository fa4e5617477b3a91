-- Calls by their function's number; and of a symbol that is printed, the text speaks.
use Rattle.std.proofs.Common.{◌≡◌, ℕ, ◌-◌, Bool, List, [], ◌∷◌, ℤ, Some, None, Ok, Err, Option, Result, sym, refl, ap, subst}
use Rattle.std.specs.List.{slice_get}
use Rattle.basis.specs.Calls.{applied, answer, as_int, as_bool, as_sym, as_unit}
use Rattle.basis.specs.Numbers.{numbered}
use Rattle.basis.specs.declared.applied.Applied.{Applied}
use Rattle.basis.specs.declared.fault.ArithmeticFault.{ArithmeticFault}
use Rattle.basis.specs.declared.function.Basis.{Basis}
use Rattle.basis.specs.declared.function.Basis.TheVariants as basis
use Rattle.basis.specs.declared.plain.Plain.{Plain as BasisPlain}
use Rattle.basis.specs.declared.plain.Plain.TheVariants as plain
use Rattle.calling.specs.Applying.{plain_value, plain_in, on_plains, last_applied, SaysApplied}
use Rattle.cells.specs.Meaning.{Cells}
use Rattle.cells.specs.declared.values.Value.{Value}
use Rattle.data.specs.Standing.{plain_int, plain_bool, plain_symbol, plain_unit, plain_function}
use Rattle.data.specs.Taking.{Out, out_plain, out_cell}
use Rattle.data.specs.Trees.{Tree, Trees, more}
use Rattle.machine.specs.Mirrors.{Speaks}
use Rattle.machine.specs.Ready.{Quoted}
use Rattle.machine.specs.declared.frame.Held.{Held}
use Rattle.machine.specs.declared.frame.Held.TheVariants as held
use Rattle.program.specs.Programs.{Program, Define}
use Rattle.rules.specs.States.{Environment, Frame, Account, calls}
use Rattle.rules.specs.Steps.{Outcome, stuck, Sizes, take_arguments, apply, call_number, call_basis, call_define, and_plain}

-- What is printed is spoken for: only a symbol needs it, and only a call with one argument prints one.
module _ (P : Program) (text : List ℕ) where
  on_int : (v : BasisPlain) (F : ℤ → Applied) → ((z : ℤ) → SaysApplied P text (F z)) → SaysApplied P text (as_int v F)
  on_int (plain.Int z) F h = h z
  on_int (plain.Bool b) F h = tt
  on_int (plain.Sym n) F h = tt
  on_int plain.Unit F h = tt

  on_bool : (v : BasisPlain) (F : Bool → Applied) → ((b : Bool) → SaysApplied P text (F b)) → SaysApplied P text (as_bool v F)
  on_bool (plain.Int z) F h = tt
  on_bool (plain.Bool b) F h = h b
  on_bool (plain.Sym n) F h = tt
  on_bool plain.Unit F h = tt

  on_sym : (v : BasisPlain) (F : ℕ → Applied) → ((n : ℕ) → v ≡ plain.Sym n → SaysApplied P text (F n)) → SaysApplied P text (as_sym v F)
  on_sym (plain.Int z) F h = tt
  on_sym (plain.Bool b) F h = tt
  on_sym (plain.Sym n) F h = h n refl
  on_sym plain.Unit F h = tt

  on_unit : (v : BasisPlain) (r : Applied) → SaysApplied P text r → SaysApplied P text (as_unit v r)
  on_unit (plain.Int z) r h = tt
  on_unit (plain.Bool b) r h = tt
  on_unit (plain.Sym n) r h = tt
  on_unit plain.Unit r h = h

  on_answer : (r : Result ℤ ArithmeticFault) → SaysApplied P text (answer r)
  on_answer (Ok z) = tt
  on_answer (Err e) = tt

  pub says_none : (f : Basis) → SaysApplied P text (applied f [])
  says_none basis.EqualInt = tt
  says_none basis.EqualBool = tt
  says_none basis.EqualSym = tt
  says_none basis.EqualUnit = tt
  says_none basis.Add = tt
  says_none basis.Subtract = tt
  says_none basis.Multiply = tt
  says_none basis.Divide = tt
  says_none basis.Remainder = tt
  says_none basis.UnsignedDivide = tt
  says_none basis.UnsignedRemainder = tt
  says_none basis.Negate = tt
  says_none basis.Greater = tt
  says_none basis.Less = tt
  says_none basis.GreaterOrEqual = tt
  says_none basis.LessOrEqual = tt
  says_none basis.Not = tt
  says_none basis.And = tt
  says_none basis.Or = tt
  says_none basis.Xor = tt
  says_none basis.BitAnd = tt
  says_none basis.BitOr = tt
  says_none basis.BitXor = tt
  says_none basis.ShiftLeft = tt
  says_none basis.ShiftRight = tt
  says_none basis.Complement = tt
  says_none basis.PrintInt = tt
  says_none basis.PrintBool = tt
  says_none basis.PrintSym = tt
  says_none basis.PrintUnit = tt
  says_none basis.PrintNewline = tt
  says_none basis.PrintAscii = tt
  says_none basis.Input = tt

  says_one : (f : Basis) (v : BasisPlain) → ((n : ℕ) → v ≡ plain.Sym n → Quoted text P n) → SaysApplied P text (applied f (v ∷ []))
  says_one basis.EqualInt v h = tt
  says_one basis.EqualBool v h = tt
  says_one basis.EqualSym v h = tt
  says_one basis.EqualUnit v h = tt
  says_one basis.Add v h = tt
  says_one basis.Subtract v h = tt
  says_one basis.Multiply v h = tt
  says_one basis.Divide v h = tt
  says_one basis.Remainder v h = tt
  says_one basis.UnsignedDivide v h = tt
  says_one basis.UnsignedRemainder v h = tt
  says_one basis.Negate v h = on_int v _ (λ z. tt)
  says_one basis.Greater v h = tt
  says_one basis.Less v h = tt
  says_one basis.GreaterOrEqual v h = tt
  says_one basis.LessOrEqual v h = tt
  says_one basis.Not v h = on_bool v _ (λ b. tt)
  says_one basis.And v h = tt
  says_one basis.Or v h = tt
  says_one basis.Xor v h = tt
  says_one basis.BitAnd v h = tt
  says_one basis.BitOr v h = tt
  says_one basis.BitXor v h = tt
  says_one basis.ShiftLeft v h = tt
  says_one basis.ShiftRight v h = tt
  says_one basis.Complement v h = on_int v _ (λ z. tt)
  says_one basis.PrintInt v h = on_int v _ (λ z. tt)
  says_one basis.PrintBool v h = on_bool v _ (λ b. tt)
  says_one basis.PrintSym v h = on_sym v _ h
  says_one basis.PrintUnit v h = on_unit v _ tt
  says_one basis.PrintNewline v h = tt
  says_one basis.PrintAscii v h = on_int v _ (λ z. tt)
  says_one basis.Input v h = tt

  says_two : (f : Basis) (v w : BasisPlain) → SaysApplied P text (applied f (v ∷ w ∷ []))
  says_two basis.EqualInt v w = on_int v _ (λ a. on_int w _ (λ b. tt))
  says_two basis.EqualBool v w = on_bool v _ (λ a. on_bool w _ (λ b. tt))
  says_two basis.EqualSym v w = on_sym v _ (λ a i. on_sym w _ (λ b j. tt))
  says_two basis.EqualUnit v w = on_unit v _ (on_unit w _ tt)
  says_two basis.Add v w = on_int v _ (λ a. on_int w _ (λ b. tt))
  says_two basis.Subtract v w = on_int v _ (λ a. on_int w _ (λ b. tt))
  says_two basis.Multiply v w = on_int v _ (λ a. on_int w _ (λ b. tt))
  says_two basis.Divide v w = on_int v _ (λ a. on_int w _ (λ b. on_answer _))
  says_two basis.Remainder v w = on_int v _ (λ a. on_int w _ (λ b. on_answer _))
  says_two basis.UnsignedDivide v w = on_int v _ (λ a. on_int w _ (λ b. on_answer _))
  says_two basis.UnsignedRemainder v w = on_int v _ (λ a. on_int w _ (λ b. on_answer _))
  says_two basis.Negate v w = tt
  says_two basis.Greater v w = on_int v _ (λ a. on_int w _ (λ b. tt))
  says_two basis.Less v w = on_int v _ (λ a. on_int w _ (λ b. tt))
  says_two basis.GreaterOrEqual v w = on_int v _ (λ a. on_int w _ (λ b. tt))
  says_two basis.LessOrEqual v w = on_int v _ (λ a. on_int w _ (λ b. tt))
  says_two basis.Not v w = tt
  says_two basis.And v w = on_bool v _ (λ a. on_bool w _ (λ b. tt))
  says_two basis.Or v w = on_bool v _ (λ a. on_bool w _ (λ b. tt))
  says_two basis.Xor v w = on_bool v _ (λ a. on_bool w _ (λ b. tt))
  says_two basis.BitAnd v w = on_int v _ (λ a. on_int w _ (λ b. tt))
  says_two basis.BitOr v w = on_int v _ (λ a. on_int w _ (λ b. tt))
  says_two basis.BitXor v w = on_int v _ (λ a. on_int w _ (λ b. tt))
  says_two basis.ShiftLeft v w = on_int v _ (λ a. on_int w _ (λ b. on_answer _))
  says_two basis.ShiftRight v w = on_int v _ (λ a. on_int w _ (λ b. on_answer _))
  says_two basis.Complement v w = tt
  says_two basis.PrintInt v w = tt
  says_two basis.PrintBool v w = tt
  says_two basis.PrintSym v w = tt
  says_two basis.PrintUnit v w = tt
  says_two basis.PrintNewline v w = tt
  says_two basis.PrintAscii v w = tt
  says_two basis.Input v w = tt

  speaks_plain : {m m₀ : Cells} {v : Value} {vs : List Value} {t : Tree} {ts : Trees} → Speaks P text t → Out m (v ∷ vs) (more t ts) m₀ → (n : ℕ) → plain_value v ≡ Some (plain.Sym n) → Quoted text P n
  speaks_plain h (out_plain plain_int o) n e = absurd (cc)
  speaks_plain h (out_plain plain_bool o) n e = absurd (cc)
  speaks_plain h (out_plain (plain_symbol {n = k}) o) n e = let is : k ≡ n = cc in subst (Quoted text P) is h
  speaks_plain h (out_plain plain_unit o) n e = absurd (cc)
  speaks_plain h (out_plain plain_function o) n e = absurd (cc)
  speaks_plain h (out_cell r a k o) n e = absurd (cc)

  says_plain : (f : Basis) (q : Option BasisPlain) → ((n : ℕ) → q ≡ Some (plain.Sym n) → Quoted text P n) → SaysApplied P text (on_plains f (and_plain q (Some [])))
  says_plain f None h = tt
  says_plain f (Some v) h = says_one f v (λ n e. h n (ap Some e))

  says_plains : (f : Basis) (p q : Option BasisPlain) → SaysApplied P text (on_plains f (and_plain p (and_plain q (Some []))))
  says_plains f None q = tt
  says_plains f (Some v) None = tt
  says_plains f (Some v) (Some w) = says_two f v w

  pub says_last : (f : Basis) (h : Held) (u : Option Value) {m m₀ : Cells} {v : Value} {vs : List Value} {t : Tree} {ts : Trees} → Speaks P text t → Out m (v ∷ vs) (more t ts) m₀ → SaysApplied P text (last_applied f h u v)
  says_last f held.None u {v = v} s o = says_plain f (plain_value v) (speaks_plain s o)
  says_last f held.One u {v = v} s o = says_plains f (plain_in u) (plain_value v)
  says_last f held.More u s o = tt

-- a call by the number of its function
module _ (P : Program) (Z : Sizes) (p n k : ℕ) (K : List Frame) (env : Environment) (a : Account) where
  pub call_basis_rule : (f : Basis) → numbered n ≡ Some f → apply P Z p (calls n) k K env a ≡ call_basis P Z f K a (take_arguments k env)
  unfolding apply call_number
  call_basis_rule f e = ap (λ o. call_number P Z p n k K env a o (slice_get P.defines (n - 33))) e

  by_define : (Q : Outcome → Type 0) (o : Option Define) → ((d : Define) → o ≡ Some d → Q (call_define P Z p d K a (take_arguments k env))) → Q stuck → Q (call_number P Z p n k K env a None o)
  unfolding call_number
  by_define Q None g q = q
  by_define Q (Some d) g q = g d refl

  pub define_as : (Q : Outcome → Type 0) → numbered n ≡ None → ((d : Define) → slice_get P.defines (n - 33) ≡ Some d → Q (call_define P Z p d K a (take_arguments k env))) → Q stuck → Q (apply P Z p (calls n) k K env a)
  unfolding apply
  define_as Q e g q = subst (λ o. Q (call_number P Z p n k K env a o (slice_get P.defines (n - 33)))) (sym e) (by_define Q (slice_get P.defines (n - 33)) g q)
