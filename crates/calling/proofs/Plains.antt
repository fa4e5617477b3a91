-- A function of the basis on arguments of the rules, and on the values that stand for them.
use Rattle.std.proofs.Common.{◌≡◌, ℕ, zero, suc, ◌+◌, ◌≤◌, ◌⊎◌, inl, inr, List, [], ◌∷◌, ◌++◌, map, length, drop, Some, None, Option, sym, refl, ap, ◌∙◌, subst, arith}
use Rattle.std.specs.List.{slice_get}
use Rattle.basis.specs.Calls.{applied}
use Rattle.basis.specs.declared.applied.Applied.TheVariants.{Mismatch}
use Rattle.basis.specs.declared.function.Basis.{Basis}
use Rattle.basis.specs.declared.function.Basis.TheVariants as basis
use Rattle.basis.specs.declared.plain.Plain.{Plain as BasisPlain}
use Rattle.calling.specs.Applying.{plain_value, on_plains, last_applied, held_count}
use Rattle.cells.specs.Meaning.{Cells}
use Rattle.cells.specs.declared.values.Value.{Value}
use Rattle.data.proofs.Outs.{tally}
use Rattle.data.specs.Standing.{Plain, plain_int, plain_bool, plain_symbol, plain_unit, plain_function}
use Rattle.data.specs.Taking.{Out, out_plain, out_cell}
use Rattle.data.specs.Trees.{Tree, Trees, none, more}
use Rattle.machine.proofs.Arguments.{Takes, takes, takes_short, taken}
use Rattle.machine.specs.Holding.{values_in, is_full, trees_in, holds, names, full_value}
use Rattle.machine.specs.Waiting.{held_of}
use Rattle.machine.specs.declared.frame.Held.{Held}
use Rattle.machine.specs.declared.frame.Held.TheVariants as held
use Rattle.machine.specs.Holding.{Slot}
use Rattle.program.specs.Programs.{Program}
use Rattle.rules.specs.States.{Entry, full, empty, argument, Environment, Frame, Account}
use Rattle.rules.specs.Steps.{Outcome, stuck, Sizes, Taken, took, short, take_arguments, plain_of, and_plain, plains_of, call_basis, call_plain, answer}

plain_same : {v : Value} {t : Tree} → Plain v t → plain_of t ≡ plain_value v
plain_same plain_int = refl
plain_same plain_bool = refl
plain_same plain_symbol = refl
plain_same plain_unit = refl
plain_same plain_function = refl

-- the first value of a row is plain to the rules if it is to the machine
pub plain_first : {m m₀ : Cells} {v : Value} {vs : List Value} {t : Tree} {ts : Trees} → Out m (v ∷ vs) (more t ts) m₀ → plain_of t ≡ plain_value v
plain_first (out_plain p o) = plain_same p
plain_first (out_cell r e k o) = refl

-- and may then go
pub plain_gone : {m m₀ : Cells} {v : Value} {vs : List Value} {t : Tree} {ts : Trees} {p : BasisPlain} → plain_value v ≡ Some p → Out m (v ∷ vs) (more t ts) m₀ → Out m vs ts m₀
plain_gone e (out_plain p o) = o
plain_gone e (out_cell r h k o) = absurd (cc)

and_none : (p : Option BasisPlain) → and_plain p None ≡ None
and_none None = refl
and_none (Some p) = refl

-- an argument's value
abbrev tree_taken : Entry → Option Tree
tree_taken (full x t) = None
tree_taken (empty x) = None
tree_taken (argument t) = Some t

-- no function takes more than two arguments
applied_many : (f : Basis) (p q r : BasisPlain) (vs : List BasisPlain) → applied f (p ∷ q ∷ r ∷ vs) ≡ Mismatch
applied_many basis.EqualInt p q r vs = refl
applied_many basis.EqualBool p q r vs = refl
applied_many basis.EqualSym p q r vs = refl
applied_many basis.EqualUnit p q r vs = refl
applied_many basis.Add p q r vs = refl
applied_many basis.Subtract p q r vs = refl
applied_many basis.Multiply p q r vs = refl
applied_many basis.Divide p q r vs = refl
applied_many basis.Remainder p q r vs = refl
applied_many basis.UnsignedDivide p q r vs = refl
applied_many basis.UnsignedRemainder p q r vs = refl
applied_many basis.Negate p q r vs = refl
applied_many basis.Greater p q r vs = refl
applied_many basis.Less p q r vs = refl
applied_many basis.GreaterOrEqual p q r vs = refl
applied_many basis.LessOrEqual p q r vs = refl
applied_many basis.Not p q r vs = refl
applied_many basis.And p q r vs = refl
applied_many basis.Or p q r vs = refl
applied_many basis.Xor p q r vs = refl
applied_many basis.BitAnd p q r vs = refl
applied_many basis.BitOr p q r vs = refl
applied_many basis.BitXor p q r vs = refl
applied_many basis.ShiftLeft p q r vs = refl
applied_many basis.ShiftRight p q r vs = refl
applied_many basis.Complement p q r vs = refl
applied_many basis.PrintInt p q r vs = refl
applied_many basis.PrintBool p q r vs = refl
applied_many basis.PrintSym p q r vs = refl
applied_many basis.PrintUnit p q r vs = refl
applied_many basis.PrintNewline p q r vs = refl
applied_many basis.PrintAscii p q r vs = refl
applied_many basis.Input p q r vs = refl

and_some : (p : Option BasisPlain) (q : Option (List BasisPlain)) (vs : List BasisPlain) → and_plain p q ≡ Some vs → (ws : List BasisPlain) × (q ≡ Some ws) × (length vs ≡ suc (length ws))
and_some None q vs e = absurd (cc)
and_some (Some p) None vs e = absurd (cc)
and_some (Some p) (Some ws) vs e = let is : p ∷ ws ≡ vs = cc in (ws, refl, ap length (sym is))

plains_count : (ts : Trees) (vs : List BasisPlain) → plains_of ts ≡ Some vs → tally ts ≡ length vs
plains_count none vs e = let is : [] ≡ vs = cc in ap length is
plains_count (more t ts) vs e = let u = and_some (plain_of t) (plains_of ts) vs e in omega (arith, plains_count ts u.0 u.1, u.2)

-- What the rules say of the call: nothing, or an answer, over the entries that are left below the arguments.
module _ (P : Program) (Z : Sizes) (f : Basis) (K : List Frame) (a : Account) where
  pub record Answered (h : Held) (k : ℕ) (ss : List Slot) (env es : Environment) (v : Value) (t : Tree) (m m₀ : Cells) (o : Outcome) : Type 0 where
    pub left : Environment
    pub is : o ≡ answer P Z f K left a (last_applied f h (full_value (slice_get ss 0)) v)
    pub names_left : names left ≡ drop k (names env)
    pub full : map is_full (drop (held_count h) ss) ≡ map holds (left ++ es)
    pub data_held : Out m (values_in (drop (held_count h) ss)) (trees_in (left ++ es)) m₀

  -- the call, by its arguments as the basis takes them
  call_none : (env : Environment) → call_plain P Z f K env a None ≡ stuck
  unfolding call_plain
  call_none env = refl

  call_some : (env : Environment) (vs : List BasisPlain) → call_plain P Z f K env a (Some vs) ≡ answer P Z f K env a (on_plains f (Some vs))
  unfolding call_plain
  call_some env vs = refl

  one_taken : (t : Tree) (env : Environment) → call_basis P Z f K a (take_arguments 1 (argument t ∷ env)) ≡ call_plain P Z f K env a (and_plain (plain_of t) (Some []))
  unfolding call_basis
  one_taken t env = refl

  one_by : (ss : List Slot) (env es : Environment) {v : Value} {t : Tree} {m m₀ : Cells} (q : Option BasisPlain) → plain_value v ≡ q → map is_full ss ≡ map holds (env ++ es) → Out m (v ∷ values_in ss) (more t (trees_in (env ++ es))) m₀
      → (call_basis P Z f K a (take_arguments 1 (argument t ∷ env)) ≡ stuck) ⊎ Answered held.None 0 ss env es v t m m₀ (call_basis P Z f K a (take_arguments 1 (argument t ∷ env)))
  one_by ss env es {v} {t} None e h o =
      inl (one_taken t env ∙ (ap (λ q. call_plain P Z f K env a (and_plain q (Some []))) (plain_first o ∙ e) ∙ call_none env))
  one_by ss env es {v} {t} (Some p) e h o = inr (record {
    left = env;
    is = one_taken t env ∙ (ap (λ q. call_plain P Z f K env a (and_plain q (Some []))) (plain_first o ∙ e) ∙ (call_some env (p ∷ []) ∙ ap (λ q. answer P Z f K env a (on_plains f (and_plain q (Some [])))) (sym e)));
    names_left = refl;
    full = h;
    data_held = plain_gone e o;
  })

  -- one argument
  pub answered_one : (ss : List Slot) (env es : Environment) {v : Value} {t : Tree} {m m₀ : Cells} → map is_full ss ≡ map holds (env ++ es) → Out m (v ∷ values_in ss) (more t (trees_in (env ++ es))) m₀
      → (call_basis P Z f K a (take_arguments 1 (argument t ∷ env)) ≡ stuck) ⊎ Answered held.None 0 ss env es v t m m₀ (call_basis P Z f K a (take_arguments 1 (argument t ∷ env)))
  answered_one ss env es {v} h o = one_by ss env es (plain_value v) refl h o

  two_taken : (t u : Tree) (env : Environment) → call_basis P Z f K a (take_arguments 2 (argument t ∷ argument u ∷ env)) ≡ call_plain P Z f K env a (and_plain (plain_of u) (and_plain (plain_of t) (Some [])))
  unfolding call_basis
  two_taken t u env = refl

  two_by : (ss : List Slot) (w : Value) (env es : Environment) {v : Value} {t u : Tree} {m m₀ : Cells} (q r : Option BasisPlain) → plain_value v ≡ q → plain_value w ≡ r → map is_full ss ≡ map holds (env ++ es)
      → Out m (v ∷ w ∷ values_in ss) (more t (more u (trees_in (env ++ es)))) m₀
      → (call_basis P Z f K a (take_arguments 2 (argument t ∷ argument u ∷ env)) ≡ stuck)
      ⊎ Answered held.One 1 (Some w ∷ ss) (argument u ∷ env) es v t m m₀ (call_basis P Z f K a (take_arguments 2 (argument t ∷ argument u ∷ env)))
  two_by ss w env es {v} {t} {u} None r e d h o =
      inl (two_taken t u env ∙ (ap (λ q. call_plain P Z f K env a (and_plain (plain_of u) (and_plain q (Some [])))) (plain_first o ∙ e) ∙ (ap (call_plain P Z f K env a) (and_none (plain_of u)) ∙ call_none env)))
  two_by ss w env es {v} {t} {u} (Some p) None e d h o =
      let below = plain_gone e o in
      inl (two_taken t u env ∙ (ap (λ q. call_plain P Z f K env a (and_plain q (and_plain (plain_of t) (Some [])))) (plain_first below ∙ d) ∙ call_none env))
  two_by ss w env es {v} {t} {u} (Some p) (Some q) e d h o =
      let below = plain_gone e o in
      inr (record {
        left = env;
        is = two_taken t u env ∙ (ap (λ q. call_plain P Z f K env a (and_plain q (and_plain (plain_of t) (Some [])))) (plain_first below ∙ d) ∙ (ap (λ p. call_plain P Z f K env a (and_plain (Some q) (and_plain p (Some [])))) (plain_first o ∙ e)
            ∙ (call_some env (q ∷ p ∷ []) ∙ (ap (λ r. answer P Z f K env a (on_plains f (and_plain r (and_plain (Some p) (Some []))))) (sym d) ∙ ap (λ r. answer P Z f K env a (on_plains f (and_plain (plain_value w) (and_plain r (Some []))))) (sym e)))));
        names_left = refl;
        full = h;
        data_held = plain_gone d below;
      })

  too_few : (t : Tree) (s : Entry) (env : Environment) → tree_taken s ≡ None → call_basis P Z f K a (take_arguments 2 (argument t ∷ s ∷ env)) ≡ stuck
  unfolding call_basis
  too_few t (full x u) env e = refl
  too_few t (empty x) env e = refl
  too_few t (argument u) env e = absurd (cc)

  none_below : (t : Tree) → call_basis P Z f K a (take_arguments 2 (argument t ∷ [])) ≡ stuck
  unfolding call_basis
  none_below t = refl

  -- two arguments
  pub answered_two : (ss : List Slot) (env es : Environment) {v : Value} {t : Tree} {m m₀ : Cells} → map is_full ss ≡ map holds (env ++ es) → Out m (v ∷ values_in ss) (more t (trees_in (env ++ es))) m₀
      → (call_basis P Z f K a (take_arguments 2 (argument t ∷ env)) ≡ stuck) ⊎ Answered held.One 1 ss env es v t m m₀ (call_basis P Z f K a (take_arguments 2 (argument t ∷ env)))
  answered_two ss [] es {t = t} h o = inl (none_below t)
  answered_two ss (full x u ∷ env) es {t = t} h o = inl (too_few t (full x u) env refl)
  answered_two ss (empty x ∷ env) es {t = t} h o = inl (too_few t (empty x) env refl)
  answered_two [] (argument u ∷ env) es h o = absurd (cc)
  answered_two (Some w ∷ ss) (argument u ∷ env) es {v} h o = two_by ss w env es (plain_value v) (plain_value w) refl refl (cc) o
  answered_two (None ∷ ss) (argument u ∷ env) es h o = absurd (cc)

  many_plain : (vs : List BasisPlain) → 3 ≤ length vs → (env : Environment) → call_plain P Z f K env a (Some vs) ≡ stuck
  unfolding call_plain answer
  many_plain [] l env = absurd (omega arith)
  many_plain (p ∷ []) l env = absurd (omega arith)
  many_plain (p ∷ q ∷ []) l env = absurd (omega arith)
  many_plain (p ∷ q ∷ r ∷ vs) l env = ap (answer P Z f K env a) (applied_many f p q r vs)

  many_by : (env : Environment) (ts : Trees) (o : Option (List BasisPlain)) → plains_of ts ≡ o → 3 ≤ tally ts → call_plain P Z f K env a (plains_of ts) ≡ stuck
  many_by env ts None e l = ap (call_plain P Z f K env a) e ∙ call_none env
  many_by env ts (Some vs) e l = ap (call_plain P Z f K env a) e ∙ many_plain vs (subst (λ n. 3 ≤ n) (plains_count ts vs e) l) env

  more_taken : (k : ℕ) (E : Environment) (t : Taken) → Takes k E t → 3 ≤ k → call_basis P Z f K a t ≡ stuck
  unfolding call_basis
  more_taken k E (took ts env) (takes e n) l = many_by env ts (plains_of ts) refl (omega arith)
  more_taken k E short takes_short l = refl

  -- so many arguments are held, and one more is there
  pub answered_last : (h : Held) (k : ℕ) (ss : List Slot) (env es : Environment) {v : Value} {t : Tree} {m m₀ : Cells} → h ≡ held_of k → map is_full ss ≡ map holds (env ++ es) → Out m (v ∷ values_in ss) (more t (trees_in (env ++ es))) m₀
      → (call_basis P Z f K a (take_arguments (k + 1) (argument t ∷ env)) ≡ stuck) ⊎ Answered h k ss env es v t m m₀ (call_basis P Z f K a (take_arguments (k + 1) (argument t ∷ env)))
  answered_last h zero ss env es {v} {t} {m} {m₀} e d o = subst (λ h. (call_basis P Z f K a (take_arguments 1 (argument t ∷ env)) ≡ stuck) ⊎ Answered h 0 ss env es v t m m₀ (call_basis P Z f K a (take_arguments 1 (argument t ∷ env)))) (sym e) (answered_one ss env es d o)
  answered_last h (suc zero) ss env es {v} {t} {m} {m₀} e d o = subst (λ h. (call_basis P Z f K a (take_arguments 2 (argument t ∷ env)) ≡ stuck) ⊎ Answered h 1 ss env es v t m m₀ (call_basis P Z f K a (take_arguments 2 (argument t ∷ env)))) (sym e) (answered_two ss env es d o)
  answered_last h (suc (suc k)) ss env es {t = t} e d o = inl (more_taken (suc (suc k) + 1) (argument t ∷ env) _ (taken (suc (suc k) + 1) (argument t ∷ env)) (omega arith))
