-- The value that a test of an if, or the head of an application, hands over.
use Rattle.std.proofs.Common.{◌≡◌, ℕ, Bool, List, [], ◌∷◌, refl, subst}
use Rattle.cells.specs.Meaning.{Cells}
use Rattle.cells.specs.declared.values.Value.{Value}
use Rattle.cells.specs.declared.values.Value.TheVariants.{Bool as Truth, Function}
use Rattle.data.proofs.Moves.{plain_out}
use Rattle.data.specs.Standing.{plain_bool, plain_function}
use Rattle.data.specs.Taking.{Out, out_plain}
use Rattle.data.specs.Trees.{Tree, Trees, int, bool, symbol, unit, function, built, more}
use Rattle.grammar.specs.Trees.{Expr, Exprs, Bindings, no_bindings, and_binding}
use Rattle.program.specs.Programs.{Program}
use Rattle.rules.specs.States.{Environment, Frame, Account, State}
use Rattle.rules.specs.Steps.{goes, stuck, Sizes, test_handed, head_handed, bind_next}

-- the value of a bool, and of a function
pub value_bool : {m m₀ : Cells} {v : Value} {vs : List Value} {b : Bool} {ts : Trees} → Out m (v ∷ vs) (more (bool b) ts) m₀ → v ≡ Truth b
value_bool (out_plain plain_bool o) = refl

pub value_function : {m m₀ : Cells} {v : Value} {vs : List Value} {n : ℕ} {ts : Trees} → Out m (v ∷ vs) (more (function n) ts) m₀ → v ≡ Function n
value_function (out_plain plain_function o) = refl

pub tree_bool : {m m₀ : Cells} {v : Value} {vs : List Value} {t : Tree} {ts : Trees} {b : Bool} → v ≡ Truth b → Out m (v ∷ vs) (more t ts) m₀ → (t ≡ bool b) × Out m vs ts m₀
tree_bool {m} {m₀} {vs = vs} {t = t} {ts = ts} e o = plain_out plain_bool (subst (λ v. Out m (v ∷ vs) (more t ts) m₀) e o)

pub tree_function : {m m₀ : Cells} {v : Value} {vs : List Value} {t : Tree} {ts : Trees} {n : ℕ} → v ≡ Function n → Out m (v ∷ vs) (more t ts) m₀ → (t ≡ function n) × Out m vs ts m₀
tree_function {m} {m₀} {vs = vs} {t = t} {ts = ts} e o = plain_out plain_function (subst (λ v. Out m (v ∷ vs) (more t ts) m₀) e o)

module _ (P : Program) (Z : Sizes) (p : ℕ) (K : List Frame) (env : Environment) (a : Account) where
  pub no_test : (x y : Expr) (t : Tree) {m m₀ : Cells} {v : Value} {vs : List Value} {ts : Trees} → ((b : Bool) → v ≡ Truth b → ⊥) → Out m (v ∷ vs) (more t ts) m₀ → test_handed P Z p x y K env a t ≡ stuck
  unfolding test_handed
  no_test x y (int z) n o = refl
  no_test x y (bool b) n o = absurd (n b (value_bool o))
  no_test x y (symbol k) n o = refl
  no_test x y unit n o = refl
  no_test x y (function k) n o = refl
  no_test x y (built c vs) n o = refl

  pub no_head : (es : Exprs) (t : Tree) {m m₀ : Cells} {v : Value} {vs : List Value} {ts : Trees} → ((k : ℕ) → v ≡ Function k → ⊥) → Out m (v ∷ vs) (more t ts) m₀ → head_handed P Z p es K env a t ≡ stuck
  unfolding head_handed
  no_head es (int z) n o = refl
  no_head es (bool b) n o = refl
  no_head es (symbol k) n o = refl
  no_head es unit n o = refl
  no_head es (function k) n o = absurd (n k (value_function o))
  no_head es (built c vs) n o = refl

-- a let always goes on
pub let_goes : (P : Program) (Z : Sizes) (p : ℕ) (bs : Bindings) (e : Expr) (n : ℕ) (K : List Frame) (env : Environment) (a : Account) → (s : State) × (bind_next P Z p bs e n K env a ≡ goes [] s)
unfolding bind_next
let_goes P Z p no_bindings e n K env a = (_, refl)
let_goes P Z p (and_binding q x f bs) e n K env a = (_, refl)
