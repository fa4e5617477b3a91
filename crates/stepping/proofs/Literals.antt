-- The literals that a machine enters are those of the script, and its text quotes them.
use Rattle.std.proofs.Common.{◌≡◌, ℕ, List, sym, refl, subst}
use Rattle.cells.specs.Meaning.{Cells}
use Rattle.data.specs.Trees.{Tree, int, bool, symbol, unit, function, built}
use Rattle.grammar.specs.Trees as tree
use Rattle.grammar.specs.Trees.{Expr}
use Rattle.layout.specs.Literals.{place_of_first}
use Rattle.machine.specs.Holding.{names}
use Rattle.machine.specs.Mirrors.{Mirrors, mirrors, Speaks}
use Rattle.machine.specs.Ready.{IsSymbol, Quoted}
use Rattle.machine.specs.Waiting.{Next, next_enter}
use Rattle.machine.specs.declared.control.Control.{Control as Ahead}
use Rattle.machine.specs.declared.machine.Machine.{Machine}
use Rattle.program.specs.Programs.{Program}
use Rattle.program.specs.Scopes.{Scope}
use Rattle.program.specs.Standing as stands
use Rattle.program.specs.Standing.{at, Stands}
use Rattle.program.specs.declared.code.Code.{Code}
use Rattle.program.specs.declared.code.Op.{Op}
use Rattle.program.specs.declared.code.Op.TheVariants as op
use Rattle.rules.specs.States.{opened, enter, finished, over, State, st}
use Rattle.rules.specs.Steps.{Sizes}
use Rattle.stepping.proofs.Speech.{Literals}
use Rattle.stepping.specs.Speaking.{SymbolsIn}

-- a symbol that is handed over
pub speaks : (P : Program) (text : List ℕ) (t : Tree) → ((n : ℕ) → IsSymbol P n → Quoted text P n) → SymbolsIn (IsSymbol P) t → Speaks P text t
speaks P text (int z) q h = tt
speaks P text (bool b) q h = tt
speaks P text (symbol n) q h = q n h
speaks P text unit q h = tt
speaks P text (function n) q h = tt
speaks P text (built c vs) q h = tt

module _ {P : Program} {cs : List Code} where
  symbol_stands : {G : Scope} {o : Op} {p i : ℕ} {w : List ℕ} → Stands P cs G o (tree.symbol p w) i → (n : ℕ) × (o ≡ op.Symbol n) × (place_of_first P.literals w ≡ n)
  symbol_stands (stands.symbol q e) = (_, refl, e)

  symbol_next : {G : Scope} {k : Ahead} {p : ℕ} {w : List ℕ} → ((i n : ℕ) → (at P cs i).op ≡ op.Symbol n → IsSymbol P n) → Next P cs G (enter (tree.symbol p w)) k → IsSymbol P (place_of_first P.literals w)
  symbol_next q (next_enter {i = i} S) = let s = symbol_stands S in subst (IsSymbol P) (sym s.2) (q i s.0 s.1)

pub literals : {P : Program} {Z : Sizes} {m₀ m : Cells} {r : Machine} (s : State) → Mirrors P Z m₀ s r m → Literals (IsSymbol P) P s
literals (st K env opened a) M = tt
literals {P} {r = r} (st K env (enter x) a) (mirrors R N) = λ p w e. symbol_next R.ready.symbols (subst (λ x. Next P r.script.now.code (names env) (enter x) r.control) e N)
literals (st K env (finished v) a) M = tt
literals (st K env over a) M = tt
