-- How a let goes on.
use Rattle.std.proofs.Common.{◌≡◌, ℕ, ◌+◌, List, ◌∷◌, drop, Some, sym, refl, subst, arith}
use Rattle.grammar.specs.Trees.{Expr, Bindings}
use Rattle.machine.proofs.Nodes.{stands_no_binding}
use Rattle.machine.specs.Going.{LetGoes}
use Rattle.machine.specs.Holding.{names}
use Rattle.machine.specs.Waiting.{PlacedAt, Waits, waits_binding, waits_leaving}
use Rattle.machine.specs.declared.frame.Frame.TheVariants as waiting
use Rattle.program.specs.Compiling.{let_scope}
use Rattle.program.specs.Programs.{Program}
use Rattle.program.specs.Standing.{at, past, StandsAt, StandsBindings, bindings_none, bindings_more}
use Rattle.program.specs.declared.code.Code.{Code}
use Rattle.program.specs.declared.code.Op.TheVariants as op
use Rattle.rules.specs.States.{Environment, let_binding, scope_end}
use Rattle.rules.specs.Steps.{bind_next}

module _ {P : Program} {cs : List Code} {env : Environment} (p i n : ℕ) (here : PlacedAt P cs i p) where
  -- another binding follows
  pub goes_further : {bs : Bindings} {e : Expr} {j k node q : ℕ} → StandsBindings P cs (names env) bs j k → StandsAt P cs (let_scope bs (names env)) e k → (at P cs j).op ≡ op.Binding
      → node ≡ j + 1 → q ≡ past P cs j → LetGoes P cs p bs e n env (record { frame = waiting.Binding i q n; node = node })
  unfolding bind_next
  goes_further bindings_none S b h r = absurd (stands_no_binding S b)
  goes_further {k = k} (bindings_more {x = x} {e = f} {bs = bs} o T B) S b h r = record {
    frame = let_binding p x bs _ n;
    part = f;
    is = λ Z K a. refl;
    keeps_none = refl;
    stands = subst (StandsAt P cs (names env) f) (sym h) T;
    waits = λ m K fs c w. waits_binding m here c (subst (λ q. StandsBindings P cs (Some x.bytes ∷ names env) bs q k) (sym r) B) S w;
  }

  -- the body follows
  pub goes_in : {bs : Bindings} {e : Expr} {j k : ℕ} → StandsBindings P cs (names env) bs j k → StandsAt P cs (let_scope bs (names env)) e k → ((at P cs j).op ≡ op.Binding → ⊥)
      → LetGoes P cs p bs e n env (record { frame = waiting.Leaving i n; node = j })
  unfolding bind_next
  goes_in bindings_none S b = record {
    frame = scope_end p n;
    part = _;
    is = λ Z K a. refl;
    keeps_none = refl;
    stands = S;
    waits = λ m K fs c w. waits_leaving here (subst (λ n. Waits P cs (drop n (names env)) K fs) (omega arith) w);
  }
  goes_in (bindings_more o T B) S b = absurd (b o)
