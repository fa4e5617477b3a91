-- The laws of the check.
use Rattle.std.proofs.Common.{◌≡◌, List, sym, ◌∙◌}
use Rattle.grammar.specs.Trees.{Expr}
use Rattle.program.specs.Programs.{Program}
use Rattle.typing.specs.Types.{Ty}
use Rattle.typing.specs.Contexts.{Context}
use Rattle.typing.specs.Judgement.{Typed}
use Rattle.typing.specs.Judging.{Judged, judged}
use Rattle.typing.specs.Laws.{JudgesTypes, OneType, TellsTypes, Rules, Naming, Coding}
use Rattle.typing.proofs.Complete.{complete}
use Rattle.typing.proofs.Freshness.{fresh_after, fresh_bindings, fresh_pattern, fresh_bound, entry_found, entry_only}
use Rattle.typing.proofs.Layouts.{lays}
use Rattle.typing.proofs.Marks.{later}
use Rattle.typing.proofs.Outcomes.{held}
use Rattle.typing.proofs.Placed.{stands}
use Rattle.typing.proofs.Sound.{sound}
use Rattle.typing.proofs.TypeRows.{same_type_law, type_same}
use Rattle.typing.proofs.Verdicts.{is_allowed, allowed_is}

pub judges_types : (P : Program) (V : List Ty) (e : Expr) (Γ : Context) (τ : Ty) (Γ' : Context) → JudgesTypes P V e Γ τ Γ'
judges_types P V e Γ τ Γ' = record { sound = λ h. held (sound P V e Γ) h; complete = λ t. complete P V t }

same_outcome : (P : Program) (V : List Ty) (e : Expr) (Γ : Context) (τ σ : Ty) (Γ₁ Γ₂ : Context) → Typed P V Γ e τ Γ₁ → Typed P V Γ e σ Γ₂ → ◌≡◌ {A = Judged Ty} (judged τ Γ₁) (judged σ Γ₂)
same_outcome P V e Γ τ σ Γ₁ Γ₂ t u = sym (complete P V t) ∙ complete P V u

pub one_type : (P : Program) (V : List Ty) (e : Expr) (Γ : Context) (τ σ : Ty) (Γ₁ Γ₂ : Context) → OneType P V e Γ τ σ Γ₁ Γ₂
one_type P V e Γ τ σ Γ₁ Γ₂ = record {
  type = λ t u. let h = same_outcome P V e Γ τ σ Γ₁ Γ₂ t u in cc;
  names = λ t u. let h = same_outcome P V e Γ τ σ Γ₁ Γ₂ t u in cc;
}

pub tells_types : (τ σ : Ty) → TellsTypes τ σ
tells_types τ σ = record { same = same_type_law τ σ; equal = λ e. rw e (type_same σ) }

pub rules : Rules
rules = record {
  types = tells_types;
  expressions = judges_types;
  once = one_type;
  scripts = λ script. record { sound = is_allowed script; complete = allowed_is script };
}

naming : (P : Program) (V : List Ty) (Γ Γ' : Context) → Naming P V Γ Γ'
naming P V Γ Γ' = record {
  marks = later P V;
  after = fresh_after P V;
  bindings = fresh_bindings P V;
  patterns = fresh_pattern P;
  parameters = fresh_bound P;
}

pub coding : Coding
coding = record {
  names = naming;
  entries = λ P Γ G w d. record { found = entry_found w G d; only = λ r l q. entry_only w r l d q };
  expressions = λ P V e Γ τ Γ' G cs i rest t l s. stands P V cs t l i (record { rest = rest; is = s });
  scripts = lays;
}
