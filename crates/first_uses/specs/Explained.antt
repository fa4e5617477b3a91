-- What is said of a refusal of the check.
use Rattle.std.specs.Prelude.{ℕ, List, Some, None, Option}
use Rattle.advice.specs.Explanations.{refusal_explained, second_use_explained}
use Rattle.first_uses.specs.Uses.{first_use}
use Rattle.layout.specs.declared.node.Node.{Node}
use Rattle.script_refusals.specs.declared.refusal.Refusal.{Refusal}
use Rattle.script_refusals.specs.declared.refusal.Refusal.TheVariants as refusal
use Rattle.script_refusals.specs.declared.refusal.Refused.{Refused}

-- where the name was used first, of a refusal at a place for a second use
abbrev pub first_for : Refusal → List ℕ → List Node → ℕ → Option ℕ
first_for refusal.Symbol text nodes place = None
first_for refusal.Integer text nodes place = None
first_for refusal.Bracket text nodes place = None
first_for refusal.Form text nodes place = None
first_for refusal.Limit text nodes place = None
first_for refusal.Repeated text nodes place = None
first_for refusal.Unknown text nodes place = None
first_for refusal.Unpaired text nodes place = None
first_for refusal.Mismatch text nodes place = None
first_for refusal.Consumed text nodes place = first_use text nodes place
first_for refusal.NoMain text nodes place = None
first_for refusal.NodeList text nodes place = None
first_for refusal.Changed text nodes place = None

abbrev pub first_of : List ℕ → List Node → Refused → Option ℕ
first_of text nodes r = first_for r.refusal text nodes r.place

-- the refusal, and where the name was used first if there is such a place
abbrev pub with_first : List ℕ → Refused → Option ℕ → List ℕ
with_first text r (Some first) = second_use_explained text r.place first
with_first text r None = refusal_explained text r

abbrev pub check_explained : List ℕ → List Node → Refused → List ℕ
check_explained text nodes r = with_first text r (first_of text nodes r)
