-- What is said of a refusal and of a fault: where it is, and some advice.
use Rattle.std.specs.Prelude.{ℕ, List, ◌++◌, map, codes, decimal}
use Rattle.advice.specs.Sentences.{refusal_sentence, fault_sentence}
use Rattle.advice.specs.declared.lent.Lent.{Lent}
use Rattle.explain.specs.Explained.{pointed, explained, explained_with_first}
use Rattle.explain.specs.Shown.{byte_shown}
use Rattle.fault_names.specs.FaultNames.{name_of}
use Rattle.rules.specs.Faults as faults
use Rattle.rules.specs.declared.fault.Fault.{Fault}
use Rattle.script_refusals.specs.Refusals as refusals
use Rattle.script_refusals.specs.declared.refusal.Refusal.TheVariants.{Consumed}
use Rattle.script_refusals.specs.declared.refusal.Refused.{Refused}

abbrev pub refusal_explained : List ℕ → Refused → List ℕ
refusal_explained text r = explained text (refusals.number_of r.refusal) r.place (refusal_sentence r.refusal)

-- a name is used at a place, and was consumed first at another
abbrev pub second_use_explained : List ℕ → ℕ → ℕ → List ℕ
second_use_explained text place first = explained_with_first text (refusals.number_of Consumed) place (refusal_sentence Consumed) first

-- fault N at PLACE in NAME, where that is, and the advice; the name is shown as the text is
abbrev pub fault_explained : List ℕ → Fault → Lent → List ℕ
fault_explained text f lent =
    codes "fault " ++ (decimal (faults.number_of f.kind) ++ (codes " at " ++ (decimal f.place ++ (codes " in "
    ++ (map byte_shown (name_of text f.function) ++ (codes "\n"
    ++ (pointed text f.place ++ (fault_sentence f.kind lent ++ codes "\n"))))))))
