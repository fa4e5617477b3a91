-- What becomes of a text before it runs: it is a script that the rules allow, or reading or the check refuses it.
use Rattle.std.specs.Prelude.{◌≡◌, ℕ, List, Ok, Err, Result}
use Rattle.grammar.specs.Reading.{reading}
use Rattle.grammar.specs.Trees.{Script}
use Rattle.script_refusals.specs.Refusals.{read_as}
use Rattle.script_refusals.specs.declared.refusal.Refused.{Refused}
use Rattle.text.specs.declared.refusal.Refused.{Refused as Unread}
use Rattle.typing.specs.Verdict.{Verdict, accepted, refused, verdict}

-- a refusal of reading
abbrev pub unread : Unread → Refused
unread x = record { refusal = read_as x.refusal; place = x.place }

abbrev pub on_verdict : Script → Verdict → Result Script Refused
on_verdict s accepted = Ok s
on_verdict s (refused r) = Err r

abbrev pub on_reading : Result Script Unread → Result Script Refused
on_reading (Ok s) = on_verdict s (verdict s)
on_reading (Err x) = Err (unread x)

-- a text that is read into so many entries, and checked
abbrev pub judgement : List ℕ → ℕ → Result Script Refused
judgement text entries = on_reading (reading text entries)

-- The first refusal, exactly where there is one; else what is found has this property with the script.
abbrev pub Judged : {X : Type 0} → Result Script Refused → (Script → X → Type 0) → Result X Refused → Type 0
Judged (Ok s) Q (Ok x) = Q s x
Judged (Ok s) Q (Err r) = ⊥
Judged (Err r) Q (Ok x) = ⊥
Judged (Err r) Q (Err q) = q ≡ r

-- this holds where there is a refusal
abbrev pub IfRefused : {X : Type 0} → Result X Refused → Type 0 → Type 0
IfRefused (Ok x) Q = Unit {0}
IfRefused (Err r) Q = Q

-- and this where there is none
abbrev pub IfRun : {X : Type 0} → Result X Refused → Type 0 → Type 0
IfRun (Ok x) Q = Q
IfRun (Err r) Q = Unit {0}
