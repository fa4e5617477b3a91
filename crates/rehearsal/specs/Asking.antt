-- Advances that are asked for, and those that are made.
use Rattle.std.specs.Prelude.{◌≡◌, ℕ, ◌-◌, List, [], ◌∷◌, ◌++◌, map, length, take, drop, min, Some, None, Option}
use Rattle.rehearsal.specs.declared.asks.Ask.{Ask}
use Rattle.rules.specs.declared.answers.Advanced.{Advanced}
use Rattle.rules.specs.declared.answers.End.TheVariants.{Paused}
use Rattle.run.specs.Insides.{Spares}
use Rattle.run.specs.Openings.{Made, made}

-- an advance that was made, with its answer
abbrev pub answered : Made → Ask
answered c = record { count = c.count; room = c.room; answer = Some c.answer }

-- each advance was made as it was asked for, over a slice as long as was asked for, or of the bytes that were left
abbrev pub Lends : ℕ → List Ask → List Made → Type 0
Lends left [] [] = Unit {0}
Lends left [] (c ∷ h) = ⊥
Lends left (a ∷ asks) [] = ⊥
Lends left (a ∷ asks) (c ∷ h) = (c.count ≡ a.count) × (c.room ≡ min a.room left) × Lends (left - length c.bytes) asks h

-- what advances wrote, one after another
abbrev pub all_bytes : List Made → List ℕ
all_bytes [] = []
all_bytes (c ∷ h) = c.bytes ++ all_bytes h

-- The advances of a list were made so: each has its answer, and the output slice begins with what they wrote and is as it was behind that.
pub record MadeAll (asks after : List Ask) (old new : List ℕ) (h : List Made) : Type 0 where
  pub lends : Lends (length old) asks h
  pub answers : after ≡ map answered h
  pub front : take (length (all_bytes h)) new ≡ all_bytes h
  pub spares : Spares (length (all_bytes h)) old new

-- The history that a list of answered advances and the output slice tell. One that has no answer was not made.
abbrev pub nothing : Advanced
nothing = record { end = Paused; steps = 0; bytes = 0 }

abbrev pub made_with : Ask → List ℕ → Option Advanced → Made
made_with a out None = made a.count a.room nothing []
made_with a out (Some x) = made a.count a.room x (take x.bytes out)

abbrev pub written_with : Option Advanced → ℕ
written_with None = 0
written_with (Some x) = x.bytes

abbrev pub history_of : List Ask → List ℕ → List Made
history_of [] out = []
history_of (a ∷ asks) out = made_with a out a.answer ∷ history_of asks (drop (written_with a.answer) out)
