-- The number of each refusal.
use Rattle.std.specs.Prelude.{ℕ}
use Rattle.text.specs.declared.refusal.Refusal.{Refusal}
use Rattle.text.specs.declared.refusal.Refusal.TheVariants.{Symbol, Integer, Bracket, Form, Limit, NodeList}

abbrev pub number_of : Refusal → ℕ
number_of Symbol = 1
number_of Integer = 2
number_of Bracket = 3
number_of Form = 4
number_of Limit = 5
number_of NodeList = 21
