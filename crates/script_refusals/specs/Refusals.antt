-- The number of each refusal of a script.
use Rattle.std.specs.Prelude.{ℕ}
use Rattle.text.specs.declared.refusal.Refusal.{Refusal as ReadingRefusal}
use Rattle.text.specs.declared.refusal.Refusal.TheVariants as read
use Rattle.script_refusals.specs.declared.refusal.Refusal.{Refusal}
use Rattle.script_refusals.specs.declared.refusal.Refused.{Refused}
use Rattle.script_refusals.specs.declared.refusal.Refusal.TheVariants.{Symbol, Integer, Bracket, Form, Limit, Repeated, Unknown, Unpaired, Mismatch, Consumed, NoMain, NodeList, Changed}

abbrev pub number_of : Refusal → ℕ
number_of Symbol = 1
number_of Integer = 2
number_of Bracket = 3
number_of Form = 4
number_of Limit = 5
number_of Repeated = 6
number_of Unknown = 7
number_of Unpaired = 8
number_of Mismatch = 9
number_of Consumed = 10
number_of NoMain = 11
number_of NodeList = 21
number_of Changed = 23

-- what a refusal of reading is among those of a script
abbrev pub read_as : ReadingRefusal → Refusal
read_as read.Symbol = Symbol
read_as read.Integer = Integer
read_as read.Bracket = Bracket
read_as read.Form = Form
read_as read.Limit = Limit
read_as read.NodeList = NodeList

abbrev pub refused_at : Refusal → ℕ → Refused
refused_at r p = record { refusal = r; place = p }
