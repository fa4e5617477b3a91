use Rattle.std.proofs.Common.{◌≡◌, ◌-◌, ◌≤◌, [], length}
use Rattle.stack.specs.Items.{tops}
use Rattle.text.specs.Tokens.{lexed_from}
use Rattle.text.specs.Scans.{balanced, counted}
use Rattle.text.proofs.ScanLaws.{further}
use Rattle.text.proofs.scanning.pass.Given as goal

abbrev pub invariant-loop-token : goal.invariant-loop-token
invariant-loop-token l =
    (l.reader.text.now ≡ l.text)
    × (l.count ≤ l.reader.place)
    × (further l.count (counted (balanced (length l.text) (tops l.opened.shapes) (lexed_from l.text l.reader.place))) ≡ counted (balanced (length l.text) [] (lexed_from l.text 0)))

abbrev pub decreases-loop-token : goal.decreases-loop-token
decreases-loop-token l = length l.text - l.reader.place
