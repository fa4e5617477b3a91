use Rattle.std.proofs.Common.{◌≡◌, ◌-◌, length}
use Rattle.tokens.proofs.listing.list_tokens.Given as goal

abbrev pub invariant-loop-token : goal.invariant-loop-token
invariant-loop-token l = l.reader.text.now ≡ l.text

abbrev pub decreases-loop-token : goal.decreases-loop-token
decreases-loop-token l = length l.text - l.reader.place
