-- How a pass over a text counts its tokens.
use Rattle.std.proofs.Common.{ℕ, ◌+◌, Ok, Err, Result}
use Rattle.text.specs.declared.refusal.Refused.{Refused}

-- n tokens more
abbrev pub further : ℕ → Result ℕ Refused → Result ℕ Refused
further n (Ok k) = Ok (n + k)
further n (Err r) = Err r
