-- How a text becomes a source.
use Rattle.std.specs.Prelude.{◌≡◌, ℕ, List, Ok, Err, Result}
use Rattle.text.specs.Scans.{scan}
use Rattle.text.specs.Tokens.{Lexeme}
use Rattle.text.specs.declared.refusal.Refused.{Refused}
use Rattle.forms.specs.declared.source.Source.{Source}

-- the text itself, exactly when the token layer passes it
abbrev pub Makes : List ℕ → Result Source Refused → Type 0
Makes text (Ok s) = (s.text.now ≡ text) × ((ts : List Lexeme) × (scan text ≡ Ok ts))
Makes text (Err r) = scan text ≡ Err r
