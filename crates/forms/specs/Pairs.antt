-- A list of two parts: a binding, a branch, a constructor.
use Rattle.std.specs.Prelude.{◌≡◌, ℕ, ◌<◌, ◌≤◌, List, length, Ok, Err, Result}
use Rattle.text.specs.Scans.{refused_at}
use Rattle.text.specs.Tokens.{Lexed, lexed_from}
use Rattle.text.specs.declared.bracket.Bracket.{Bracket}
use Rattle.text.specs.declared.refusal.Refusal.TheVariants as refusal
use Rattle.text.specs.declared.refusal.Refused.{Refused}
use Rattle.forms.specs.Rows.{closed_by}
use Rattle.forms.specs.declared.sight.Opened.{Opened}
use Rattle.grammar.specs.Forms.{Two, two, not_two, two_of}
use Rattle.grammar.specs.Sexps.{Sexp, atom, list, nil, cons, place, AllAtoms}

-- the two parts of a list that has two
abbrev pub pair_of : Sexp → Two
pair_of (atom k p w) = not_two
pair_of (list shape p ss q) = two_of ss

-- the bracket of a list of two parts, and what stands behind it
pub record Pair (text : List ℕ) (rest : Lexed) (s : Sexp) (o : Opened) : Type 0 where
  pub first : Sexp
  pub second : Sexp
  pub shape : Bracket
  pub end : ℕ
  pub parts : pair_of s ≡ two first second
  pub begins : place s ≡ o.place
  pub follows : lexed_from text o.inside ≡ closed_by (cons first (cons second nil)) shape end rest
  pub atoms : AllAtoms (cons first (cons second nil))

-- the code's answer for the part that stands next
abbrev pub Paired : List ℕ → Lexed → Sexp → Result Opened Refused → Type 0
Paired text rest s (Ok o) = Pair text rest s o
Paired text rest s (Err x) = (pair_of s ≡ not_two) × (x ≡ refused_at refusal.Form (place s))

-- the bracket lies within the text
abbrev pub GoesPair : List ℕ → ℕ → Result Opened Refused → Type 0
GoesPair text from (Ok o) = (from < o.inside) × (o.inside ≤ length text) × (o.place ≤ o.inside)
GoesPair text from (Err x) = Unit {0}
