-- What reading the next case of a file answers: the case that is written there, behind empty lines; nothing where only empty lines are
-- left; or where the file is malformed.
use Rattle.std.specs.Prelude.{◌≡◌, ℕ, List, [], Option, Some, None, Result, Ok, Err}
use Rattle.cases.specs.Blanks.{without_newlines}
use Rattle.cases.specs.Within.{IsWithin}
use Rattle.cases.specs.Written.{case_then, CaseHasNames}
use Rattle.cases.specs.declared.reading.CaseAt.{CaseAt}
use Rattle.cases.specs.declared.unread.Unread.{Unread}

-- A case, followed by the rest. Names hold no newline, so that one case is written in one way.
pub record Stands (left : List ℕ) (at : CaseAt) : Type 0 where
  pub written : without_newlines left ≡ case_then at.case at.rest.now
  pub names : CaseHasNames at.case

abbrev pub Reads : List ℕ → Result (Option CaseAt) Unread → Type 0
Reads left (Ok (Some at)) = Stands left at
Reads left (Ok None) = without_newlines left ≡ []
Reads left (Err e) = IsWithin e left
