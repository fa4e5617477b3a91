-- When what is found of a text is what its case expects.
use Rattle.std.specs.Prelude.{◌≡◌, ℕ, ◌≢◌, List, [], None, Result, string_bytes}
use Rattle.case_files.specs.declared.answer.Refused.{Refused}
use Rattle.case_files.specs.declared.trial.Found.{Found}

-- the listing that is expected, where one is
abbrev pub Lists : List ℕ → List ℕ → Type 0
Lists found expected = expected ≢ [] → expected ≡ found

-- the answer that is expected, the listing where the case has one, and nothing wrong besides
abbrev pub Agrees : Found → Result ℕ Refused → List ℕ → Type 0
Agrees found expected listing = (found.answer ≡ expected) × Lists (string_bytes found.listing) listing × (found.complaint ≡ None)
