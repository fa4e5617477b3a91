-- What a run needs of a script in memory.
use Rattle.std.specs.Prelude.{◌≡◌, ℕ, ◌<◌, ◌≤◌, List, [], ◌∷◌, Some}
use Rattle.layout.specs.Literals.{Literal}
use Rattle.layout.specs.Spelling.{Quotes}
use Rattle.program.specs.Programs.{Program, Define}
use Rattle.program.specs.Standing.{Lays, at, past}
use Rattle.program.specs.declared.code.Code.{Code}
use Rattle.program.specs.declared.code.Op.TheVariants as op
use Rattle.program.specs.declared.compiled.Compiled.{Compiled}
use Rattle.rules.specs.Runs.{main_of}
use Rattle.rules.specs.Steps.{bytes_at}

-- one of these literals stands at a place
pub data LiteralAt (n : ℕ) : List Literal → Type 0 where
  literal_first : {l : Literal} {ls : List Literal} → n ≡ l.place → LiteralAt n (l ∷ ls)
  literal_later : {l : Literal} {ls : List Literal} → LiteralAt n ls → LiteralAt n (l ∷ ls)

-- a symbol's number is the place of a literal of the script
abbrev pub IsSymbol : Program → ℕ → Type 0
IsSymbol P n = LiteralAt n P.literals

-- and the text quotes it there
abbrev pub Quoted : List ℕ → Program → ℕ → Type 0
Quoted text P n = Quotes text n (bytes_at n P.literals)

-- what follows a branch lies behind it
abbrev pub Forward : Program → List Code → Type 0
Forward P cs = (i k n : ℕ) → (at P cs i).op ≡ op.Branch k n → i < past P cs i

-- the script in memory holds P, which the text says
pub record Ready (l : Compiled) (text : List ℕ) (P : Program) : Type 0 where
  pub lays : Lays l P
  pub forward : Forward P l.code
  -- a constructor has six fields at most
  pub few : (i k n : ℕ) → (at P l.code i).op ≡ op.Build k n → n ≤ 6
  pub symbols : (i n : ℕ) → (at P l.code i).op ≡ op.Symbol n → IsSymbol P n
  pub quoted : (n : ℕ) → IsSymbol P n → Quoted text P n
  -- main has no parameters
  pub bare : (d : Define) → main_of P ≡ Some d → d.parameters ≡ []
