-- The symbols that a state holds are those of the script.
use Rattle.std.specs.Prelude.{ℕ, List, [], ◌∷◌}
use Rattle.data.specs.Trees.{Tree, int, bool, symbol, unit, function, built, Trees, none, more}
use Rattle.machine.specs.Ready.{IsSymbol}
use Rattle.program.specs.Programs.{Program}
use Rattle.rules.specs.States.{Entry, full, empty, argument, Environment, Frame, saved, Control, opened, enter, finished, over, State, st}

module _ (Q : ℕ → Type 0) where
  -- every symbol in a value has the property
  abbrev mutual
    pub SymbolsIn : Tree → Type 0
    SymbolsIn (int z) = Unit {0}
    SymbolsIn (bool b) = Unit {0}
    SymbolsIn (symbol n) = Q n
    SymbolsIn unit = Unit {0}
    SymbolsIn (function n) = Unit {0}
    SymbolsIn (built c vs) = SymbolsInAll vs

    pub SymbolsInAll : Trees → Type 0
    SymbolsInAll none = Unit {0}
    SymbolsInAll (more v vs) = SymbolsIn v × SymbolsInAll vs

  abbrev pub SymbolsInEntry : Entry → Type 0
  SymbolsInEntry (full x v) = SymbolsIn v
  SymbolsInEntry (empty x) = Unit {0}
  SymbolsInEntry (argument v) = SymbolsIn v

  abbrev pub SymbolsInEntries : Environment → Type 0
  SymbolsInEntries [] = Unit {0}
  SymbolsInEntries (s ∷ env) = SymbolsInEntry s × SymbolsInEntries env

  abbrev pub SymbolsInFrames : List Frame → Type 0
  SymbolsInFrames [] = Unit {0}
  SymbolsInFrames (f ∷ K) = SymbolsInEntries (saved f) × SymbolsInFrames K

  abbrev pub SymbolsNext : Control → Type 0
  SymbolsNext opened = Unit {0}
  SymbolsNext (enter e) = Unit {0}
  SymbolsNext (finished v) = SymbolsIn v
  SymbolsNext over = Unit {0}

  -- and so every symbol that a state holds
  abbrev pub SymbolsHeld : State → Type 0
  SymbolsHeld (st K env c a) = SymbolsInFrames K × SymbolsInEntries env × SymbolsNext c

-- each symbol held is the place of a literal of the script
abbrev pub Spoken : Program → State → Type 0
Spoken P s = SymbolsHeld (IsSymbol P) s
