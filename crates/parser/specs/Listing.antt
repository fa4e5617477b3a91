-- What a reader of names, and a reader of constructors, answers.
use Rattle.std.specs.Prelude.{◌≡◌, ℕ, ◌+◌, ◌<◌, ◌≤◌, min, List, [], ◌∷◌, map, length, Ok, Err, Result}
use Rattle.text.specs.Tokens.{Lexed, lexed_from}
use Rattle.text.specs.declared.bracket.Bracket.{Bracket}
use Rattle.text.specs.declared.refusal.Refused.{Refused}
use Rattle.grammar.specs.Limits.{fields_count}
use Rattle.grammar.specs.Reading.{Tally, Outcome, refused, made}
use Rattle.grammar.specs.Sexps.{Sexp, atom, list, Sexps, Atoms, AllAtoms}
use Rattle.grammar.specs.Streams.{stream, count}
use Rattle.grammar.specs.Trees as tree
use Rattle.grammar.specs.Trees.{Ident}
use Rattle.layout.specs.Tabling.{constructor_entries, field_types}
use Rattle.layout.specs.Words.{word}
use Rattle.layout.specs.declared.definition.Constructor.{Constructor}
use Rattle.layout.specs.declared.type_node.TypeNode.{TypeNode}
use Rattle.layout.specs.declared.word.Word.{Word}
use Rattle.forms.specs.Progress.{puts}
use Rattle.forms.specs.Rows.{closed_by}
use Rattle.parser.specs.declared.mark.Mark.{Mark}
use Rattle.forms.specs.declared.spot.Spot.{Spot}

-- Names, at most six.
abbrev pub GoesNames : List ℕ → Spot → Result Spot Refused → Type 0
GoesNames text spot (Ok after) = (spot.place < after.place) × (after.place ≤ length text) × (spot.used ≤ after.used) × (after.used ≤ spot.used + 6)
GoesNames text spot (Err r) = Unit {0}

-- the code's answer and the words afterwards, for what the rules make of the same part
abbrev pub ToldNames : List ℕ → Lexed → Spot → List Word → Outcome (List Ident) → Result Spot Refused → List Word → Type 0
ToldNames text rest spot ws (refused x) r after = r ≡ Err x
ToldNames text rest spot ws (made xs n) (Ok end) after = (end.used ≡ spot.used + length xs) × (lexed_from text end.place ≡ rest) × (after ≡ puts ws spot.used (map word xs))
ToldNames text rest spot ws (made xs n) (Err x) after = ⊥

-- for the names of a list up to its bracket
abbrev pub OnNames : List ℕ → Spot → List Word → (Sexps → Tally → Outcome (List Ident)) → Result Spot Refused → List Word → Type 0
OnNames text spot ws read r after =
    (ss : Sexps) (shape : Bracket) (q : ℕ) (rest : Lexed) (n : Tally) → lexed_from text spot.place ≡ closed_by ss shape q rest → AllAtoms ss → ToldNames text rest spot ws (read ss n) r after

-- for the whole list
abbrev pub OnNameList : List ℕ → Spot → List Word → (Sexp → Tally → Outcome (List Ident)) → Result Spot Refused → List Word → Type 0
OnNameList text spot ws read r after =
    (s : Sexp) (rest : Lexed) (n : Tally) → lexed_from text spot.place ≡ stream s rest → Atoms s → ToldNames text rest spot ws (read s n) r after

-- Constructors.
abbrev pub GoesMark : List ℕ → Mark → Result Mark Refused → Type 0
GoesMark text mark (Ok after) = (mark.place < after.place) × (after.place ≤ length text) × (mark.types ≤ after.types) × (after.types ≤ 512) × (after.constructors ≤ 256)
GoesMark text mark (Err r) = Unit {0}

-- the code's answer and both tables afterwards, for constructors of the datatype with the number k
abbrev pub ToldMark : {A : Type 0} → (A → List tree.Constructor) → ℕ → List ℕ → Lexed → Mark → List TypeNode → List Constructor → Outcome A → Result Mark Refused → List TypeNode → List Constructor → Type 0
ToldMark these k text rest mark ts cs (refused x) r ts' cs' = r ≡ Err x
ToldMark these k text rest mark ts cs (made a n) (Ok end) ts' cs' =
    (end.types ≡ n.types) × (end.types ≡ mark.types + fields_count (these a))
    × (end.constructors ≡ n.constructors) × (end.constructors ≡ mark.constructors + length (these a))
    × (lexed_from text end.place ≡ rest)
    × (ts' ≡ puts ts mark.types (field_types mark.types (these a)))
    × (cs' ≡ puts cs mark.constructors (constructor_entries k mark.types (these a)))
ToldMark these k text rest mark ts cs (made a n) (Err x) ts' cs' = ⊥

-- for the parts of a list up to its bracket
abbrev pub OnMarks : {A : Type 0} → (A → List tree.Constructor) → ℕ → List ℕ → Mark → List TypeNode → List Constructor → Sexps → (Tally → Outcome A) → Result Mark Refused → List TypeNode → List Constructor → Type 0
OnMarks these k text mark ts cs ss read r ts' cs' =
    (shape : Bracket) (q : ℕ) (rest : Lexed) (n : Tally) → lexed_from text mark.place ≡ closed_by ss shape q rest → AllAtoms ss → n.types ≡ mark.types → n.constructors ≡ mark.constructors
    → ToldMark these k text rest mark ts cs (read n) r ts' cs'

-- how many parts a list has, where seven stands for more
abbrev pub listed : Sexp → ℕ
listed (atom k p w) = 0
listed (list shape p ss q) = min 7 (count ss)

-- the constructor itself
abbrev pub alone : tree.Constructor → List tree.Constructor
alone c = c ∷ []

-- all of them
abbrev pub all : List tree.Constructor → List tree.Constructor
all cs = cs

-- for one part
abbrev pub OnMark : {A : Type 0} → (A → List tree.Constructor) → ℕ → List ℕ → Mark → List TypeNode → List Constructor → (Sexp → Tally → Outcome A) → Result Mark Refused → List TypeNode → List Constructor → Type 0
OnMark these k text mark ts cs read r ts' cs' =
    (s : Sexp) (rest : Lexed) (n : Tally) → lexed_from text mark.place ≡ stream s rest → Atoms s → n.types ≡ mark.types → n.constructors ≡ mark.constructors
    → ToldMark these k text rest mark ts cs (read s n) r ts' cs'
