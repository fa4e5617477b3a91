-- What binding a name, a pattern's names or a define's parameters leaves.
use Rattle.std.specs.Prelude.{◌≡◌, ℕ, ◌+◌, ◌≤◌, Bool, List, ◌∷◌, map, length, Some, Ok, Err, Result, slice_set}
use Rattle.naming.specs.Judges.{Desk, names, Setting, Ready, Lying, meant, vals_of, rows_of, text_of}
use Rattle.naming.specs.declared.world.World.{World}
use Rattle.globals.specs.Known.{meaning_in}
use Rattle.globals.specs.Lying.{ParametersLie}
use Rattle.grammar.specs.Trees.{Ident, PatternPart, bound, Pattern, Script}
use Rattle.layout.specs.Decoding.{node_found}
use Rattle.layout.specs.Spelling.{Spells, Shows}
use Rattle.layout.specs.declared.tables.Tables.{Tables}
use Rattle.layout.specs.declared.word.Word.{Word}
use Rattle.patterns.specs.Parts.{PartsAt}
use Rattle.patterns.specs.declared.head.Head.{Head}
use Rattle.program.specs.Compiling.{code, branch_op, branch_scope}
use Rattle.program.specs.Programs as means
use Rattle.program.specs.Programs.{program, global_of}
use Rattle.program.specs.Scopes as placed
use Rattle.program.specs.Scopes.{bind_scope, bits, names_inside, pattern_names}
use Rattle.program.specs.declared.code.Code.{Code}
use Rattle.scopes.specs.Locals.{context}
use Rattle.scopes.specs.declared.local.Local.{Local}
use Rattle.script_refusals.specs.declared.refusal.Refused.{Refused}
use Rattle.type_rows.specs.Rows.{TypesLie, IsKind}
use Rattle.type_rows.specs.declared.value_type.ValueType.{ValueType}
use Rattle.typing.specs.Contexts.{Context}
use Rattle.typing.specs.Judging.{Judged, refused, judged, is_fresh, bind_name, with_all_bound, judge_head, judge_pattern}
use Rattle.typing.specs.Types.{Tys, count}

module _ (world : World) (script : Script) where
  -- a name was bound
  pub record NameBound (x : Ident) (kind : ValueType) (height : ℕ) (old new : Desk) : Type 0 where
    pub type : (next : Context → Judged (Unit {0})) → bind_name (program script) x (meant world script kind) (names world script old) next ≡ next (names world script new)
    pub ready : Ready world script new
    pub depth : new.depth ≡ old.depth + 1
    pub lying : (G : placed.Scope) (i j : ℕ) → i ≤ j → j ≤ 65536 → Lying world script old G height i → Lying world script new (Some x.bytes ∷ G) (height + 1) j

  abbrev pub NameAnswers : Ident → ValueType → ℕ → Desk → Result (Unit {0}) Refused → Desk → Type 0
  NameAnswers x kind height old (Ok u) new = NameBound x kind height old new
  NameAnswers x kind height old (Err r) new = (next : Context → Judged (Unit {0})) → bind_name (program script) x (meant world script kind) (names world script old) next ≡ refused r

  -- the names among some parts were bound
  pub record PartsBound (xs : List PatternPart) (τs : Tys) (height : ℕ) (old new : Desk) : Type 0 where
    pub type : with_all_bound (program script) xs τs (names world script old) ≡ judged tt (names world script new)
    pub ready : Ready world script new
    pub depth : new.depth ≡ old.depth + names_inside xs
    pub lying : (G : placed.Scope) (i j : ℕ) → i ≤ j → j ≤ 65536 → Lying world script old G height i → Lying world script new (bind_scope xs G) (height + names_inside xs) j

  abbrev pub PartsAnswers : List PatternPart → Tys → ℕ → Desk → Result ℕ Refused → Desk → Type 0
  PartsAnswers xs τs height old (Ok b) new = PartsBound xs τs height old new × (b ≡ bits xs)
  PartsAnswers xs τs height old (Err r) new = with_all_bound (program script) xs τs (names world script old) ≡ refused r

  abbrev pub ParametersAnswers : List PatternPart → Tys → Desk → Result (Unit {0}) Refused → Desk → Type 0
  ParametersAnswers xs τs old (Ok u) new = PartsBound xs τs old.depth old new
  ParametersAnswers xs τs old (Err r) new = with_all_bound (program script) xs τs (names world script old) ≡ refused r

  -- the constructor that a pattern's head means, or why there is none
  abbrev pub HeadAnswers : ℕ → ℕ → List ℕ → Result ℕ Refused → Type 0
  HeadAnswers p q w (Ok k) = global_of (program script) w ≡ means.constructor k
  HeadAnswers p q w (Err r) = (d : ℕ) (xs : List PatternPart) (Γ : Context) → judge_head (program script) (vals_of world script) d p q xs (global_of (program script) w) Γ ≡ refused r

  -- the pattern of the branch at node i was judged
  pub record Matches (d : ℕ) (x : Pattern) (i height : ℕ) (old : Desk) (codes : List Code) (new : Desk) (after : List Code) : Type 0 where
    pub type : judge_pattern (program script) (vals_of world script) d x (names world script old) ≡ judged tt (names world script new)
    pub ready : Ready world script new
    pub depth : new.depth ≡ old.depth + pattern_names x
    pub lying : (G : placed.Scope) (j k : ℕ) → j ≤ k → k ≤ 65536 → Lying world script old G height j → Lying world script new (branch_scope x G) (height + pattern_names x) k
    pub noted : after ≡ slice_set codes i (code (branch_op (program script) x) (node_found world.nodes.now i).place (node_found world.nodes.now i).past)

  abbrev pub MatchesAnswers : ℕ → Pattern → ℕ → ℕ → Desk → List Code → Result (Unit {0}) Refused → Desk → List Code → Type 0
  MatchesAnswers d x i height old codes (Ok u) new after = Matches d x i height old codes new after
  MatchesAnswers d x i height old codes (Err r) new after = judge_pattern (program script) (vals_of world script) d x (names world script old) ≡ refused r

abbrev pub IsFresh : World → List Local → ℕ → List ℕ → Bool → Type 0
IsFresh world locals depth w result = (script : Script) (marks : List Bool) → Setting world script → result ≡ is_fresh (program script) w (context world.text.now (meaning_in script) locals marks depth)

abbrev pub OnName : World → Word → ValueType → ℕ → Desk → Result (Unit {0}) Refused → Desk → Type 0
OnName world word kind height old result new =
    (script : Script) (x : Ident) → Setting world script → Ready world script old → IsKind (rows_of world script) kind → Spells (text_of world script) word x → NameAnswers world script x kind height old result new

abbrev pub OnParts : World → ℕ → ℕ → ℕ → Desk → Result ℕ Refused → Desk → Type 0
OnParts world place row height old result new =
    (script : Script) (xs : List PatternPart) (τs : Tys) (last : ℕ) → Setting world script → Ready world script old → PartsAt (text_of world script) place xs
    → TypesLie (rows_of world script) (meaning_in script) row last τs → length xs ≡ count τs → length xs ≤ 6 → PartsAnswers world script xs τs height old result new

abbrev pub OnParameters : World → Tables → ℕ → ℕ → ℕ → Desk → Result (Unit {0}) Refused → Desk → Type 0
OnParameters world tables first past row old result new =
    (script : Script) (xs : List Ident) (τs : Tys) (last : ℕ) → Setting world script → Ready world script old → ParametersLie (text_of world script) tables first xs → past ≡ first + length xs
    → TypesLie (rows_of world script) (meaning_in script) row last τs → length xs ≡ count τs → ParametersAnswers world script (map bound xs) τs old result new

abbrev pub OnHead : World → ℕ → ℕ → List ℕ → Result ℕ Refused → Type 0
OnHead world p q w result = (script : Script) → Setting world script → HeadAnswers world script p q w result

abbrev pub OnConstructor : World → ℕ → Head → ℕ → ℕ → Desk → List Code → Result (Unit {0}) Refused → Desk → List Code → Type 0
OnConstructor world i head d height old codes result new after =
    (script : Script) (c : Ident) (xs : List PatternPart) → Setting world script → Ready world script old → Spells (text_of world script) head.name c → PartsAt (text_of world script) head.inside xs
    → MatchesAnswers world script d (Pattern.constructor head.place c xs) i height old codes result new after

abbrev pub OnPattern : World → ℕ → ℕ → ℕ → ℕ → Desk → List Code → Result (Unit {0}) Refused → Desk → List Code → Type 0
OnPattern world i place d height old codes result new after =
    (script : Script) (x : Pattern) → Setting world script → Ready world script old → Shows (text_of world script) place x → MatchesAnswers world script d x i height old codes result new after
