-- The code of the bodies so far, and what is still to be judged.
use Rattle.std.specs.Prelude.{◌≡◌, ℕ, ◌+◌, ◌-◌, ◌<◌, ◌≤◌, List, [], map, length, take, min, replicate, Some, Ok, Err, Result, slice_set, slice_index_or}
use Rattle.std.specs.List.{slice_get}
use Rattle.checking.specs.declared.draft.Draft.{Draft}
use Rattle.forms.specs.Progress.{puts}
use Rattle.globals.specs.Known.{Known, meaning_in}
use Rattle.globals.specs.Lying.{ScriptLies}
use Rattle.globals.specs.declared.whole.Globals.{Globals}
use Rattle.grammar.specs.Limits.{SixInScript}
use Rattle.grammar.specs.Trees.{Definition, Script}
use Rattle.layout.specs.Literals.{symbol_number}
use Rattle.layout.specs.Scripts.{DefinitionsStand}
use Rattle.layout.specs.Tabling.{after}
use Rattle.layout.specs.declared.counts.Counts.{Counts}
use Rattle.layout.specs.declared.definition.Define.{Define as DefineEntry}
use Rattle.layout.specs.declared.definition.Val.{Val as ValEntry}
use Rattle.layout.specs.declared.node.Node.{Node}
use Rattle.layout.specs.declared.tables.Tables.{Tables}
use Rattle.program.specs.Programs.{Define, program, defines_of}
use Rattle.program.specs.Standing.{no_code, no_function, no_owner}
use Rattle.program.specs.Whole.{body_codes, function_codes, val_codes, owner_codes}
use Rattle.program.specs.declared.compiled.Compiled.{Compiled}
use Rattle.script_refusals.specs.declared.refusal.Refused.{Refused}
use Rattle.type_rows.specs.Rows.{IsKind}
use Rattle.type_rows.specs.Shapes.{ty}
use Rattle.type_rows.specs.declared.value_type.ValueType.{ValueType}
use Rattle.type_rows.specs.declared.value_type.ValueType.TheVariants as value
use Rattle.typing.specs.Verdict.{refused, bodies}

pub record IsBlank (d : Draft) : Type 0 where
  pub code : d.code ≡ replicate 4096 no_code
  pub functions : d.functions ≡ replicate 256 no_function
  pub places : d.places ≡ replicate 256 0
  pub vals : d.vals ≡ replicate 256 0
  pub kinds : d.kinds ≡ replicate 256 value.Unit
  pub owners : d.owners ≡ replicate 256 no_owner
  pub define_count : d.define_count ≡ 0
  pub val_count : d.val_count ≡ 0

abbrev pub last_number : ℕ
last_number = 18446744073709551615

-- a define more
pub record WithDefine (old : Draft) (d : DefineEntry) (new : Draft) : Type 0 where
  pub code : new.code ≡ old.code
  pub functions : new.functions ≡ slice_set old.functions old.define_count (record { body = d.body; arity = d.past - d.first })
  pub places : new.places ≡ slice_set old.places old.define_count d.place
  pub vals : new.vals ≡ old.vals
  pub kinds : new.kinds ≡ old.kinds
  pub owners : new.owners ≡ slice_set old.owners (min (old.define_count + old.val_count) last_number) (record { place = d.place; name = d.name })
  pub define_count : new.define_count ≡ min (old.define_count + 1) last_number
  pub val_count : new.val_count ≡ old.val_count

-- a val more
pub record WithVal (old : Draft) (v : ValEntry) (kind : ValueType) (new : Draft) : Type 0 where
  pub code : new.code ≡ old.code
  pub functions : new.functions ≡ old.functions
  pub places : new.places ≡ old.places
  pub vals : new.vals ≡ slice_set old.vals old.val_count v.body
  pub kinds : new.kinds ≡ slice_set old.kinds old.val_count kind
  pub owners : new.owners ≡ slice_set old.owners (min (old.define_count + old.val_count) last_number) (record { place = v.place; name = v.name })
  pub define_count : new.define_count ≡ old.define_count
  pub val_count : new.val_count ≡ min (old.val_count + 1) last_number

-- the code of the whole
pub record Finished (d : Draft) (number : ℕ) (c : Compiled) : Type 0 where
  pub code : c.code ≡ d.code
  pub functions : c.functions ≡ d.functions
  pub vals : c.vals ≡ d.vals
  pub owners : c.owners ≡ d.owners
  pub owner_count : d.define_count + d.val_count ≤ 65535 → c.owner_count ≡ d.define_count + d.val_count
  pub main : c.main ≡ number
  pub main_place : c.main_place ≡ slice_index_or d.places number 0

-- what a script that was read is, and what is known of the whole of it
pub record Setting (text : List ℕ) (nodes : List Node) (tables : Tables) (globals : Globals) (script : Script) : Type 0 where
  pub short : length text ≤ 65535
  pub few : length nodes ≤ 4096
  pub known : Known text globals script
  pub six : SixInScript script

module _ (text : List ℕ) (nodes : List Node) (tables : Tables) (globals : Globals) (script : Script) where
  -- The bodies of some definitions were judged; these are left, behind so much of each table. What is left completes what there is to the
  -- judgement and the code of the whole.
  pub record Underway (c : Counts) (left : Script) (d : Draft) : Type 0 where
    pub lies : ScriptLies text tables c left
    pub stand : DefinitionsStand text (symbol_number script) nodes tables left c.definitions tables.counts.definitions
    pub said : bodies (program script) [] script ≡ bodies (program script) (map (ty (meaning_in script)) (take d.val_count d.kinds)) left
    pub code : puts (replicate 4096 no_code) 0 (body_codes (program script) 0 script) ≡ puts d.code c.nodes (body_codes (program script) c.nodes left)
    pub functions : puts (replicate 256 no_function) 0 (function_codes 0 script) ≡ puts d.functions d.define_count (function_codes c.nodes left)
    pub vals : puts (replicate 256 0) 0 (val_codes 0 script) ≡ puts d.vals d.val_count (val_codes c.nodes left)
    pub owners : puts (replicate 256 no_owner) 0 (owner_codes script) ≡ puts d.owners (d.define_count + d.val_count) (owner_codes left)
    pub owner_count : length (owner_codes script) ≡ d.define_count + d.val_count + length (owner_codes left)
    pub kinds : (k : ℕ) (kind : ValueType) → slice_get (take d.val_count d.kinds) k ≡ Some kind → IsKind globals.rows.rows kind
    pub room : length d.kinds ≡ 256
    pub place_room : length d.places ≡ 256
    pub defines : (j : ℕ) → slice_get (program script).defines (d.define_count + j) ≡ slice_get (defines_of left) j
    pub places : (j : ℕ) (x : Define) → j < d.define_count → slice_get (program script).defines j ≡ Some x → slice_index_or d.places j 0 ≡ x.place
    pub few : d.define_count + d.val_count + length (owner_codes left) ≤ 256

  -- one definition was judged, or it is where the judgement refuses
  abbrev pub Judges : Counts → Definition → Script → Draft → Result (Unit {0}) Refused → Draft → Type 0
  Judges c d ds old (Ok u) new = Underway (after c d) ds new
  Judges c d ds old (Err r) new = bodies (program script) [] script ≡ refused r
