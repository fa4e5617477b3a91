-- What was declared up to some place of a script, and how the check keeps it.
use Rattle.std.specs.Prelude.{◌≡◌, ℕ, ◌+◌, ◌≤◌, List, [], ◌∷◌, ◌++◌, map, reverse, length, take, Some, None, Ok, Err, Option, Result, IfOk}
use Rattle.globals.specs.Lying.{VariantsLie, DefinitionLies, Few}
use Rattle.globals.specs.declared.declarations.Declarations.{Declarations}
use Rattle.globals.specs.declared.global.Global.{Global}
use Rattle.globals.specs.declared.global.Global.TheVariants as machine
use Rattle.globals.specs.declared.variant.Variant.{Variant}
use Rattle.grammar.specs.Limits.{types_count, types_length}
use Rattle.grammar.specs.Trees as tree
use Rattle.grammar.specs.Trees.{Ident, datatype_definition, type_annotation, function_definition, val_binding, Script}
use Rattle.layout.specs.declared.counts.Counts.{Counts}
use Rattle.layout.specs.declared.definition.Definition.{Definition}
use Rattle.layout.specs.declared.tables.Tables.{Tables}
use Rattle.layout.specs.Tabling.{after}
use Rattle.names.specs.Indexing.{IsIndex, names_in}
use Rattle.program.specs.Programs as means
use Rattle.program.specs.Programs.{Name, Bound, Annotation, bound_variants}
use Rattle.script_refusals.specs.declared.refusal.Refused.{Refused}
use Rattle.typing.specs.Scripts.{basis_names, bytes_of}
use Rattle.typing.specs.Verdict.{Verdict, refused, once_all}

-- what was declared so far
pub record Tally : Type 0 where
  pub bound : List Bound
  pub annotations : List Annotation
  -- the type node of each annotation's type
  pub roots : List ℕ
  pub datatypes : List Ident
  pub variants : List Variant
  pub functions : ℕ
  pub vals : ℕ

abbrev pub bound_names : List Bound → List Name
bound_names bs = map (λ b. b.name.bytes) bs

abbrev pub annotated_names : List Annotation → List Name
annotated_names xs = map (λ a. a.name.bytes) xs

-- the names that a further one may not have, the newest first
abbrev pub seen_bound : Tally → List Name
seen_bound t = reverse (bound_names t.bound) ++ basis_names

abbrev pub seen_annotated : Tally → List Name
seen_annotated t = reverse (annotated_names t.annotations) ++ basis_names

abbrev pub seen_datatypes : Tally → List Name
seen_datatypes t = reverse (bytes_of t.datatypes)

-- constructors of the datatype with a number, whose field types begin at a type node
abbrev pub variant_codes : ℕ → ℕ → List tree.Constructor → List Variant
variant_codes d t [] = []
variant_codes d t (c ∷ cs) = record { datatype = d; first = t; past = t + types_count c.fields; fields = types_length c.fields } ∷ variant_codes d (t + types_count c.fields) cs

-- nothing was declared yet; the functions of the basis have the first 33 numbers
abbrev pub no_tally : Tally
no_tally = record { bound = []; annotations = []; roots = []; datatypes = []; variants = []; functions = means.basis_count; vals = 0 }

-- one name more in a tally
abbrev pub also_bound : Ident → means.Global → Tally → Tally
also_bound x g t = record t { bound = t.bound ++ record { name = x; meaning = g } ∷ [] }

abbrev pub also_datatype : Ident → Tally → Tally
also_datatype x t = record t { datatypes = t.datatypes ++ x ∷ [] }

abbrev pub also_annotated : Ident → tree.TypeExpr → ℕ → Tally → Tally
also_annotated x e root t = record t { annotations = t.annotations ++ record { name = x; type = e } ∷ []; roots = t.roots ++ root ∷ [] }

abbrev pub also_variants : ℕ → ℕ → ℕ → List tree.Constructor → Tally → Tally
also_variants d c k cs t = record t { bound = t.bound ++ bound_variants c cs []; variants = t.variants ++ variant_codes d k cs }

-- with a definition more, behind so much of each
abbrev pub tallied : Counts → tree.Definition → Tally → Tally
tallied c (datatype_definition p x cs) t = also_variants (length t.datatypes) c.constructors c.types cs (also_datatype x t)
tallied c (type_annotation p x e) t = also_annotated x e c.types t
tallied c (function_definition p x ps e) t = record (also_bound x (means.function t.functions) t) { functions = t.functions + 1 }
tallied c (val_binding p x e) t = record (also_bound x (means.val t.vals) t) { vals = t.vals + 1 }

abbrev pub tallied_all : Counts → Script → Tally → Tally
tallied_all c [] t = t
tallied_all c (d ∷ ds) t = tallied_all (after c d) ds (tallied c d t)

abbrev pub meaning_of : Option Global → means.Global
meaning_of (Some (machine.Function n)) = means.function n
meaning_of (Some (machine.Constructor k)) = means.constructor k
meaning_of (Some (machine.Val i)) = means.val i
meaning_of None = means.unbound

-- The declarations hold a tally.
pub record Holds (text : List ℕ) (d : Declarations) (t : Tally) : Type 0 where
  pub bound : IsIndex text d.bound
  pub bound_names_are : names_in text d.bound ≡ bound_names t.bound
  pub meanings : map meaning_of (take (length t.bound) d.meanings) ≡ map (λ b. b.meaning) t.bound
  pub annotations : IsIndex text d.annotations
  pub annotations_are : names_in text d.annotations ≡ annotated_names t.annotations
  pub as_many : length t.roots ≡ length t.annotations
  pub roots : take (length t.roots) d.roots ≡ t.roots
  pub datatypes : IsIndex text d.datatypes
  pub datatypes_are : names_in text d.datatypes ≡ bytes_of t.datatypes
  pub variants : take (length t.variants) d.variants ≡ t.variants
  pub functions : d.functions ≡ t.functions
  pub vals : d.vals ≡ t.vals

-- A tally has as much of each as was read.
pub record Sizes (c : Counts) (t : Tally) : Type 0 where
  pub bound : length t.bound ≡ c.constructors + c.bindings
  pub annotations : length t.annotations ≤ c.types
  pub datatypes : length t.datatypes ≡ c.datatypes
  pub variants : length t.variants ≡ c.constructors
  pub numbers : t.functions + t.vals ≡ means.basis_count + c.bindings

-- Constructors that lie from entry i on come next, up to an entry; there is room for them.
pub record Next (text : List ℕ) (tables : Tables) (t : Tally) (i past k : ℕ) (cs : List tree.Constructor) : Type 0 where
  pub lie : VariantsLie text tables i k cs
  pub end : past ≡ i + length cs
  pub few : past ≤ 256
  pub many : length t.variants ≡ i
  pub room : length t.bound + length cs ≤ 512

-- what the check says: a refusal, or what follows
abbrev pub told : {X : Type 0} → Result X Refused → Verdict → Verdict
told (Ok x) next = next
told (Err r) next = refused r

-- what once_all says of the definitions from a place on
abbrev pub names_from : Tally → Script → Verdict
names_from t ds = once_all (seen_bound t) (seen_annotated t) (seen_datatypes t) ds

-- A definition was declared, or refused.
pub record Declared (text : List ℕ) (tables : Tables) (m : Definition) (old : Declarations) (result : Result (Unit {0}) Refused) (new : Declarations) : Type 0 where
  pub told_names : (c : Counts) (d : tree.Definition) (ds : Script) (t : Tally) → Holds text old t → Sizes c t → DefinitionLies text tables c d m → Few (after c d) → names_from t (d ∷ ds) ≡ told result (names_from (tallied c d t) ds)
  pub holds : (c : Counts) (d : tree.Definition) (t : Tally) → Holds text old t → Sizes c t → DefinitionLies text tables c d m → Few (after c d) → IfOk result (λ _. Holds text new (tallied c d t))
