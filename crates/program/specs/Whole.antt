-- The code of a whole script: the bodies of its defines and vals one after another in text order, from node 0 on, and the tables that
-- lead into it. Entries of a table that are not used are empty.
use Rattle.std.specs.Prelude.{ℕ, ◌+◌, cond, List, [], ◌∷◌, ◌++◌, map, length, codes}
use Rattle.std.specs.Str.{bytes_eq}
use Rattle.grammar.specs.Limits.{expr_nodes}
use Rattle.grammar.specs.Trees.{bound, datatype_definition, type_annotation, function_definition, val_binding, Script}
use Rattle.layout.specs.Tabling.{filled}
use Rattle.layout.specs.Words.{word}
use Rattle.program.specs.Compiling.{compile}
use Rattle.program.specs.Programs.{Name, Program, Define, program, defines_of, first_of, place_meant}
use Rattle.program.specs.Scopes.{bind_scope}
use Rattle.program.specs.Standing.{no_code, no_function, no_owner}
use Rattle.program.specs.declared.code.Code.{Code}
use Rattle.program.specs.declared.compiled.FunctionCode.{FunctionCode}
use Rattle.program.specs.declared.compiled.Compiled.{Compiled}
use Rattle.program.specs.declared.compiled.Owner.{Owner as OwnerCode}

-- the bodies from node i on
abbrev pub body_codes : Program → ℕ → Script → List Code
body_codes P i [] = []
body_codes P i (datatype_definition p x cs ∷ ds) = body_codes P i ds
body_codes P i (type_annotation p x t ∷ ds) = body_codes P i ds
body_codes P i (function_definition p x ps e ∷ ds) = compile P (bind_scope (map bound ps) []) i e ++ body_codes P (i + expr_nodes e) ds
body_codes P i (val_binding p x e ∷ ds) = compile P [] i e ++ body_codes P (i + expr_nodes e) ds

-- where the bodies of the defines begin
abbrev pub function_codes : ℕ → Script → List FunctionCode
function_codes i [] = []
function_codes i (datatype_definition p x cs ∷ ds) = function_codes i ds
function_codes i (type_annotation p x t ∷ ds) = function_codes i ds
function_codes i (function_definition p x ps e ∷ ds) = record { body = i; arity = length ps } ∷ function_codes (i + expr_nodes e) ds
function_codes i (val_binding p x e ∷ ds) = function_codes (i + expr_nodes e) ds

-- where the expressions of the vals begin
abbrev pub val_codes : ℕ → Script → List ℕ
val_codes i [] = []
val_codes i (datatype_definition p x cs ∷ ds) = val_codes i ds
val_codes i (type_annotation p x t ∷ ds) = val_codes i ds
val_codes i (function_definition p x ps e ∷ ds) = val_codes (i + expr_nodes e) ds
val_codes i (val_binding p x e ∷ ds) = i ∷ val_codes (i + expr_nodes e) ds

abbrev pub owner_codes : Script → List OwnerCode
owner_codes [] = []
owner_codes (datatype_definition p x cs ∷ ds) = owner_codes ds
owner_codes (type_annotation p x t ∷ ds) = owner_codes ds
owner_codes (function_definition p x ps e ∷ ds) = record { place = p; name = word x } ∷ owner_codes ds
owner_codes (val_binding p x e ∷ ds) = record { place = p; name = word x } ∷ owner_codes ds

-- the number of the first define with a name; the number of defines where none has it
abbrev pub define_number : Name → List Define → ℕ
define_number w [] = 0
define_number w (d ∷ ds) = cond (bytes_eq w d.name.bytes) 0 (1 + define_number w ds)

abbrev pub compiled : Script → Compiled
compiled script = record {
  code = filled 4096 no_code (body_codes (program script) 0 script);
  functions = filled 256 no_function (function_codes 0 script);
  vals = filled 256 0 (val_codes 0 script);
  owners = filled 256 no_owner (owner_codes script);
  owner_count = length (owner_codes script);
  main = define_number (codes "main") (defines_of script);
  main_place = place_meant (first_of (λ d. d.name) (codes "main") (defines_of script));
}
