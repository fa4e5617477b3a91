-- The types of a script: which names in them are known, and what each row is.
use Rattle.std.specs.Prelude.{◌≡◌, ℕ, ◌+◌, List, [], ◌∷◌, length, Ok, Err, Result}
use Rattle.globals.specs.declared.declarations.Declarations.{Declarations}
use Rattle.globals.specs.declared.resolving.Parts.{Parts}
use Rattle.grammar.specs.Limits.{types_count, types_length}
use Rattle.grammar.specs.Trees as tree
use Rattle.names.specs.Indexing.{IsIndex, names_in}
use Rattle.program.specs.Programs.{Program, first_of}
use Rattle.script_refusals.specs.declared.refusal.Refusal.TheVariants as refusal
use Rattle.script_refusals.specs.declared.refusal.Refused.{Refused}
use Rattle.type_rows.specs.Signatures.{HasBasis}
use Rattle.type_rows.specs.TypeExprs.{head_shape, HasRows}
use Rattle.type_rows.specs.declared.rows.Rows.{Rows}
use Rattle.type_rows.specs.declared.shape.Shape.{Shape}
use Rattle.typing.specs.Scripts.{Distinct, bytes_of}
use Rattle.typing.specs.Verdict.{Verdict, accepted, refused, before, found}

-- whether a name that is a type expression is that of a datatype
abbrev pub known_head : Program → tree.TypeExpr → Verdict
known_head P (tree.int_type p) = accepted
known_head P (tree.bool_type p) = accepted
known_head P (tree.sym_type p) = accepted
known_head P (tree.unit_type p) = accepted
known_head P (tree.datatype x) = found refusal.Unknown x.place (first_of (λ d. d) x.bytes P.datatypes)
known_head P (tree.function_type_rule p ts t) = accepted

abbrev pub known_all : Program → List tree.TypeExpr → Verdict
known_all P [] = accepted
known_all P (t ∷ ts) = before (known_head P t) (known_all P ts)

-- the index of datatypes has those of a script
pub record HasDatatypes (text : List ℕ) (d : Declarations) (P : Program) : Type 0 where
  pub index : IsIndex text d.datatypes
  pub names : names_in text d.datatypes ≡ bytes_of P.datatypes
  pub distinct : Distinct [] (bytes_of P.datatypes)

-- a type expression's shape, or a name that is unknown
abbrev pub IsShape : Program → tree.TypeExpr → Result Shape Refused → Type 0
IsShape P t (Ok s) = (s ≡ head_shape P t) × (known_head P t ≡ accepted)
IsShape P t (Err r) = known_head P t ≡ refused r

-- how many parameters a function type at row k has, and where its result type lies
pub record HasParts (k : ℕ) (ts : tree.TypeExprs) (parts : Parts) : Type 0 where
  pub count : parts.count ≡ types_length ts
  pub result : parts.result ≡ k + 1 + types_count ts

-- the table of types, or the first name that is unknown
abbrev pub IsResolved : Program → List tree.TypeExpr → Result Rows Refused → Type 0
IsResolved P ts (Ok rows) = (known_all P ts ≡ accepted) × HasRows P ts rows.rows × HasBasis rows.rows (length ts)
IsResolved P ts (Err r) = known_all P ts ≡ refused r
