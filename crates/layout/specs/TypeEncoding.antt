-- How a type expression lies in the table of types: one entry for each, and behind a function type its parameter types and its result
-- type, with the number of the entry after the last of them.
use Rattle.std.specs.Prelude.{ℕ, ◌+◌, List, [], ◌∷◌, ◌++◌, length}
use Rattle.grammar.specs.Limits.{type_count, types_count}
use Rattle.grammar.specs.Trees.{TypeExpr, int_type, bool_type, sym_type, unit_type, datatype, function_type_rule, TypeExprs, no_types, and_type}
use Rattle.layout.specs.declared.type_node.TypeNode.{TypeNode}
use Rattle.layout.specs.declared.type_node.TypeForm.{TypeForm}
use Rattle.layout.specs.declared.type_node.TypeForm.TheVariants as form

abbrev pub node_of_type : TypeForm → ℕ → ℕ → TypeNode
node_of_type f p past = record { form = f; place = p; past = past }

-- an entry that no type expression uses
abbrev pub unused_type : TypeNode
unused_type = node_of_type form.Unused 0 0

-- the entries of a type expression whose first has the number i
abbrev mutual
  pub encode_type : ℕ → TypeExpr → List TypeNode
  encode_type i (int_type p) = node_of_type form.Int p (i + 1) ∷ []
  encode_type i (bool_type p) = node_of_type form.Bool p (i + 1) ∷ []
  encode_type i (sym_type p) = node_of_type form.Sym p (i + 1) ∷ []
  encode_type i (unit_type p) = node_of_type form.Unit p (i + 1) ∷ []
  encode_type i (datatype x) = node_of_type (form.Datatype (length x.bytes)) x.place (i + 1) ∷ []
  encode_type i (function_type_rule p ts t) = node_of_type form.Function p (i + type_count (function_type_rule p ts t)) ∷ (encode_types (i + 1) ts ++ encode_type (i + 1 + types_count ts) t)

  pub encode_types : ℕ → TypeExprs → List TypeNode
  encode_types i no_types = []
  encode_types i (and_type t ts) = encode_type i t ++ encode_types (i + type_count t) ts
