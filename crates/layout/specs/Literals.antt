-- The symbol literals of a script, in text order, and the first one with given bytes, whose place stands for the symbol.
use Rattle.std.specs.Prelude.{ℕ, cond, List, [], ◌∷◌, ◌++◌}
use Rattle.std.specs.Str.{bytes_eq}
use Rattle.grammar.specs.Trees.{Expr, integer, symbol, boolean, unit, name, if_expr, begin_expr, let_expr, case_expr, dup_expr, apply_expr, Exprs, no_exprs, and_expr, Bindings, no_bindings, and_binding, Branches, last_branch, and_branch, Definition, datatype_definition, type_annotation, function_definition, val_binding, Script}

-- a literal: the place of its first quote, and the bytes between its quotes
pub record Literal : Type 0 where
  pub place : ℕ
  pub bytes : List ℕ

abbrev mutual
  pub literals : Expr → List Literal
  literals (integer p z) = []
  literals (symbol p w) = record { place = p; bytes = w } ∷ []
  literals (boolean p b) = []
  literals (unit p) = []
  literals (name p w) = []
  literals (if_expr p a b c) = literals a ++ (literals b ++ literals c)
  literals (begin_expr p e es) = literals e ++ literals_all es
  literals (let_expr p bs e) = literals_bound bs ++ literals e
  literals (case_expr p e bs) = literals e ++ literals_branched bs
  literals (dup_expr p x) = []
  literals (apply_expr p e es) = literals e ++ literals_all es

  pub literals_all : Exprs → List Literal
  literals_all no_exprs = []
  literals_all (and_expr e es) = literals e ++ literals_all es

  pub literals_bound : Bindings → List Literal
  literals_bound no_bindings = []
  literals_bound (and_binding p x e bs) = literals e ++ literals_bound bs

  pub literals_branched : Branches → List Literal
  literals_branched (last_branch p x e) = literals e
  literals_branched (and_branch p x e bs) = literals e ++ literals_branched bs

abbrev pub literals_defined : Definition → List Literal
literals_defined (datatype_definition p x cs) = []
literals_defined (type_annotation p x t) = []
literals_defined (function_definition p x xs e) = literals e
literals_defined (val_binding p x e) = literals e

abbrev pub literals_of : Script → List Literal
literals_of [] = []
literals_of (d ∷ ds) = literals_defined d ++ literals_of ds

-- the place of the first of these literals that has these bytes
abbrev pub place_of_first : List Literal → List ℕ → ℕ
place_of_first [] w = 0
place_of_first (l ∷ ls) w = cond (bytes_eq l.bytes w) l.place (place_of_first ls w)

-- the number of a symbol in a script
abbrev pub symbol_number : Script → List ℕ → ℕ
symbol_number script w = place_of_first (literals_of script) w
