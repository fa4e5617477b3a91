-- The nodes of an expression as they are first written: each symbol with its own place.
use Rattle.std.specs.Prelude.{ℕ, List}
use Rattle.grammar.specs.Trees.{Expr, Exprs, Bindings, Branches}
use Rattle.layout.specs.Encoding as final
use Rattle.layout.specs.declared.node.Node.{Node}

abbrev pub own : ℕ → List ℕ → ℕ
own p w = p

abbrev pub encode : ℕ → Expr → List Node
encode = final.encode own

abbrev pub encodes : ℕ → Exprs → List Node
encodes = final.encodes own

abbrev pub encode_bindings : ℕ → Bindings → List Node
encode_bindings = final.encode_bindings own

abbrev pub encode_branches : ℕ → Branches → List Node
encode_branches = final.encode_branches own
