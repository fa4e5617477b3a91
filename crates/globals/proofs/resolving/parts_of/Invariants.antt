use Rattle.std.proofs.Common.{◌≡◌, ℕ, ◌-◌, ◌<◌, List, length}
use Rattle.globals.specs.Lying.{TypesLaid}
use Rattle.grammar.specs.Trees.{TypeExprs, TypeExpr, function_type_rule, Script}
use Rattle.type_rows.specs.TypeExprs.{types_listed, expr_at}
use Rattle.globals.proofs.TypeNodes.{PartsLeft}
use Rattle.globals.proofs.resolving.parts_of.Given as goal

abbrev pub invariant-parts : goal.invariant-parts
invariant-parts l = record {
  few : l.count < l.at;
  left : (text : List ℕ) (script : Script) (p : ℕ) (ts : TypeExprs) (t : TypeExpr) → TypesLaid text l.tables (types_listed script) → l.k < length (types_listed script) → expr_at (types_listed script) l.k ≡ function_type_rule p ts t
      → PartsLeft (types_listed script) l.k ts t l.at l.count;
}

abbrev pub decreases-parts : goal.decreases-parts
decreases-parts l = l.past - l.at
