use Rattle.std.proofs.Common.{◌≡◌, ℕ, ◌+◌, List, length}
use Rattle.globals.specs.Known.{meaning_in}
use Rattle.globals.specs.Lying.{ParametersLie}
use Rattle.grammar.specs.Trees.{Ident, Script}
use Rattle.naming.specs.Judges.{desk, Setting, Ready, rows_of, text_of}
use Rattle.type_rows.specs.Rows.{TypesLie}
use Rattle.typing.specs.Types.{Tys, count}
use Rattle.naming.proofs.ParameterLaws.{ParametersLeft}
use Rattle.naming.proofs.binding.bind_parameters.Given as goal

abbrev pub invariant-loop-k : goal.invariant-loop-k
invariant-loop-k l = (script : Script) (xs : List Ident) (τs : Tys) (last : ℕ) → Setting l.world script → Ready l.world script (desk l.fn.scope l.fn.locals) → ParametersLie (text_of l.world script) l.tables l.first xs → l.past ≡ l.first + length xs
    → TypesLie (rows_of l.world script) (meaning_in script) l.fn.row last τs → length xs ≡ count τs → ParametersLeft l.world script l.tables l.past xs τs (desk l.fn.scope l.fn.locals) l.k l.row (desk l.scope l.locals)
