-- Types as the check keeps them.
use Rattle.std.proofs.Common.{◌≡◌, ℕ, List, Some, None, refl, ap, ◌∙◌}
use Rattle.std.proofs.lemmas.Option.{slice_get-map}
use Rattle.std.specs.List.{slice_get}
use Rattle.grammar.specs.Trees.{Script}
use Rattle.naming.specs.Judges.{meant, vals_of}
use Rattle.naming.specs.Leaves.{datatype_kind}
use Rattle.naming.specs.declared.world.World.{World}
use Rattle.type_rows.specs.Rows.{RowsMean, IsKind}
use Rattle.type_rows.specs.Shapes.{ty}
use Rattle.type_rows.specs.declared.row.Row.{Row}
use Rattle.type_rows.specs.declared.value_type.ValueType.{ValueType}
use Rattle.type_rows.specs.declared.value_type.ValueType.TheVariants as value
use Rattle.typing.specs.Judging.{is_datum}
use Rattle.typing.specs.Types.{Ty}

-- a datatype by its row is one by its type
pub datum_kind : (rows : List Row) (m : ℕ → Ty) → RowsMean rows m → (kind : ValueType) → IsKind rows kind → is_datum (ty m kind) ≡ datatype_kind kind
datum_kind rows m mean value.Int v = refl
datum_kind rows m mean value.Bool v = refl
datum_kind rows m mean value.Sym v = refl
datum_kind rows m mean value.Unit v = refl
datum_kind rows m mean (value.Datatype d) v = refl
datum_kind rows m mean (value.Function k) v = ap is_datum (mean k v.0 v.1).meant

module _ (world : World) (script : Script) where
  pub val_some : (k : ℕ) (kind : ValueType) → slice_get world.vals.now k ≡ Some kind → slice_get (vals_of world script) k ≡ Some (meant world script kind)
  val_some k kind e = slice_get-map (meant world script) world.vals.now k ∙ ap (λ o. elim o [ Some x ↦ Some (meant world script x) | None ↦ None ]) e
