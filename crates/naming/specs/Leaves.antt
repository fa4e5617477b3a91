-- Names.
use Rattle.std.specs.Prelude.{Bool, true, false}
use Rattle.type_rows.specs.declared.value_type.ValueType.{ValueType}
use Rattle.type_rows.specs.declared.value_type.ValueType.TheVariants as value

abbrev pub datatype_kind : ValueType → Bool
datatype_kind value.Int = false
datatype_kind value.Bool = false
datatype_kind value.Sym = false
datatype_kind value.Unit = false
datatype_kind (value.Datatype d) = true
datatype_kind (value.Function k) = false
