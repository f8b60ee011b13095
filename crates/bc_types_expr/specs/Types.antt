-- Types of values as contracts see them.
use Rattle.std.specs.Prelude.{List, map}
use Rattle.bc_types_rules.specs.Context as rules
use Rattle.bc_types_expr.specs.declared.value_type.ValueType.{ValueType}
use Rattle.bc_types_expr.specs.declared.value_type.ValueType.TheVariants as value_type

abbrev pub type_seen : ValueType → rules.ValueType
type_seen (value_type.Known sh) = rules.Known sh
type_seen (value_type.Undeclared many name) = rules.Undeclared many name

abbrev pub types_seen : List ValueType → List rules.ValueType
types_seen ts = map type_seen ts
