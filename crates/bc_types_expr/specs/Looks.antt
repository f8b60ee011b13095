-- What a table says of names.
use Rattle.std.specs.Prelude.{List, map, option_map}
use Rattle.bc_types_rules.specs.Context as rules
use Rattle.bc_types_rules.specs.Declared as declared
use Rattle.bc_types_rules.specs.Declared.{names_by}
use Rattle.bc_types_expr.specs.Types.{type_seen, types_seen}
use Rattle.bc_types_expr.specs.declared.table.Signature.{Signature}
use Rattle.bc_types_expr.specs.declared.table.ClassTypes.{ClassTypes}
use Rattle.bc_types_expr.specs.declared.table.Table.{Table}

abbrev pub signature_seen : Signature → rules.Signature
signature_seen g = record { formals = types_seen g.formals.items; result = option_map type_seen g.result }

abbrev pub class_types_seen : ClassTypes → declared.Types
class_types_seen t = record {
  fields = types_seen t.fields.items;
  methods = map signature_seen t.methods.items;
  maker = types_seen t.maker.items;
}

abbrev pub all_types_seen : List ClassTypes → List declared.Types
all_types_seen ts = map class_types_seen ts

-- the names that a table makes known
abbrev pub looks : Table → rules.Names
looks t = names_by t.names (all_types_seen t.types.items)
