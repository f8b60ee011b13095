-- Checked expressions as contracts see them.
use Rattle.std.specs.Prelude.{List, map, option_map}
use Rattle.bc_types_rules.specs.Expressions as rules
use Rattle.bc_data.specs.Typed.{NoArg}
use Rattle.bc_data.specs.ProgramView.{view_expr, expr_views}
use Rattle.bc_types_expr.specs.Types.{type_seen}
use Rattle.bc_types_expr.specs.declared.typed.Typed.{Typed}
use Rattle.bc_types_expr.specs.declared.typed.Argument.{Argument}
use Rattle.bc_types_expr.specs.declared.typed.Arguments.{Arguments}
use Rattle.bc_types_expr.specs.declared.typed.Called.{Called}

abbrev pub typed_seen : Typed → rules.Typed
typed_seen t = record { code = view_expr t.code; type = type_seen t.value_type }

abbrev pub argument_seen : Argument → rules.Argument
argument_seen x = record { type = type_seen x.value_type; at = x.at }

abbrev pub each_seen : List Argument → List rules.Argument
each_seen xs = map argument_seen xs

abbrev pub arguments_seen : Arguments → rules.Arguments
arguments_seen xs = record { codes = expr_views xs.codes.items NoArg; each = each_seen xs.each.items }

abbrev pub called_seen : Called → rules.Called
called_seen c = record { code = view_expr c.code; result = option_map type_seen c.result }
