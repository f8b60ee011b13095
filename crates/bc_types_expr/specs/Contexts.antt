-- Where a body stands, as contracts see it.
use Rattle.bc_types_rules.specs.Context.{Context}
use Rattle.bc_types_expr.specs.Looks.{looks}
use Rattle.bc_types_expr.specs.declared.inside.Inside.{Inside}

abbrev pub context_of : Inside → Context
context_of i = record { names = looks i.table.now; me = i.me; result = i.result }
