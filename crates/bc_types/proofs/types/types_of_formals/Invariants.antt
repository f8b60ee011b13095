use Rattle.std.proofs.Common.{◌≡◌, take}
use Rattle.bc_data.specs.SourceTree.{Empty}
use Rattle.bc_data.specs.View.{onto}
use Rattle.bc_types_rules.specs.Declared.{types_of_formals}
use Rattle.bc_types_rules.specs.Numbering.{number_of}
use Rattle.bc_types_expr.specs.Types.{types_seen}
use Rattle.bc_types.proofs.types.types_of_formals.Given as goal

abbrev pub invariant-loop-formal : goal.invariant-loop-formal
invariant-loop-formal l = types_seen l.types.items ≡ types_of_formals (number_of l.names.classes) (onto (take l.formal-index l.formals) Empty)
