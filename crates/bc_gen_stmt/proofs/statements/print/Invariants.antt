use Rattle.std.proofs.Common.{map, take}
use Rattle.bc_data.specs.ProgramView.{view_part}
use Rattle.bc_gen_stmt.proofs.Laying.{PutsParts}
use Rattle.bc_gen_stmt.proofs.statements.print.Given as goal

abbrev pub invariant-loop-part : goal.invariant-loop-part
invariant-loop-part l = PutsParts l.classes l.at (map view_part (take l.part-index l.parts)) l.initial.out l.out
