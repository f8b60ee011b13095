use Rattle.std.proofs.Common.{take}
use Rattle.bc_gen_stmt.proofs.Laying.{PutsChanges}
use Rattle.bc_gen_stmt.proofs.statements.put_changes.Given as goal

abbrev pub invariant-loop-change : goal.invariant-loop-change
invariant-loop-change l = PutsChanges (take l.change-index l.changes) l.initial.out l.out
