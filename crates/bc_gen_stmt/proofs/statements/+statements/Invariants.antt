use Rattle.std.proofs.Common.{take}
use Rattle.bc_data.specs.ProgramView.{program_stat_views}
use Rattle.bc_data.specs.Typed.{Nothing}
use Rattle.bc_gen_stmt.proofs.Laying.{PutsStatements}
use Rattle.bc_gen_stmt.proofs.statements.+statements.Given as goal

abbrev pub invariant-statements-loop-s : goal.invariant-statements-loop-s
invariant-statements-loop-s l = PutsStatements l.classes (program_stat_views (take l.s-index l.body) Nothing) l.initial.out l.out
