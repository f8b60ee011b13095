use Rattle.std.proofs.Common.{◌≤◌, length, arith}
use Rattle.bc_step.proofs.Stacks.{two_are}
use Rattle.bc_step.proofs.stack.top_two.Goals as goal

pub returns-else-n-lt2-clause-some : goal.returns-else-n-lt2-clause-some
returns-else-n-lt2-clause-some c = let h : 2 ≤ length c.args.stack.now = omega arith in two_are c.args.stack.now _ h
