use Rattle.std.proofs.Common.{◌≤◌, length, arith}
use Rattle.bc_step.proofs.Stacks.{three_are}
use Rattle.bc_step.proofs.stack.top_three.Goals as goal

pub returns-else-n-lt3-clause-some : goal.returns-else-n-lt3-clause-some
returns-else-n-lt3-clause-some c = let h : 3 ≤ length c.args.stack.now = omega arith in three_are c.args.stack.now _ h
