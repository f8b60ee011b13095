use Rattle.std.proofs.Common.{◌≤◌, length, arith}
use Rattle.bc_step.proofs.Stacks.{top_is}
use Rattle.bc_step.proofs.stack.top.Goals as goal

pub returns-else-n-eq0-clause-some : goal.returns-else-n-eq0-clause-some
returns-else-n-eq0-clause-some c = let h : 1 ≤ length c.args.stack.now = omega arith in top_is c.args.stack.now _ h
