use Rattle.bc_step.proofs.Stacks.{popped}
use Rattle.bc_step.proofs.stack.drop_top.Goals as goal

pub returns : goal.returns
returns c = popped c.pop.result c.args.stack.now.items c.pop.new.stack.items c.pop.ensures.some c.pop.ensures.none
