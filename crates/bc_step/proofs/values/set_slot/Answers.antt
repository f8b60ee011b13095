use Rattle.std.proofs.lemmas.List.{drop-set-add}
use Rattle.bc_step.proofs.values.set_slot.Goals as goal

pub returns-then-n-len-clause-own : goal.returns-then-n-len-clause-own
returns-then-n-len-clause-own c = drop-set-add c.args.base c.args.slots.now.items c.args.n c.args.x
