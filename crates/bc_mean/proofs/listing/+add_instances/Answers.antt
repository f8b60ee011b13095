use Rattle.std.proofs.Common.{◌-◌, length, arith}
use Rattle.bc_mean.specs.Listing.{enabled_with}
use Rattle.bc_mean.proofs.Tuples.{behind_all, behind_step}
use Rattle.bc_mean.proofs.listing.+add_instances.Goals as goal

pub loop-n-preserved : goal.loop-n-preserved
loop-n-preserved t c =
    behind_step (enabled_with c.args.task.now c.args.store.now c.args.number c.args.objects) (length c.args.store.now.tags) c.args.front c.with-longer.result (c.args.left - 1) c.loop-n.n
    c.args.found.now c.loop-n.found c.add_instances.new.found c.with-longer.ensures c.loop-n.invariant c.in_ok-add_instances.ensures

pub returns : goal.returns
returns t c =
    behind_all (enabled_with c.args.task.now c.args.store.now c.args.number c.args.objects) (length c.args.store.now.tags) c.args.front c.args.left c.loop-n.n
    c.args.found.now c.loop-n.found (omega arith) (omega arith) c.loop-n.invariant
