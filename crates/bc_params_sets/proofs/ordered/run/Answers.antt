use Rattle.std.proofs.Common.{◌≤◌, arith}
use Rattle.bc_params_sets.proofs.Orders.{starts_first, bound_run, rising_run}
use Rattle.bc_params_sets.proofs.ordered.run.Goals as goal

pub prove-unreachable-requires : goal.prove-unreachable-requires
prove-unreachable-requires c =
    let h : c.start_of-from.result ≤ c.end_of-to.result = starts_first c.args.order c.args.first c.args.second c.args.items.now c.start_of-from.result c.end_of-to.result
    c.start_of-from.ensures.within c.end_of-to.ensures.within c.start_of-from.ensures.point c.end_of-to.ensures.point in
    omega arith

pub returns-clause-members : goal.returns-clause-members
returns-clause-members c = λ b. bound_run c.args.order c.args.first c.args.second c.args.items.now c.start_of-from.result c.end_of-to.result b
    c.start_of-from.ensures.within c.end_of-to.ensures.within c.start_of-from.ensures.point c.end_of-to.ensures.point

pub returns-clause-rising : goal.returns-clause-rising
returns-clause-rising c = rising_run c.args.order c.args.first c.args.second c.args.items.now c.start_of-from.result c.end_of-to.result
    c.requires c.end_of-to.ensures.within c.start_of-from.ensures.point c.end_of-to.ensures.point
