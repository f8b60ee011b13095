use Rattle.std.proofs.Common.{◌≡◌, true, rules}
use Rattle.std.proofs.lemmas.List.Sorted.{IsPartitionPoint-from_clause}
use Rattle.bc_params_sets.specs.Orders.{precedes, is_before_run}
use Rattle.bc_params_sets.proofs.Lists.{partitioned}
use Rattle.bc_params_sets.proofs.Orders.{before_down}
use Rattle.bc_params_sets.proofs.ordered.start_of.Goals as goal

pub returns-clause-point : goal.returns-clause-point
returns-clause-point c =
    IsPartitionPoint-from_clause (is_before_run c.args.order c.args.first c.args.second) _ _ c.partition_point.ensures.partitioned
    (partitioned (λ x y. precedes c.args.order x y ≡ true) (is_before_run c.args.order c.args.first c.args.second) (before_down c.args.order c.args.first c.args.second) c.args.items.now c.requires)
    (λ a r q k. search rules)
