use Rattle.std.proofs.Common.{◌≡◌, true, rules}
use Rattle.std.proofs.lemmas.List.Sorted.{IsPartitionPoint-from_clause}
use Rattle.bc_params_sets.specs.Orders.{precedes}
use Rattle.bc_params_sets.proofs.Lists.{partitioned}
use Rattle.bc_params_sets.proofs.Orders.{down}
use Rattle.bc_params_sets.proofs.ordered.place_of.Goals as goal

pub returns-clause-point : goal.returns-clause-point
returns-clause-point c =
    IsPartitionPoint-from_clause (λ b. precedes c.args.order b c.args.binding) _ _ c.partition_point.ensures.partitioned
    (partitioned (λ x y. precedes c.args.order x y ≡ true) (λ b. precedes c.args.order b c.args.binding) (down c.args.order c.args.binding) c.args.items.now c.requires)
    (λ a r q k. search rules)
