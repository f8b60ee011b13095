use Rattle.std.proofs.Common.{◌≡◌, true, rules}
use Rattle.std.proofs.lemmas.List.Sorted.{IsPartitionPoint-from_clause}
use Rattle.bc_mean.specs.Orders.{precedes}
use Rattle.bc_mean.proofs.Orders.{precedes_trans}
use Rattle.bc_params_sets.proofs.Lists.{partitioned}
use Rattle.bc_book_lists.proofs.sorted.place_of.Goals as goal

pub returns-clause-point : goal.returns-clause-point
returns-clause-point c =
    IsPartitionPoint-from_clause (λ w. precedes w c.args.v.now) _ _ c.partition_point.ensures.partitioned
    (partitioned (λ x y. precedes x y ≡ true) (λ w. precedes w c.args.v.now) (λ x y h k. precedes_trans x y c.args.v.now h k) c.args.vs.now c.requires)
    (λ a r q k. search rules)
