use Rattle.std.proofs.Common.{◌≡◌, ◌+◌, take, count_by, vec_len, vec_capacity}
use Rattle.std.proofs.lemmas.List.Filters.{FiltersInPlace}
use Rattle.bc_tally.specs.Counts.{Counts}
use Rattle.bc_failed.specs.Records.{touches, leaves}
use Rattle.bc_failed.proofs.Touched.{in_turn}
use Rattle.bc_failed.proofs.order.drop_in.Given as goal

abbrev pub invariant-loop-at : goal.invariant-loop-at
invariant-loop-at g l = record {
  filtered : FiltersInPlace (leaves l.id) l.initial.items.items l.items.items l.kept l.at;
  named : Counts l.named (in_turn l.id l.initial.items.items l.at);
  len : vec_len l.items ≡ vec_len l.initial.items;
  capacity : vec_capacity l.items ≡ vec_capacity l.initial.items;
  steps : l.steps ≡ l.initial.steps + count_by (touches l.id) (take l.at l.initial.items.items);
}
