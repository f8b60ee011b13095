use Rattle.std.proofs.Common.{◌≡◌, take}
use Rattle.bc_book_events.specs.Steps.{failures_left}
use Rattle.bc_book_lists.proofs.drops.drop_touching_each.Given as goal

abbrev pub invariant-loop-id : goal.invariant-loop-id
invariant-loop-id g l = l.failures.failures ≡ failures_left (take l.id-index l.changed) l.initial.failures.failures
