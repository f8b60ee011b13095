use Rattle.std.proofs.Common.{◌≡◌, take}
use Rattle.std.specs.List.{filter_map}
use Rattle.bc_step.specs.Held.{written_at}
use Rattle.bc_step.proofs.held.written_of.Given as goal

abbrev pub invariant-loop-id : goal.invariant-loop-id
invariant-loop-id l = l.all ≡ filter_map (written_at l.ids.keys l.given.items) (take l.id-index l.numbers)
