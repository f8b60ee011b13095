use Rattle.std.proofs.Common.{◌≡◌, ◌≤◌, ◌+◌, take}
use Rattle.indexmap.specs.IndexSet.{spare}
use Rattle.bc_step.proofs.held.insert_all.Given as goal

abbrev pub invariant-loop-id : goal.invariant-loop-id
invariant-loop-id l = record { keys : l.ids.keys ≡ take l.id-index l.objects; room : spare l.fn.ids ≤ l.id-index + spare l.ids }
