use Rattle.std.proofs.Common.{◌≡◌, take}
use Rattle.bc_data.proofs.ids.Ids.from_slice.Given as goal

-- the numbers so far
abbrev pub invariant-loop-id : goal.invariant-loop-id
invariant-loop-id l = l.all ≡ take l.id-index l.ids
