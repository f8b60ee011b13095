use Rattle.std.proofs.Common.{◌≡◌, ◌⊎◌, true, take}
use Rattle.bc_data.specs.declared.run.Invocation.{Invocation}
use Rattle.bc_mean.specs.Serial.{listed, same_invocation}
use Rattle.bc_book_lists.proofs.find.any_gone.Given as goal

abbrev pub invariant-loop-w : goal.invariant-loop-w
invariant-loop-w l = (w : Invocation) → listed (take l.w-index l.before) w ≡ true → (listed l.behind w ≡ true) ⊎ (same_invocation w l.v ≡ true)
