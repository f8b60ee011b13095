use Rattle.std.proofs.Common.{◌≡◌, ◌++◌, take}
use Rattle.bc_book_reshaped.specs.Reshaped.{written_reshaped}
use Rattle.bc_book_reshaped.proofs.reshaped.add_written.Given as goal

abbrev pub invariant-loop-at : goal.invariant-loop-at
invariant-loop-at l = l.reshaped.items ≡ l.initial.reshaped.items ++ written_reshaped l.store.plain 0 (take l.at l.bodies)
