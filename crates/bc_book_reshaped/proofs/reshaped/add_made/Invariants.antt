use Rattle.std.proofs.Common.{◌≡◌, ◌++◌, length}
use Rattle.bc_book_reshaped.specs.Reshaped.{made_reshaped}
use Rattle.bc_book_reshaped.proofs.reshaped.add_made.Given as goal

abbrev pub invariant-loop-at : goal.invariant-loop-at
invariant-loop-at l = l.reshaped.items ≡ l.initial.reshaped.items ++ made_reshaped (length l.store.plain.bodies) l.at
