use Rattle.bc_book_events.specs.Sound.{IsSoundBook}
use Rattle.bc_serial.proofs.Going.{GoesOn}
use Rattle.bc_serial.proofs.Measure.{measure}
use Rattle.bc_serial.proofs.finish.turns.Given as goal

abbrev pub invariant-loop-alloc : goal.invariant-loop-alloc
invariant-loop-alloc g l = record { goes : GoesOn l.fn.book l.book; sound : IsSoundBook l.book }

abbrev pub decreases-loop-alloc : goal.decreases-loop-alloc
decreases-loop-alloc g l = measure l.book
