use Rattle.std.proofs.Common.{arith}
use Rattle.bc_book_events.specs.Events.{halt}
use Rattle.bc_serial.specs.Run.{Finishes}
use Rattle.bc_serial.proofs.Going.{halt_size}
use Rattle.bc_serial.proofs.Results.{at_err}
use Rattle.bc_serial.proofs.finish.finish.Goals as goal

pub halt-requires : goal.halt-requires
halt-requires c =
    let d = c.turns.new.book in
    let finishes : Finishes c.args.book.now (halt 0 d) = at_err c.turns.result c.is_err.result _ c.is_err.ensures.value c.if-is_err.true c.turns.ensures.err in
    omega (arith, c.workers.ensures.some, finishes.same.workers, halt_size d)
