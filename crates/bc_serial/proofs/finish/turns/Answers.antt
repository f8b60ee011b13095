use Rattle.std.proofs.Common.{◌<◌, sym, subst, arith}
use Rattle.bc_book_events.specs.Book.{BookState}
use Rattle.bc_book_events.specs.Sound.{IsSoundBook}
use Rattle.bc_serial.proofs.Going.{GoesOn, goes_still, halted, turn_more}
use Rattle.bc_serial.proofs.Measure.{measure, turn_falls}
use Rattle.bc_serial.proofs.Results.{on_err_from}
use Rattle.bc_serial.proofs.finish.turns.Goals as goal

pub returns-in_err-turn-clause-err : goal.returns-in_err-turn-clause-err
returns-in_err-turn-clause-err g c =
    let d = c.loop-alloc.book in
    let goes = c.loop-alloc.invariant.goes in
    on_err_from _ _
    (halted c.args.book.now d c.turn.new.book goes
    (goes_still d.stop c.stop.result c.is_none.result c.stop.ensures c.is_none.ensures c.loop-alloc-test.true)
    c.in_err-turn.ensures.err
    (omega (arith, c.requires.worker, goes.same.workers)))

pub loop-alloc-smaller : goal.loop-alloc-smaller
loop-alloc-smaller g c =
    let d = c.loop-alloc.book in
    subst (λ (e : BookState). measure e < measure d) (sym c.in_ok-turn.ensures.ok)
    (turn_falls d
    (goes_still d.stop c.stop.result c.is_none.result c.stop.ensures c.is_none.ensures c.loop-alloc-test.true)
    c.loop-alloc.invariant.goes.at.idle
    (subst IsSoundBook c.in_ok-turn.ensures.ok c.is_sound-in-loop-alloc.ensures))

pub loop-alloc-preserved : goal.loop-alloc-preserved
loop-alloc-preserved g c = record {
  goes = subst (GoesOn c.args.book.now) (sym c.in_ok-turn.ensures.ok) (turn_more c.args.book.now c.loop-alloc.book c.loop-alloc.invariant.goes);
  sound = c.is_sound-in-loop-alloc.ensures;
}
