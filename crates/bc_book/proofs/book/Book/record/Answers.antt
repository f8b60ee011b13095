use Rattle.std.proofs.Common.{subst, sym}
use Rattle.bc_mean.specs.Serial.{Failed}
use Rattle.bc_book_events.specs.Book.{BookState}
use Rattle.bc_book_events.specs.Sound.{IsSoundBook}
use Rattle.bc_book.proofs.Recording.{Addable, addable}
use Rattle.bc_book.proofs.book.Book.record.Goals as goal

may : (c : goal.After-add_failure-arg-1) → Addable c.self.inside.failures.failures (record { v = c.args.v; fault = c.args.fault; touched = c.args.touched.now })
may c =
    let f : Failed = record { v = c.args.v; fault = c.args.fault; touched = c.args.touched.now } in
    subst (λ (b : BookState). Addable b.failures f) (sym c.self.view_is)
    (addable c.args.self.now c.args.worker f c.requires.holds (subst IsSoundBook c.self.view_is c.self.invariant.sound) c.requires.sound c.requires.there)

pub add_failure-requires-clause-new : goal.add_failure-requires-clause-new
add_failure-requires-clause-new c = (may c).new

pub add_failure-requires-clause-few : goal.add_failure-requires-clause-few
add_failure-requires-clause-few c = (may c).few

pub add_failure-requires-clause-some : goal.add_failure-requires-clause-some
add_failure-requires-clause-some c = (may c).some

pub add_failure-requires-clause-different : goal.add_failure-requires-clause-different
add_failure-requires-clause-different c = (may c).different

pub add_failure-requires-clause-below : goal.add_failure-requires-clause-below
add_failure-requires-clause-below c = (may c).below
