use Rattle.std.proofs.Common.{◌≡◌, drop}
use Rattle.bc_code.specs.Given.{given_look}
use Rattle.bc_step.specs.Area.{given_of}
use Rattle.bc_book_events.specs.Events.{first_moved}
use Rattle.bc_law_core.specs.Areas.{moved_in}
use Rattle.bc_book.proofs.moved.first_moved.Given as goal

abbrev pub invariant-loop-id : goal.invariant-loop-id
invariant-loop-id l = moved_in l.store.plain l.area ≡ first_moved l.store.plain (given_look (given_of l.area.held)) (drop l.id-index l.id-items)
