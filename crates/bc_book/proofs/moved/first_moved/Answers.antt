use Rattle.bc_step.specs.Area.{given_of}
use Rattle.bc_book.proofs.Unmoved.{given_at}
use Rattle.bc_book.proofs.moved.first_moved.Goals as goal

pub given-requires : goal.given-requires
given-requires c = given_at (given_of c.args.area.now.held) c.touched-id-items.result.now c.loop-id.id-index c.touched-id-items.ensures c.loop-id-test.true
