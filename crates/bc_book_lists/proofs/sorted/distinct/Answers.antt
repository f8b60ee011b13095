use Rattle.bc_book_lists.proofs.Ordering.{distinct_turn}
use Rattle.bc_book_lists.proofs.sorted.distinct.Goals as goal

pub loop-i-preserved : goal.loop-i-preserved
loop-i-preserved c =
    distinct_turn c.args.sorted.now c.loop-i.i c.index-sorted-i.result c.is_at-again.result c.loop-i.kept c.push_unless.new.kept
    c.loop-i-test.true c.index-sorted-i.is c.is_at-again.ensures c.loop-i.invariant c.in_ok-push_unless.ensures
