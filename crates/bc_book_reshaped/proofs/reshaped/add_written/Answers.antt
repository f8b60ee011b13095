use Rattle.std.proofs.Common.{true, false, Vec, Global, List, sym, ap, ◌∙◌, append-nil}
use Rattle.bc_book_reshaped.specs.declared.reshaped.Reshaped.{Reshaped}
use Rattle.bc_book_reshaped.proofs.Added.{written_added}
use Rattle.bc_book_reshaped.proofs.reshaped.add_written.Goals as goal
use Rattle.bc_book_reshaped.proofs.reshaped.add_written.Goals.{then-is_reshaped+in_ok-push, else-is_reshaped}

items_of : Vec Reshaped Global → List Reshaped
items_of v = v.items

pub loop-at-preserved : goal.loop-at-preserved
unfolding items_of
loop-at-preserved c = elim c.if-is_reshaped.branch [
  | then-is_reshaped+in_ok-push w ↦
      ap items_of w.reshaped-is
      ∙ (w.in_ok-push.ensures.items
      ∙ written_added c.args.store.now.plain c.args.bodies.now c.loop-at.at c.index-bodies-at.result true c.args.reshaped.now.items c.loop-at.reshaped.items c.loop-at-test.true c.index-bodies-at.is w.if-is_reshaped.ensures c.loop-at.invariant)
  | else-is_reshaped w ↦
      ap items_of w.reshaped-is
      ∙ (sym (append-nil c.loop-at.reshaped.items)
      ∙ written_added c.args.store.now.plain c.args.bodies.now c.loop-at.at c.index-bodies-at.result false c.args.reshaped.now.items c.loop-at.reshaped.items c.loop-at-test.true c.index-bodies-at.is w.if-is_reshaped.ensures c.loop-at.invariant)
]
