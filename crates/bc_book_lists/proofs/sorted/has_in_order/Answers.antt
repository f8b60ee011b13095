use Rattle.std.proofs.Common.{◌∙◌}
use Rattle.bc_book_lists.proofs.InOrder.{listed_in_order}
use Rattle.bc_book_lists.proofs.sorted.has_in_order.Goals as goal

pub returns : goal.returns
returns c = c.is_at.ensures ∙ listed_in_order c.args.vs.now c.args.v.now c.place_of-place.result c.requires c.place_of-place.ensures.point
