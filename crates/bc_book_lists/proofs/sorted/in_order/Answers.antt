use Rattle.std.proofs.Common.{List, sym, subst}
use Rattle.bc_data.specs.declared.run.Invocation.{Invocation}
use Rattle.bc_mean.specs.Serial.{listed}
use Rattle.bc_book_lists.specs.Search.{IsListOf, distinct}
use Rattle.bc_book_lists.proofs.Ordering.{listed_once, ok_list}
use Rattle.bc_book_lists.proofs.sorted.in_order.Goals as goal

pub returns : goal.returns
returns c =
    ok_list (listed c.args.found.items) (distinct c.as_slice.result.now) c.distinct.result
    (subst (λ (l : List Invocation). IsListOf (listed c.args.found.items) (distinct l)) (sym c.as_slice.ensures.value)
    (listed_once c.args.found.items c.sort.new.found.items c.in_ok-sort.ensures.sorted c.in_ok-sort.ensures.same))
    c.distinct.ensures
