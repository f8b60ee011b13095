use Rattle.std.proofs.Common.{arith}
use Rattle.bc_book_lists.proofs.Before.{all_counted, all_few, found_some, named_within, pending_few}
use Rattle.bc_book_lists.proofs.find.enabled_before.Goals as goal

pub enabled_count-requires-clause-few : goal.enabled_count-requires-clause-few
enabled_count-requires-clause-few c = pending_few c.requires.book.0 c.args.pending.now.listed c.args.pending.now.held c.args.failures.now.failures c.requires.book.1 c.requires.book.2

pub returns-clause-before : goal.returns-clause-before
returns-clause-before c b sound books of = record {
  named = found_some c.args.reshaped.now c.args.params.now.kept _ c.in-Some.named c.in-Some.is c.in_ok-named.ensures.some b.program b.store of;
  count = all_counted b c.args.pending.now.listed c.args.pending.now.held c.args.failures.now.failures c.enabled_count.result sound books (c.enabled_count.ensures b.program b.store of);
}

pub returns-clause-some : goal.returns-clause-some
returns-clause-some c =
    let b = c.requires.book.0 in
    let of = c.requires.book.3 in
    let named = found_some c.args.reshaped.now c.args.params.now.kept _ c.in-Some.named c.in-Some.is c.in_ok-named.ensures.some b.program b.store of in
    let count = all_counted b c.args.pending.now.listed c.args.pending.now.held c.args.failures.now.failures c.enabled_count.result c.requires.book.1 c.requires.book.2 (c.enabled_count.ensures b.program b.store of) in
    omega (arith, named_within b.program b.store c.args.reshaped.now c.in-Some.named named, count)

pub returns-clause-few : goal.returns-clause-few
returns-clause-few c =
    let b = c.requires.book.0 in
    omega (arith, all_few b c.requires.book.1, all_counted b c.args.pending.now.listed c.args.pending.now.held c.args.failures.now.failures c.enabled_count.result c.requires.book.1 c.requires.book.2 (c.enabled_count.ensures b.program b.store c.requires.book.3))
