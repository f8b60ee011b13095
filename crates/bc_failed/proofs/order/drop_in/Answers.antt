use Rattle.std.proofs.Common.{◌≡◌, ◌<◌, ◌≤◌, vec_len, length, sym, ◌∙◌, rules, arith}
use Rattle.std.proofs.lemmas.List.Filters.{FiltersInPlace-all, FiltersInPlace-more_no, FiltersInPlace-more_swap}
use Rattle.bc_failed.specs.Records.{touches, leaves}
use Rattle.bc_pending.proofs.Kept.{counted_more}
use Rattle.bc_failed.proofs.Touched.{counts_all, counts_next}
use Rattle.bc_failed.proofs.order.drop_in.Goals as goal

pub loop-at-preserved : goal.loop-at-preserved
loop-at-preserved g c =
    let size : vec_len c.loop-at.items ≡ length c.loop-at.items.items = search rules in
    let from : vec_len c.args.items.now ≡ length c.args.items.now.items = search rules in
    let here : c.loop-at.at < length c.loop-at.items.items = omega (arith, c.len-at-end.ensures, c.loop-at-test.true, c.loop-at.invariant.len) in
    let there : c.loop-at.at < length c.args.items.now.items = omega (arith, c.len-at-end.ensures, c.loop-at-test.true) in
    let steps = counted_more (leaves c.args.id) (touches c.args.id) c.args.items.now.items c.loop-at.items.items c.loop-at.kept c.loop-at.at c.index.result.now _ _ _ c.loop-at.invariant.filtered there c.index.ensures c.loop-at.invariant.steps c.is_left.ensures.steps in
    let named = counts_next c.args.id c.args.items.now.items c.loop-at.items.items c.loop-at.kept c.loop-at.at c.index.result.now _ _ c.loop-at.invariant.filtered there c.index.ensures c.loop-at.invariant.named c.is_left.ensures.named in
    elim c.if-is_left.branch [
      | goal.then-is_left w ↦ rw (w.items-is, w.kept-is) record {
        filtered = FiltersInPlace-more_swap {p = leaves c.args.id} c.loop-at.invariant.filtered here (sym c.is_left.ensures.value ∙ w.if-is_left.true) c.index.ensures w.swap.ensures.by_index;
        named = named;
        len = w.swap.ensures.len ∙ c.loop-at.invariant.len;
        capacity = w.swap.ensures.capacity ∙ c.loop-at.invariant.capacity;
        steps = steps;
      }
      | goal.else-is_left w ↦ rw (w.items-is, w.kept-is) record {
        filtered = FiltersInPlace-more_no {p = leaves c.args.id} c.loop-at.invariant.filtered here (sym c.is_left.ensures.value ∙ w.if-is_left.false) c.index.ensures;
        named = named;
        len = c.loop-at.invariant.len;
        capacity = c.loop-at.invariant.capacity;
        steps = steps;
      }
    ]

pub returns-clause-named : goal.returns-clause-named
returns-clause-named g c =
    let from : vec_len c.args.items.now ≡ length c.args.items.now.items = search rules in
    let all : length c.args.items.now.items ≤ c.loop-at.at = omega (arith, c.len-at-end.ensures, c.loop-at-test.false) in
    counts_all c.args.id c.args.items.now.items _ _ c.loop-at.at c.loop-at.named c.loop-at.invariant.named all
    c.truncate.ensures.items
    (FiltersInPlace-all {p = leaves c.args.id} c.loop-at.invariant.filtered all)
