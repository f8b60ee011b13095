use Rattle.std.proofs.Common.{◌≡◌, ◌<◌, true, false, ◌∙◌, length, sym, rules, arith}
use Rattle.std.specs.VecDeque.{deque_len}
use Rattle.std.proofs.lemmas.List.Filters.{FiltersInPlace-more_no}
use Rattle.bc_pending.specs.Lists.{names, stays}
use Rattle.bc_pending.proofs.Kept.{counted_more, moved_up, same_element}
use Rattle.bc_pending.proofs.Named.{half_dropped, half_kept}
use Rattle.bc_pending.proofs.search.keep_in.Goals as goal

pub loop-at-preserved : goal.loop-at-preserved
loop-at-preserved g c =
    let size : deque_len c.loop-at.items ≡ length c.loop-at.items.items = search rules in
    let from : deque_len c.args.items.now ≡ length c.args.items.now.items = search rules in
    let here : c.loop-at.at < length c.loop-at.items.items = omega (arith, c.len-at-end.ensures, c.loop-at-test.true, c.loop-at.invariant.len) in
    let there : c.loop-at.at < length c.args.items.now.items = omega (arith, c.len-at-end.ensures, c.loop-at-test.true) in
    let steps = counted_more (stays c.args.id (g.T.Keep.keeps c.args.test.now)) (names c.args.id) c.args.items.now.items c.loop-at.items.items c.loop-at.kept c.loop-at.at c.index.result.now _ _ _ c.loop-at.invariant.filtered there c.index.ensures c.loop-at.invariant.steps c.is_kept.ensures.steps in
    let same = same_element (stays c.args.id (g.T.Keep.keeps c.args.test.now)) c.args.items.now.items c.loop-at.items.items c.loop-at.kept c.loop-at.at c.index.result.now c.loop-at.invariant.filtered c.index.ensures in
    elim c.if-is_kept.branch [
      | goal.then-is_kept w ↦
          let yes : stays c.args.id (g.T.Keep.keeps c.args.test.now) c.index.result.now ≡ true = sym c.is_kept.ensures.value ∙ w.if-is_kept.true in
          rw (w.items-is, w.named-is, w.kept-is) record {
            filtered = moved_up (stays c.args.id (g.T.Keep.keeps c.args.test.now)) c.args.items.now.items c.loop-at.items.items w.move_up.new.items.items c.loop-at.kept c.loop-at.at c.index.result.now c.loop-at.invariant.filtered here yes c.index.ensures w.move_up.ensures.items;
            len = w.move_up.ensures.len ∙ c.loop-at.invariant.len;
            capacity = w.move_up.ensures.capacity ∙ c.loop-at.invariant.capacity;
            steps = steps;
            named = λ h. half_kept c.loop-at.named (stays c.args.id (g.T.Keep.keeps c.args.test.now)) c.args.items.now.items c.loop-at.at c.index.result.now there same yes (c.loop-at.invariant.named h);
          }
      | goal.else-is_kept w ↦
          let no : stays c.args.id (g.T.Keep.keeps c.args.test.now) c.index.result.now ≡ false = sym c.is_kept.ensures.value ∙ w.if-is_kept.false in
          let again = same_element (stays c.args.id (g.T.Keep.keeps c.args.test.now)) c.args.items.now.items c.loop-at.items.items c.loop-at.kept c.loop-at.at w.index-else-is_kept.result.now c.loop-at.invariant.filtered w.index-else-is_kept.ensures in
          rw (w.items-is, w.named-is, w.kept-is) record {
            filtered = FiltersInPlace-more_no {p = stays c.args.id (g.T.Keep.keeps c.args.test.now)} c.loop-at.invariant.filtered here no c.index.ensures;
            len = c.loop-at.invariant.len;
            capacity = c.loop-at.invariant.capacity;
            steps = steps;
            named = λ h. half_dropped c.loop-at.named w.remove.new.self w.as_slice.result.now (stays c.args.id (g.T.Keep.keeps c.args.test.now)) c.args.items.now.items c.loop-at.at c.index.result.now w.index-else-is_kept.result.now there same no again w.as_slice.ensures.value w.remove.ensures (c.loop-at.invariant.named h);
          }
    ]
