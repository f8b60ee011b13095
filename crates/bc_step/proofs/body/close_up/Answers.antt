use Rattle.std.proofs.Common.{◌<◌, not, length, sym, ap, ◌∙◌, arith}
use Rattle.std.proofs.lemmas.List.Filters.{FiltersInPlace-more_no, FiltersInPlace-more_set}
use Rattle.bc_mean.specs.Values.{same_tag}
use Rattle.bc_step.proofs.body.close_up.Goals as goal

pub loop-at-preserved : goal.loop-at-preserved
loop-at-preserved c =
    let here : c.loop-at.at < length c.loop-at.tags = omega (arith, c.len-at-end.ensures, c.loop-at-test.true, c.loop-at.invariant.long) in
    elim c.if-not-same_tag.branch [
      | goal.then-not-same_tag w ↦ rw (w.tags-is, w.kept-is) (FiltersInPlace-more_set {p = λ s. not (same_tag c.args.t s)} c.loop-at.invariant here (ap not (sym c.same_tag.ensures ∙ w.if-not-same_tag.true)) c.index.ensures)
      | goal.else-not-same_tag w ↦ rw (w.tags-is, w.kept-is) (FiltersInPlace-more_no {p = λ s. not (same_tag c.args.t s)} c.loop-at.invariant here (ap not (sym c.same_tag.ensures ∙ w.if-not-same_tag.false)) c.index.ensures)
    ]
