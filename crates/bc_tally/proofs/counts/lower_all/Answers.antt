use Rattle.std.proofs.Common.{◌≡◌, ◌∙◌, ℕ, ◌+◌, ◌<◌, List, [], add-zero, ap, length, drop, arith}
use Rattle.std.proofs.lemmas.List.{drop_all}
use Rattle.bc_tally.proofs.Counted.{one_less, tells_same, times}
use Rattle.bc_tally.proofs.counts.lower_all.Goals as goal

pub loop-id-preserved : goal.loop-id-preserved
loop-id-preserved c f h =
    let here : c.loop-id.id-index < length c.args.ids.now = omega arith in
    c.lower.ensures _ (tells_same c.loop-id.counts _ _ (c.loop-id.invariant f h) (λ id. one_less c.args.ids.now c.loop-id.id-index id (f id) here))

pub returns : goal.returns
returns c f h =
    let none : drop c.loop-id.id-index c.args.ids.now ≡ [] = drop_all c.loop-id.id-index c.args.ids.now (omega arith) in
    tells_same c.loop-id.counts _ _ (c.loop-id.invariant f h) (λ id. ap (λ (ids : List ℕ). f id + times id ids) none ∙ add-zero (f id))
