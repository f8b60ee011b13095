use Rattle.std.proofs.Common.{◌≡◌, ℕ, ◌+◌, ◌<◌, List, ap, length, take, arith}
use Rattle.std.proofs.lemmas.List.{take_all}
use Rattle.bc_tally.proofs.Counted.{one_more, tells_same, times}
use Rattle.bc_tally.proofs.counts.raise_all.Goals as goal

pub loop-id-preserved : goal.loop-id-preserved
loop-id-preserved c f h =
    let here : c.loop-id.id-index < length c.args.ids.now = omega arith in
    tells_same c.raise.new.counts _ _ (c.raise.ensures _ (c.loop-id.invariant f h)) (λ id. one_more c.args.ids.now c.loop-id.id-index id (f id) here)

pub returns : goal.returns
returns c f h =
    let all : take c.loop-id.id-index c.args.ids.now ≡ c.args.ids.now = take_all c.loop-id.id-index c.args.ids.now (omega arith) in
    tells_same c.loop-id.counts _ _ (c.loop-id.invariant f h) (λ id. ap (λ (ids : List ℕ). f id + times id ids) all)
