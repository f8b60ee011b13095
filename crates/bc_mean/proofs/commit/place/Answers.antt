use Rattle.std.proofs.Common.{◌≡◌, ◌<◌, List, length, slice_set, sym, ap, subst, ◌∙◌, arith}
use Rattle.std.proofs.lemmas.Iterator.Adapters.{YieldsList-from_vec}
use Rattle.std.proofs.lemmas.Iterator.Consumers.{YieldsList-turn}
use Rattle.std.proofs.lemmas.List.Elements.{All-get_or}
use Rattle.bc_data.specs.declared.run.Body.{Body}
use Rattle.bc_mean.proofs.Placed.{IsThere, length-placed, placed_more}
use Rattle.bc_mean.proofs.commit.place.Goals as goal

pub index_mut-requires : goal.index_mut-requires
index_mut-requires c =
    let turn = YieldsList-turn (YieldsList-from_vec c.args.changed c.into_iter-written-iterator.ensures.into_iter_gives.0 c.into_iter-written-iterator.ensures.into_iter_gives.1) c.loop-written.yielded _ c.loop-written.yielded_by c.next.result c.next.new.self c.in-Some.written c.in-Some.is c.next.ensures.steps in
    let there : c.in-Some.written.id < length c.args.bodies.now = subst (IsThere c.args.bodies.now) (sym turn.1) (All-get_or (IsThere c.args.bodies.now) c.args.changed (length c.loop-written.yielded) c.in-Some.written turn.0 c.requires) in
    let same : length c.loop-written.bodies ≡ length c.args.bodies.now = ap length c.loop-written.invariant.2 ∙ length-placed c.loop-written.yielded c.args.bodies.now in
    omega arith

pub loop-written-preserved : goal.loop-written-preserved
loop-written-preserved c = (tt, tt, ap (λ (bodies : List Body). slice_set bodies c.in-Some.written.id c.in-Some.written.body) c.loop-written.invariant.2 ∙ sym (placed_more c.loop-written.yielded c.in-Some.written c.args.bodies.now))
