use Rattle.std.proofs.Common.{◌+◌, arith}
use Rattle.bc_mean.specs.Work.{look_of}
use Rattle.bc_params.specs.Look.{nobody, put_look, look_below}
use Rattle.bc_params.proofs.Same.{seen_sets}
use Rattle.bc_params.proofs.Unfilled.{below_none, below_free, below_more, below_all}
use Rattle.bc_params.proofs.params.Params.fill.Goals as goal

pub loop-id-init : goal.loop-id-init
loop-id-init g c = λ P sets. seen_sets P nobody (look_below 0 (look_of c.args.store.now.plain)) c.args.store.now.plain.tags c.args.self.now.kept (below_none (look_of c.args.store.now.plain)) sets

pub loop-id-preserved : goal.loop-id-preserved
loop-id-preserved g c = λ P sets.
    let look = look_of c.args.store.now.plain in
    seen_sets P (put_look c.loop-id.id (look c.loop-id.id) (look_below c.loop-id.id look)) (look_below (c.loop-id.id + 1) look) c.args.store.now.plain.tags c.add.new.self.kept
    (below_more c.loop-id.id look)
    (c.in_ok-add.ensures P (look_below c.loop-id.id look) (below_free c.loop-id.id look) (c.loop-id.invariant P sets))

pub returns : goal.returns
returns g c = λ P sets.
    let look = look_of c.args.store.now.plain in
    seen_sets P (look_below c.loop-id.id look) look c.args.store.now.plain.tags c.loop-id.self.kept (below_all c.loop-id.id c.args.store.now.plain.bodies (omega arith)) (c.loop-id.invariant P sets)
