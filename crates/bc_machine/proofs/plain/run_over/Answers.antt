use Rattle.std.proofs.Common.{ℕ, ◌<◌, length, List, sym, subst}
use Rattle.std.specs.Prelude.{All}
use Rattle.bc_data.specs.declared.run.Invocation.{Invocation}
use Rattle.bc_step.specs.Area.{AreaParts}
use Rattle.bc_machine.specs.Running.{AreBodiesOf}
use Rattle.bc_machine.specs.Whole.{ComesTo}
use Rattle.bc_machine.proofs.Known.{objects_there}
use Rattle.bc_machine.proofs.plain.run_over.Goals as goal

pub bodies_of-requires : goal.bodies_of-requires
bodies_of-requires c =
    subst (All (λ id. id < length c.args.store.now.bodies)) (sym c.as_slice.ensures.value) (objects_there c.requires.0 c.args.store.now c.args.v c.requires.1.enabled)

pub run_to_end-requires : goal.run_to_end-requires
run_to_end-requires c =
    let are = subst (λ (ids : List ℕ). AreBodiesOf c.args.store.now ids c.in_ok-bodies.bodies) c.as_slice.ensures.value c.in_ok-bodies.ensures in
    (c.requires.0, c.in_ok-machine.ensures.running c.requires.0 c.args.store.now c.requires.1 are)

pub returns : goal.returns
returns c = λ P run.
    let are = subst (λ (ids : List ℕ). AreBodiesOf c.args.store.now ids c.in_ok-bodies.bodies) c.as_slice.ensures.value c.in_ok-bodies.ensures in
    let comes = c.in_ok-ended.ensures P (c.in_ok-machine.ensures.running P c.args.store.now run are) in
    subst (λ (v : Invocation). ComesTo P c.args.store.now v c.in_ok-ended.ended c.into_area.result) c.in_ok-machine.ensures.invocation
    (subst (λ (a : AreaParts). ComesTo P c.args.store.now c.in_ok-machine.machine.area.invocation c.in_ok-ended.ended a) (sym c.into_area.ensures) comes)
