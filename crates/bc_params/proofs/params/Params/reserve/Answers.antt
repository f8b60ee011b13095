use Rattle.std.proofs.Common.{refl, sym, subst}
use Rattle.bc_params_sets.specs.Kept.{AreSets}
use Rattle.bc_params.specs.Places.{ParamParts}
use Rattle.bc_params.proofs.Updated.{roomier_sets, roomier_rise, roomier_room}
use Rattle.bc_params.proofs.Searchable.{roomier_searchable}
use Rattle.bc_params.proofs.params.Params.reserve.Goals as goal

pub invariant_of-self : goal.invariant_of-self
invariant_of-self c = (
  roomier_room c.self.inside.room c.self.inside.tasks.items c.reserve_tasks.new.tasks.items c.reserve_tasks.ensures.same c.self.invariant.0,
  roomier_rise c.self.inside.tasks.items c.reserve_tasks.new.tasks.items c.reserve_tasks.ensures.same c.self.invariant.1,
  roomier_searchable c.self.inside.tasks.items c.reserve_tasks.new.tasks.items c.reserve_tasks.ensures.same c.self.invariant.2,
)

pub returns-in_err-reserve_tasks-clause-kept : goal.returns-in_err-reserve_tasks-clause-kept
returns-in_err-reserve_tasks-clause-kept c = λ P look types sets.
    roomier_sets (record { tasks = c.self.inside.tasks.items; bound = c.self.inside.tags.bound }) c.reserve_tasks.new.tasks.items c.self.inside.tags.bound c.reserve_tasks.ensures.same refl
    P look types (subst (λ (s : ParamParts). AreSets P look types s.kept) (sym c.self.view_is) sets)

pub invariant_of-self-2 : goal.invariant_of-self-2
invariant_of-self-2 c = (
  c.in_ok-reserve_tasks.ensures.room,
  roomier_rise c.self.inside.tasks.items c.reserve_tasks.new.tasks.items c.reserve_tasks.ensures.same c.self.invariant.1,
  roomier_searchable c.self.inside.tasks.items c.reserve_tasks.new.tasks.items c.reserve_tasks.ensures.same c.self.invariant.2,
)

pub returns-clause-kept : goal.returns-clause-kept
returns-clause-kept c = λ P look types sets.
    roomier_sets (record { tasks = c.self.inside.tasks.items; bound = c.self.inside.tags.bound }) c.reserve_tasks.new.tasks.items c.reserve.new.self.bound c.reserve_tasks.ensures.same c.reserve.ensures.bound
    P look types (subst (λ (s : ParamParts). AreSets P look types s.kept) (sym c.self.view_is) sets)
