use Rattle.std.proofs.Common.{◌≡◌, ◌<◌, length, Some, ap, refl}
use Rattle.std.specs.List.{position}
use Rattle.bc_pending.specs.Lists.{Lists, is_allowed}
use Rattle.bc_pending.proofs.First.{position_none, position_within}
use Rattle.bc_pending.proofs.Moved.{MovesAt, asked_of, first_moves, some_moves}
use Rattle.bc_pending.proofs.pending.Pending.take_first_of.Goals as goal

asked : (c : goal.After-held) → position (is_allowed c.args.tasks.now) c.args.self.now.listed ≡ Some c.in-Some.at
asked c = asked_of _ _ _ c.args.self.now _ _ c.place_of_allowed.ensures refl (ap (λ (s : Lists). s.listed) c.self.view_is) c.in-Some.is

within : (c : goal.After-held) → c.in-Some.at < length c.args.self.now.listed
within c = position_within (is_allowed c.args.tasks.now) c.args.self.now.listed c.in-Some.at (asked c)

moved : (c : goal.After-held) → MovesAt c.in-Some.at c.args.worker c.args.self.now c.move_to.new.self
moved c = record { listed = c.move_to.ensures.listed; held = c.move_to.ensures.held; spare = c.move_to.ensures.spare }

pub returns-in_default-clause-none : goal.returns-in_default-clause-none
returns-in_default-clause-none c =
    position_none (is_allowed c.args.tasks.now) c.args.self.now.listed
    (asked_of _ _ _ c.args.self.now _ _ c.place_of_allowed.ensures refl (ap (λ (s : Lists). s.listed) c.self.view_is) c.in_default.is)

pub returns-clause-some : goal.returns-clause-some
returns-clause-some c =
    first_moves (is_allowed c.args.tasks.now) c.args.worker c.in-Some.at c.held.result c.args.self.now c.move_to.new.self (asked c) c.requires.worker (moved c) c.held.ensures

pub returns-clause-none : goal.returns-clause-none
returns-clause-none c = some_moves c.args.worker c.in-Some.at c.held.result c.args.self.now c.move_to.new.self _ (within c) c.requires.worker (moved c) c.held.ensures

pub returns-clause-unchanged : goal.returns-clause-unchanged
returns-clause-unchanged c = some_moves c.args.worker c.in-Some.at c.held.result c.args.self.now c.move_to.new.self _ (within c) c.requires.worker (moved c) c.held.ensures
