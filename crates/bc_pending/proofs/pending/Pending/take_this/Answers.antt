use Rattle.std.proofs.Common.{ap, refl, sym}
use Rattle.bc_mean.specs.Serial.{same_invocation}
use Rattle.bc_pending.specs.Lists.{Lists}
use Rattle.bc_pending.proofs.First.{position_none, position_any}
use Rattle.bc_pending.proofs.Moved.{asked_of, this_moves}
use Rattle.bc_pending.proofs.pending.Pending.take_this.Goals as goal

pub returns-in_default-clause-value : goal.returns-in_default-clause-value
returns-in_default-clause-value c =
    sym (position_none (same_invocation c.args.v) c.args.self.now.listed
    (asked_of _ _ _ c.args.self.now _ _ c.place_of_same.ensures refl (ap (λ (s : Lists). s.listed) c.self.view_is) c.in_default.is))

pub returns-clause-value : goal.returns-clause-value
returns-clause-value c =
    sym (position_any (same_invocation c.args.v) c.args.self.now.listed c.in-Some.at
    (asked_of _ _ _ c.args.self.now _ _ c.place_of_same.ensures refl (ap (λ (s : Lists). s.listed) c.self.view_is) c.in-Some.is))

pub returns-clause-taken : goal.returns-clause-taken
returns-clause-taken c h =
    this_moves c.args.worker c.in-Some.at c.args.v c.args.self.now c.move_to.new.self
    (asked_of _ _ _ c.args.self.now _ _ c.place_of_same.ensures refl (ap (λ (s : Lists). s.listed) c.self.view_is) c.in-Some.is)
    record { listed = c.move_to.ensures.listed; held = c.move_to.ensures.held; spare = c.move_to.ensures.spare }
