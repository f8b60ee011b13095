use Rattle.std.proofs.Common.{refl}
use Rattle.bc_code.specs.Instructions.{next}
use Rattle.bc_step.specs.State.{state_with}
use Rattle.bc_step.proofs.Said.{said, too_long}
use Rattle.bc_step.proofs.printing.print_text.Goals as goal

pub returns-in-Some-clause-ok : goal.returns-in-Some-clause-ok
returns-in-Some-clause-ok c = λ code cs ts copies.
    let s = state_with c.args.state.now c.args.area.now cs ts in
    too_long c.args.state.now c.args.state.now c.args.area.now c.say.new.area c.args.at c.args.bytes.now cs ts (λ _ w. next s s.stack w) copies c.in_ok-fault.field-0 c.in-Some.fault c.in-Some.is c.in_ok-fault.ensures.ok

pub returns-in-None-clause-ok : goal.returns-in-None-clause-ok
returns-in-None-clause-ok c = λ code cs ts copies.
    let s = state_with c.args.state.now c.args.area.now cs ts in
    said c.args.state.now _ c.args.area.now c.say.new.area c.args.at c.args.bytes.now cs ts (λ _ w. next s s.stack w) copies c.in_ok-fault.field-0 c.in-None.is c.in_ok-fault.ensures.ok refl
