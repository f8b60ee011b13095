use Rattle.bc_step.proofs.Parts.{parameter_unknown, parameter_missing}
use Rattle.bc_step.proofs.reach.parameter.Goals as goal

pub returns-in-None-clause-err : goal.returns-in-None-clause-err
returns-in-None-clause-err c = parameter_unknown c.args.area.now c.args.p c.in-None.ensures

pub returns-in-None-body_of-clause-err : goal.returns-in-None-body_of-clause-err
returns-in-None-body_of-clause-err c = parameter_missing c.args.area.now c.args.p c.in-Some.id c.in-Some.ensures c.in-None-body_of.ensures.none
