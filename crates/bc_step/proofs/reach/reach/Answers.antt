use Rattle.bc_step.proofs.Parts.{reach_null, reach_missing, reach_unmade, reach_int, reach_bool}
use Rattle.bc_step.proofs.reach.reach.Goals as goal

pub returns-in-Null-clause-err : goal.returns-in-Null-clause-err
returns-in-Null-clause-err c = reach_null c.args.area.now c.args.at c.args.x c.fault.result c.in-Null.is c.fault.ensures

pub returns-in-None-clause-err : goal.returns-in-None-clause-err
returns-in-None-clause-err c = reach_missing c.args.area.now c.args.at c.args.x c.in-Old.id c.in-Old.is c.in-None.ensures.none

pub returns-in-None-body_of-clause-err : goal.returns-in-None-body_of-clause-err
returns-in-None-body_of-clause-err c = reach_unmade c.args.area.now c.args.at c.args.x c.in-New.n c.in-New.is c.in-None-body_of.ensures.none

pub returns-in-Int-clause-err : goal.returns-in-Int-clause-err
returns-in-Int-clause-err c = reach_int c.args.area.now c.args.at c.in-Int.is

pub returns-in-Bool-clause-err : goal.returns-in-Bool-clause-err
returns-in-Bool-clause-err c = reach_bool c.args.area.now c.args.at c.in-Bool.is
