use Rattle.bc_step.proofs.Parts.{other_halts, unmade_halts}
use Rattle.bc_step.proofs.reach.made_at.Goals as goal

pub returns-in-None-clause-none : goal.returns-in-None-clause-none
returns-in-None-clause-none c = unmade_halts c.args.area.now c.args.x c.in-New.n c.in-New.is c.in-None.ensures.none

pub returns-in_default : goal.returns-in_default
returns-in_default c = record { there = tt {0}; some = tt {0}; none = other_halts c.args.area.now c.args.x c.in_default.not-New }
