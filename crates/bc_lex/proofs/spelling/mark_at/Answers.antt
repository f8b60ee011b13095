use Rattle.bc_lex.proofs.Marks.{no_mark, longest_mark, long_mark}
use Rattle.bc_lex.proofs.spelling.mark_at.Goals as goal

pub returns-in-Some-clause-some : goal.returns-in-Some-clause-some
returns-in-Some-clause-some c = let found = c.in-Some.ensures.some in long_mark c.args.text.now c.args.i _ found.0 found.1

pub returns-in-None-clause-some : goal.returns-in-None-clause-some
returns-in-None-clause-some c = longest_mark c.standing-in-None.result c.args.text.now c.args.i c.in-None.ensures.none c.standing-in-None.ensures.some

pub returns-in-None-clause-none : goal.returns-in-None-clause-none
returns-in-None-clause-none c = no_mark c.standing-in-None.result c.args.text.now c.args.i c.in-None.ensures.none c.standing-in-None.ensures.none
