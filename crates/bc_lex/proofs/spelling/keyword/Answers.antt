use Rattle.bc_lex.proofs.Marks.{no_word}
use Rattle.bc_lex.proofs.spelling.keyword.Goals as goal

pub returns-clause-none : goal.returns-clause-none
returns-clause-none c = no_word c.spelled.result c.args.bytes.now c.spelled.ensures.none
