use Rattle.bc_parse.proofs.Lexed.{ended}
use Rattle.bc_read.proofs.Reading.{refused_by_grammar}
use Rattle.bc_read.proofs.reader.read_tree.Goals as goal

pub parse-requires : goal.parse-requires
parse-requires c = ended c.args.text.now c.in-Ok.tokens c.in-Ok.ensures

pub returns-in-Ok-clause-fault : goal.returns-in-Ok-clause-fault
returns-in-Ok-clause-fault c = refused_by_grammar c.args.text.now c.in-Ok.tokens c.in-Err-parse.fault c.grammatical.result c.in-Ok.ensures c.in-Err-parse.ensures.err c.grammatical.ensures
