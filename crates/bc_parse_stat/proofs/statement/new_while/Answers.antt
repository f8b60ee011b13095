use Rattle.bc_parse_stat.proofs.Lists.{view_while}
use Rattle.bc_parse_stat.proofs.statement.new_while.Goals as goal

pub returns : goal.returns
returns c = view_while c.args.at c.args.test c.args.body
