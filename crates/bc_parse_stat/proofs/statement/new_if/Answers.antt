use Rattle.bc_parse_stat.proofs.Lists.{view_if}
use Rattle.bc_parse_stat.proofs.statement.new_if.Goals as goal

pub returns : goal.returns
returns c = view_if c.args.at c.args.test c.args.body
