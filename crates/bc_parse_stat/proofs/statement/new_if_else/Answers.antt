use Rattle.bc_parse_stat.proofs.Lists.{view_if_else}
use Rattle.bc_parse_stat.proofs.statement.new_if_else.Goals as goal

pub returns : goal.returns
returns c = view_if_else c.args.at c.args.test c.args.body c.args.other
