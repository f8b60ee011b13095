use Rattle.bc_parse_stat.proofs.Lists.{view_block}
use Rattle.bc_parse_stat.proofs.statement.new_block.Goals as goal

pub returns : goal.returns
returns c = view_block c.args.at c.args.body
