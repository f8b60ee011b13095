use Rattle.bc_parse_expr.proofs.Views.{view_make}
use Rattle.bc_parse_expr.proofs.expression.new_make.Goals as goal

pub returns : goal.returns
returns c = view_make c.args.at c.args.name c.args.args c.args.tweaks
