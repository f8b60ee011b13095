use Rattle.bc_types_expr.proofs.Rows.{code_make}
use Rattle.bc_types_expr.proofs.making.make_code.Goals as goal

pub returns : goal.returns
returns c = code_make c.args.at c.args.class c.args.args c.args.tweaks
