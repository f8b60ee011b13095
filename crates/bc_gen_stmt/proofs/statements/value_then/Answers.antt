use Rattle.std.proofs.lemmas.Result.{on_ok_weaker}
use Rattle.bc_data.specs.ProgramView.{view_expr}
use Rattle.bc_gen_expr.proofs.Arms.{one_operand}
use Rattle.bc_gen_stmt.proofs.statements.value_then.Goals as goal

pub returns : goal.returns
returns c =
    on_ok_weaker c.put.result (one_operand c.args.classes.now (view_expr c.args.e.now) c.in_ok-expression.ensures) c.put.ensures
