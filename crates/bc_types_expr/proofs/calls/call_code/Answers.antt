use Rattle.std.proofs.Common.{◌∙◌, ap}
use Rattle.bc_data.specs.Typed.{Call, NoArg}
use Rattle.bc_data.specs.ProgramView.{expr_views, view_expr}
use Rattle.bc_types_expr.proofs.Rows.{code_call}
use Rattle.bc_types_expr.proofs.calls.call_code.Goals as goal

pub returns : goal.returns
returns c =
    let a = c.args in
    code_call a.at c.in_ok-object.object a.class a.method a.args ∙ ap (λ o. Call a.at (view_expr o) a.class a.method (expr_views a.args.items NoArg)) c.in_ok-object.ensures.ok
