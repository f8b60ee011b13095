use Rattle.std.proofs.Common.{◌∙◌, ap}
use Rattle.bc_data.specs.SourceTree.{Call, NoArg}
use Rattle.bc_data.specs.View.{view, views}
use Rattle.bc_parse_expr.proofs.Views.{view_call}
use Rattle.bc_parse_expr.proofs.expression.call.Goals as goal

pub returns-clause-ok : goal.returns-clause-ok
returns-clause-ok c =
    view_call c.args.at c.in_ok-new.field-0 c.args.name c.args.args
    ∙ ap (λ e. Call c.args.at (view e) c.args.name (views c.args.args.items NoArg)) c.in_ok-new.ensures.ok
