use Rattle.std.proofs.Common.{◌+◌, ◌<◌, length, refl, ap, ◌∙◌, arith, rules}
use Rattle.std.proofs.lemmas.Result.{err_from_is_err_and}
use Rattle.bc_data.specs.Typed.{NoArg}
use Rattle.bc_data.specs.ProgramView.{expr_views, view_expr}
use Rattle.bc_mean.specs.Work.{Gives, and_then, turn}
use Rattle.bc_mean.specs.Evaluate.{evaluate}
use Rattle.bc_mean.specs.Execute.{Goes, Leaves, Returns, assert_true, goes_on, if_goes, loop, perform, returned}
use Rattle.bc_mean_run.specs.Tree.{calls_of, condition, flow_seen, operands, truth, world_of, write_element, write_field}
use Rattle.bc_mean_run.specs.Weights.{weight, weights}
use Rattle.bc_mean_run.proofs.Arms.{array_is, call_is, called_goes, element_goes, element_is, field_is, known_goes, length_is, made, made_is, neg_is, not_is, perform_is, two_goes, two_is, unary_goes, value_of}
use Rattle.bc_mean_run.proofs.Chains.{halts, mirrors, mirrors_same}
use Rattle.bc_mean_run.proofs.Forms.{again, again_more, all_done, assert_is, block_is, bodies, body_run, branches, done, element_index, element_value, field_value, if_is, invoked, loop_taken, loop_tested, set_element_is, set_field_is, tested, tests, while_is}
use Rattle.bc_mean_run.proofs.Sequences.{args_on, args_stop, stats_end, stats_next, stats_stop}
use Rattle.bc_mean_run.proofs.Weights.{argument_falls, block_falls, branch_falls, call_falls, make_falls, part_falls, statement_falls, while_falls}
use Rattle.bc_mean_run.proofs.+run.Goals as goal

pub evaluate::arguments-expression-requires : goal.evaluate::arguments-expression-requires
evaluate::arguments-expression-requires t c =
    let within : c.loop-e.e-index < length c.args.es.now = omega arith in
    let h = argument_falls c.args.es.now c.loop-e.e-index c.e-item.result within c.e-item.is in
    search rules

pub evaluate::arguments-returns-in_err-x : goal.evaluate::arguments-returns-in_err-x
evaluate::arguments-returns-in_err-x t c =
    let W = world_of c.args.stage.now in let C = calls_of c.args.stage.now in let f = c.args.frame.now in let w = c.args.run.now in
    let within : c.loop-e.e-index < length c.args.es.now = omega arith in
    let p = err_from_is_err_and c.from_residual.result c.from_residual.ensures.1 in
    rw (p.1, p.2) (args_stop c.in_err-x.field-0.0 W C f w c.loop-e.run c.expression.new.run c.args.es.now c.loop-e.e-index c.e-item.result c.loop-e.xs within c.e-item.is c.loop-e.invariant c.in_err-x.ensures)

pub evaluate::arguments-loop-e-preserved : goal.evaluate::arguments-loop-e-preserved
evaluate::arguments-loop-e-preserved t c =
    let W = world_of c.args.stage.now in let C = calls_of c.args.stage.now in let f = c.args.frame.now in let w = c.args.run.now in
    let within : c.loop-e.e-index < length c.args.es.now = omega arith in
    args_on W C f w c.loop-e.run c.expression.new.run c.args.es.now c.loop-e.e-index c.e-item.result c.loop-e.xs _ c.in_ok-x.x within c.e-item.is c.loop-e.invariant c.in_ok-x.ensures c.in_ok-push.ensures.ok

pub evaluate::invoke-returns-in_err-statements : goal.evaluate::invoke-returns-in_err-statements
evaluate::invoke-returns-in_err-statements t c =
    let W = world_of c.args.stage.now in
    let e = invoked W c.args.stage.now.left c.args.stage.now.depth c.args.at c.args.m.now c.args.first c.args.run.now c.enter.new.self c.in_ok-frame.frame c.body.result.now (omega arith) c.in_ok-enter.ensures.answers c.in_ok-frame.ensures c.body.ensures in
    let p = err_from_is_err_and c.from_residual-in_err-statements.result c.from_residual-in_err-statements.ensures.1 in
    rw (p.1, p.2) (halts c.in_err-statements.field-0.0 c.statements.new.run (body_run c.args.stage.now c.in_ok-frame.frame c.body.result.now c.enter.new.self) returned (calls_of c.args.stage.now c.args.at c.args.m.now c.args.first c.args.run.now) e c.in_err-statements.ensures)

pub evaluate::invoke-returns-in-Goes : goal.evaluate::invoke-returns-in-Goes
evaluate::invoke-returns-in-Goes t c =
    let W = world_of c.args.stage.now in
    let e = invoked W c.args.stage.now.left c.args.stage.now.depth c.args.at c.args.m.now c.args.first c.args.run.now c.enter.new.self c.in_ok-frame.frame c.body.result.now (omega arith) c.in_ok-enter.ensures.answers c.in_ok-frame.ensures c.body.ensures in
    e ∙ ap (λ g. and_then g returned) (c.in_ok-statements.ensures ∙ ap (λ flow. Gives (flow_seen flow c.statements.new.frame) c.statements.new.run) c.in-Goes.is)

pub evaluate::invoke-returns-in-Returns : goal.evaluate::invoke-returns-in-Returns
evaluate::invoke-returns-in-Returns t c =
    let W = world_of c.args.stage.now in
    let e = invoked W c.args.stage.now.left c.args.stage.now.depth c.args.at c.args.m.now c.args.first c.args.run.now c.enter.new.self c.in_ok-frame.frame c.body.result.now (omega arith) c.in_ok-enter.ensures.answers c.in_ok-frame.ensures c.body.ensures in
    e ∙ ap (λ g. and_then g returned) (c.in_ok-statements.ensures ∙ ap (λ flow. Gives (flow_seen flow c.statements.new.frame) c.statements.new.run) c.in-Returns.is)

pub evaluate::invoke-returns : goal.evaluate::invoke-returns
evaluate::invoke-returns t c =
    let W = world_of c.args.stage.now in
    let e = invoked W c.args.stage.now.left c.args.stage.now.depth c.args.at c.args.m.now c.args.first c.args.run.now c.enter.new.self c.in_ok-frame.frame c.body.result.now (omega arith) c.in_ok-enter.ensures.answers c.in_ok-frame.ensures c.body.ensures in
    e ∙ ap (λ g. and_then g returned) (c.in_ok-statements.ensures ∙ ap (λ flow. Gives (flow_seen flow c.statements.new.frame) c.statements.new.run) c.in-Leaves.is)

pub execute::print-print_one-requires : goal.execute::print-print_one-requires
execute::print-print_one-requires t c =
    let within : c.loop-part.part-index < length c.args.parts.now = omega arith in
    let h = part_falls c.args.parts.now c.loop-part.part-index c.part-item.result within c.part-item.is in
    search rules

pub execute::statements-statement-requires : goal.execute::statements-statement-requires
execute::statements-statement-requires t c =
    let within : c.loop-s.s-index < length c.args.body.now = omega arith in
    let h = statement_falls c.args.body.now c.loop-s.s-index c.s-item.result within c.s-item.is in
    search rules

pub evaluate::expression-returns-in-Neg : goal.evaluate::expression-returns-in-Neg
evaluate::expression-returns-in-Neg t c =
    let W = world_of c.args.stage.now in let C = calls_of c.args.stage.now in let f = c.args.frame.now in let w = c.args.run.now in let a = c.in-Neg in let d = c.deref.result.now in
    mirrors_same c.unary.result (λ x. x) c.unary.new.run (unary_goes W C f c.args.e.now d w) (value_of W C f c.args.e.now w) (neg_is W C f w c.args.e.now d a.inner a.is c.deref.ensures) c.unary.ensures

pub evaluate::expression-returns-in-Not : goal.evaluate::expression-returns-in-Not
evaluate::expression-returns-in-Not t c =
    let W = world_of c.args.stage.now in let C = calls_of c.args.stage.now in let f = c.args.frame.now in let w = c.args.run.now in let a = c.in-Not in let d = c.deref-in-Not.result.now in
    mirrors_same c.unary-in-Not.result (λ x. x) c.unary-in-Not.new.run (unary_goes W C f c.args.e.now d w) (value_of W C f c.args.e.now w) (not_is W C f w c.args.e.now d a.inner a.is c.deref-in-Not.ensures) c.unary-in-Not.ensures

pub evaluate::expression-returns-in-Field : goal.evaluate::expression-returns-in-Field
evaluate::expression-returns-in-Field t c =
    let W = world_of c.args.stage.now in let C = calls_of c.args.stage.now in let f = c.args.frame.now in let w = c.args.run.now in let a = c.in-Field in let d = c.deref-in-Field.result.now in
    mirrors_same c.unary-in-Field.result (λ x. x) c.unary-in-Field.new.run (unary_goes W C f c.args.e.now d w) (value_of W C f c.args.e.now w) (field_is W C f w c.args.e.now d _ a.object _ a.is c.deref-in-Field.ensures) c.unary-in-Field.ensures

pub evaluate::expression-returns-in-Length : goal.evaluate::expression-returns-in-Length
evaluate::expression-returns-in-Length t c =
    let W = world_of c.args.stage.now in let C = calls_of c.args.stage.now in let f = c.args.frame.now in let w = c.args.run.now in let a = c.in-Length in let d = c.deref-in-Length.result.now in
    mirrors_same c.unary-in-Length.result (λ x. x) c.unary-in-Length.new.run (unary_goes W C f c.args.e.now d w) (value_of W C f c.args.e.now w) (length_is W C f w c.args.e.now d _ a.array a.is c.deref-in-Length.ensures) c.unary-in-Length.ensures

pub evaluate::expression-returns-in-Array : goal.evaluate::expression-returns-in-Array
evaluate::expression-returns-in-Array t c =
    let W = world_of c.args.stage.now in let C = calls_of c.args.stage.now in let f = c.args.frame.now in let w = c.args.run.now in let a = c.in-Array in let d = c.deref-in-Array.result.now in
    mirrors_same c.unary-in-Array.result (λ x. x) c.unary-in-Array.new.run (unary_goes W C f c.args.e.now d w) (value_of W C f c.args.e.now w) (array_is W C f w c.args.e.now d _ _ a.size a.is c.deref-in-Array.ensures) c.unary-in-Array.ensures

pub evaluate::expression-returns-in-Two : goal.evaluate::expression-returns-in-Two
evaluate::expression-returns-in-Two t c =
    let W = world_of c.args.stage.now in let C = calls_of c.args.stage.now in let f = c.args.frame.now in let w = c.args.run.now in let a = c.in-Two in let d = c.deref-in-Two.result.now in let b = c.deref-in-Two-2.result.now in
    mirrors_same c.operation.result (λ x. x) c.operation.new.run (and_then (value_of W C f d w) (two_goes W C f a.at a.op b)) (value_of W C f c.args.e.now w) (two_is W C f w c.args.e.now d b a.at a.op a.a a.b a.is c.deref-in-Two.ensures c.deref-in-Two-2.ensures) c.operation.ensures

pub evaluate::expression-returns-in-Elem : goal.evaluate::expression-returns-in-Elem
evaluate::expression-returns-in-Elem t c =
    let W = world_of c.args.stage.now in let C = calls_of c.args.stage.now in let f = c.args.frame.now in let w = c.args.run.now in let a = c.in-Elem in let d = c.deref-in-Elem.result.now in let b = c.deref-in-Elem-2.result.now in
    mirrors_same c.element.result (λ x. x) c.element.new.run (and_then (value_of W C f d w) (element_goes W C f a.at b)) (value_of W C f c.args.e.now w) (element_is W C f w c.args.e.now d b a.at a.array a.index a.is c.deref-in-Elem.ensures c.deref-in-Elem-2.ensures) c.element.ensures

pub evaluate::expression-called-requires : goal.evaluate::expression-called-requires
evaluate::expression-called-requires t c =
    let a = c.in-Call in
    let h = call_falls c.args.e.now c.deref-in-Call.result.now a.at a.object a.class a.method a.args c.deref-in-Call-2.result.now a.is c.deref-in-Call.ensures c.deref-in-Call-2.ensures.value in
    search rules

pub evaluate::expression-returns-in-Call : goal.evaluate::expression-returns-in-Call
evaluate::expression-returns-in-Call t c =
    let W = world_of c.args.stage.now in let C = calls_of c.args.stage.now in let f = c.args.frame.now in let w = c.args.run.now in let a = c.in-Call in let d = c.deref-in-Call.result.now in let args = c.deref-in-Call-2.result.now in
    mirrors_same c.called.result (λ x. x) c.called.new.run (and_then (operands W C f (view_expr d) (expr_views args NoArg) w) (known_goes W C a.at a.class a.method)) (value_of W C f c.args.e.now w) (call_is W C f w c.args.e.now d a.at a.object a.class a.method a.args c.deref-in-Call-2.result.now a.is c.deref-in-Call.ensures c.deref-in-Call-2.ensures.value) c.called.ensures

pub evaluate::expression-make-requires : goal.evaluate::expression-make-requires
evaluate::expression-make-requires t c =
    let a = c.in-Make in
    let h = make_falls c.args.e.now a.at a.class a.args a.tweaks c.deref-in-Make.result.now a.is c.deref-in-Make.ensures.value in
    search rules

pub evaluate::expression-returns-in-Make : goal.evaluate::expression-returns-in-Make
evaluate::expression-returns-in-Make t c =
    let W = world_of c.args.stage.now in let C = calls_of c.args.stage.now in let f = c.args.frame.now in let w = c.args.run.now in let a = c.in-Make in
    mirrors_same c.make.result (λ x. x) c.make.new.run (evaluate W C f (made a.at a.class c.deref-in-Make.result.now c.deref-in-Make-2.result.now) w) (value_of W C f c.args.e.now w) (ap (λ t. evaluate W C f t w) (made_is c.args.e.now a.at a.class a.args a.tweaks c.deref-in-Make.result.now c.deref-in-Make-2.result.now a.is c.deref-in-Make.ensures.value c.deref-in-Make-2.ensures.value)) c.make.ensures

pub evaluate::performed-operands-requires : goal.evaluate::performed-operands-requires
evaluate::performed-operands-requires t c =
    let a = c.in-Call in
    let h = call_falls c.args.e.now c.deref.result.now a.at a.object a.class a.method a.args c.deref-in-Call.result.now a.is c.deref.ensures c.deref-in-Call.ensures.value in
    let k : weight (view_expr c.deref.result.now) + weights (expr_views c.deref-in-Call.result.now NoArg) + 1 < weight (view_expr c.args.e.now) = omega arith in
    search rules

pub evaluate::performed-returns-in_err-o-in-Call : goal.evaluate::performed-returns-in_err-o-in-Call
evaluate::performed-returns-in_err-o-in-Call t c =
    let W = world_of c.args.stage.now in let C = calls_of c.args.stage.now in let f = c.args.frame.now in let w = c.args.run.now in let a = c.in-Call in let d = c.deref.result.now in let args = c.deref-in-Call.result.now in
    let first = operands W C f (view_expr d) (expr_views args NoArg) w in let go = called_goes W C a.at a.class a.method in let all = perform W C f (view_expr c.args.e.now) w in
    let p = err_from_is_err_and c.from_residual.result c.from_residual.ensures.1 in
    rw (p.1, p.2) (halts c.in_err-o-in-Call.field-0.0 c.operands.new.run first go all (perform_is W C f w c.args.e.now d a.at a.object a.class a.method a.args c.deref-in-Call.result.now a.is c.deref.ensures c.deref-in-Call.ensures.value) c.in_err-o-in-Call.ensures)

pub evaluate::performed-returns-in_ok-o-in-Call : goal.evaluate::performed-returns-in_ok-o-in-Call
evaluate::performed-returns-in_ok-o-in-Call t c =
    let W = world_of c.args.stage.now in let C = calls_of c.args.stage.now in let f = c.args.frame.now in let w = c.args.run.now in let a = c.in-Call in let d = c.deref.result.now in let args = c.deref-in-Call.result.now in
    let first = operands W C f (view_expr d) (expr_views args NoArg) w in let go = called_goes W C a.at a.class a.method in let all = perform W C f (view_expr c.args.e.now) w in
    mirrors c.call.result (λ r. r) c.call.new.run first go all c.in_ok-o-in-Call.o c.operands.new.run (perform_is W C f w c.args.e.now d a.at a.object a.class a.method a.args c.deref-in-Call.result.now a.is c.deref.ensures c.deref-in-Call.ensures.value) c.in_ok-o-in-Call.ensures c.call.ensures

pub execute::plain-returns-in_err-y-in-SetField : goal.execute::plain-returns-in_err-y-in-SetField
execute::plain-returns-in_err-y-in-SetField t c =
    let W = world_of c.args.stage.now in let C = calls_of c.args.stage.now in let n = c.args.stage.now.left in let f = c.args.frame.now in let w = c.args.run.now in let a = c.in-SetField in let x = c.in_ok-x-in-SetField.x in
    let is = set_field_is W C n f w c.args.s.now a.at a.object a.e a.field a.is ∙ ap (λ g. and_then g (field_value W C f a.at a.field a.e)) c.in_ok-x-in-SetField.ensures in
    let p = err_from_is_err_and c.from_residual-in_err-y-in-SetField.result c.from_residual-in_err-y-in-SetField.ensures.1 in
    rw (p.1, p.2) (halts c.in_err-y-in-SetField.field-0.0 c.expression-in-SetField-2.new.run (value_of W C f a.e c.expression-in-SetField.new.run) (λ y u. goes_on f (write_field W.look a.at x a.field y u)) (done W C n f c.args.s.now w) is c.in_err-y-in-SetField.ensures)

pub execute::plain-returns-in_err-write_field-in-SetField : goal.execute::plain-returns-in_err-write_field-in-SetField
execute::plain-returns-in_err-write_field-in-SetField t c =
    let W = world_of c.args.stage.now in let C = calls_of c.args.stage.now in let n = c.args.stage.now.left in let f = c.args.frame.now in let w = c.args.run.now in let a = c.in-SetField in let x = c.in_ok-x-in-SetField.x in
    let is = set_field_is W C n f w c.args.s.now a.at a.object a.e a.field a.is ∙ ap (λ g. and_then g (field_value W C f a.at a.field a.e)) c.in_ok-x-in-SetField.ensures in
    let has = is ∙ ap (λ g. and_then g (λ y u. goes_on f (write_field W.look a.at x a.field y u))) c.in_ok-y-in-SetField.ensures in
    let p = err_from_is_err_and c.from_residual-in_err-write_field-in-SetField.result c.from_residual-in_err-write_field-in-SetField.ensures.1 in
    rw (p.1, p.2) (halts c.in_err-write_field-in-SetField.field-0.0 c.write_field.new.run (write_field W.look a.at x a.field c.in_ok-y-in-SetField.y c.expression-in-SetField-2.new.run) (λ _ v. Gives (Goes f) v) (done W C n f c.args.s.now w) has c.in_err-write_field-in-SetField.ensures)

pub execute::plain-returns-in_ok-write_field-in-SetField : goal.execute::plain-returns-in_ok-write_field-in-SetField
execute::plain-returns-in_ok-write_field-in-SetField t c =
    let W = world_of c.args.stage.now in let C = calls_of c.args.stage.now in let n = c.args.stage.now.left in let f = c.args.frame.now in let w = c.args.run.now in let a = c.in-SetField in let x = c.in_ok-x-in-SetField.x in
    let is = set_field_is W C n f w c.args.s.now a.at a.object a.e a.field a.is ∙ ap (λ g. and_then g (field_value W C f a.at a.field a.e)) c.in_ok-x-in-SetField.ensures in
    let has = is ∙ ap (λ g. and_then g (λ y u. goes_on f (write_field W.look a.at x a.field y u))) c.in_ok-y-in-SetField.ensures in
    has ∙ ap (goes_on f) c.in_ok-write_field-in-SetField.ensures

pub execute::plain-returns-in_err-i-in-SetElem : goal.execute::plain-returns-in_err-i-in-SetElem
execute::plain-returns-in_err-i-in-SetElem t c =
    let W = world_of c.args.stage.now in let C = calls_of c.args.stage.now in let n = c.args.stage.now.left in let f = c.args.frame.now in let w = c.args.run.now in let a = c.in-SetElem in let x = c.in_ok-x-in-SetElem.x in
    let is = set_element_is W C n f w c.args.s.now a.at a.array a.index a.e a.is ∙ ap (λ g. and_then g (element_index W C f a.at a.index a.e)) c.in_ok-x-in-SetElem.ensures in
    let p = err_from_is_err_and c.from_residual-in_err-i-in-SetElem.result c.from_residual-in_err-i-in-SetElem.ensures.1 in
    rw (p.1, p.2) (halts c.in_err-i-in-SetElem.field-0.0 c.expression-in-SetElem-2.new.run (value_of W C f a.index c.expression-in-SetElem.new.run) (element_value W C f a.at a.e x) (done W C n f c.args.s.now w) is c.in_err-i-in-SetElem.ensures)

pub execute::plain-returns-in_err-y-in-SetElem : goal.execute::plain-returns-in_err-y-in-SetElem
execute::plain-returns-in_err-y-in-SetElem t c =
    let W = world_of c.args.stage.now in let C = calls_of c.args.stage.now in let n = c.args.stage.now.left in let f = c.args.frame.now in let w = c.args.run.now in let a = c.in-SetElem in let x = c.in_ok-x-in-SetElem.x in
    let is = set_element_is W C n f w c.args.s.now a.at a.array a.index a.e a.is ∙ ap (λ g. and_then g (element_index W C f a.at a.index a.e)) c.in_ok-x-in-SetElem.ensures in
    let i = c.in_ok-i-in-SetElem.i in let has = is ∙ ap (λ g. and_then g (element_value W C f a.at a.e x)) c.in_ok-i-in-SetElem.ensures in
    let p = err_from_is_err_and c.from_residual-in_err-y-in-SetElem.result c.from_residual-in_err-y-in-SetElem.ensures.1 in
    rw (p.1, p.2) (halts c.in_err-y-in-SetElem.field-0.0 c.expression-in-SetElem-3.new.run (value_of W C f a.e c.expression-in-SetElem-2.new.run) (λ y t. goes_on f (write_element W.look a.at x i y t)) (done W C n f c.args.s.now w) has c.in_err-y-in-SetElem.ensures)

pub execute::plain-returns-in_err-write_element-in-SetElem : goal.execute::plain-returns-in_err-write_element-in-SetElem
execute::plain-returns-in_err-write_element-in-SetElem t c =
    let W = world_of c.args.stage.now in let C = calls_of c.args.stage.now in let n = c.args.stage.now.left in let f = c.args.frame.now in let w = c.args.run.now in let a = c.in-SetElem in let x = c.in_ok-x-in-SetElem.x in
    let is = set_element_is W C n f w c.args.s.now a.at a.array a.index a.e a.is ∙ ap (λ g. and_then g (element_index W C f a.at a.index a.e)) c.in_ok-x-in-SetElem.ensures in
    let i = c.in_ok-i-in-SetElem.i in let has = is ∙ ap (λ g. and_then g (element_value W C f a.at a.e x)) c.in_ok-i-in-SetElem.ensures in
    let knows = has ∙ ap (λ g. and_then g (λ y t. goes_on f (write_element W.look a.at x i y t))) c.in_ok-y-in-SetElem.ensures in
    let p = err_from_is_err_and c.from_residual-in_err-write_element-in-SetElem.result c.from_residual-in_err-write_element-in-SetElem.ensures.1 in
    rw (p.1, p.2) (halts c.in_err-write_element-in-SetElem.field-0.0 c.write_element.new.run (write_element W.look a.at x i c.in_ok-y-in-SetElem.y c.expression-in-SetElem-3.new.run) (λ _ v. Gives (Goes f) v) (done W C n f c.args.s.now w) knows c.in_err-write_element-in-SetElem.ensures)

pub execute::plain-returns-in_ok-write_element-in-SetElem : goal.execute::plain-returns-in_ok-write_element-in-SetElem
execute::plain-returns-in_ok-write_element-in-SetElem t c =
    let W = world_of c.args.stage.now in let C = calls_of c.args.stage.now in let n = c.args.stage.now.left in let f = c.args.frame.now in let w = c.args.run.now in let a = c.in-SetElem in let x = c.in_ok-x-in-SetElem.x in
    let is = set_element_is W C n f w c.args.s.now a.at a.array a.index a.e a.is ∙ ap (λ g. and_then g (element_index W C f a.at a.index a.e)) c.in_ok-x-in-SetElem.ensures in
    let i = c.in_ok-i-in-SetElem.i in let has = is ∙ ap (λ g. and_then g (element_value W C f a.at a.e x)) c.in_ok-i-in-SetElem.ensures in
    let knows = has ∙ ap (λ g. and_then g (λ y t. goes_on f (write_element W.look a.at x i y t))) c.in_ok-y-in-SetElem.ensures in
    knows ∙ ap (goes_on f) c.in_ok-write_element-in-SetElem.ensures

pub execute::plain-returns-in_err-x-in-Assert : goal.execute::plain-returns-in_err-x-in-Assert
execute::plain-returns-in_err-x-in-Assert t c =
    let W = world_of c.args.stage.now in let C = calls_of c.args.stage.now in let n = c.args.stage.now.left in let f = c.args.frame.now in let w = c.args.run.now in let a = c.in-Assert in let p = err_from_is_err_and c.from_residual-in_err-x-in-Assert.result c.from_residual-in_err-x-in-Assert.ensures.1 in
    rw (p.1, p.2) (halts c.in_err-x-in-Assert.field-0.0 c.expression-in-Assert.new.run (value_of W C f a.e w) (λ x v. goes_on f (assert_true a.at x v)) (done W C n f c.args.s.now w) (assert_is W C n f w c.args.s.now a.at a.e a.is) c.in_err-x-in-Assert.ensures)

pub execute::plain-returns-in_err-assert_true-in-Assert : goal.execute::plain-returns-in_err-assert_true-in-Assert
execute::plain-returns-in_err-assert_true-in-Assert t c =
    let W = world_of c.args.stage.now in let C = calls_of c.args.stage.now in let n = c.args.stage.now.left in let f = c.args.frame.now in let w = c.args.run.now in let a = c.in-Assert in let x = c.in_ok-x-in-Assert.x in
    let is = (assert_is W C n f w c.args.s.now a.at a.e a.is) ∙ ap (λ g. and_then g (λ x v. goes_on f (assert_true a.at x v))) c.in_ok-x-in-Assert.ensures in
    let p = err_from_is_err_and c.from_residual-in_err-assert_true-in-Assert.result c.from_residual-in_err-assert_true-in-Assert.ensures.1 in
    rw (p.1, p.2) (halts c.in_err-assert_true-in-Assert.field-0.0 c.expression-in-Assert.new.run (assert_true a.at x c.expression-in-Assert.new.run) (λ _ v. Gives (Goes f) v) (done W C n f c.args.s.now w) is c.in_err-assert_true-in-Assert.ensures)

pub execute::plain-returns-in_ok-assert_true-in-Assert : goal.execute::plain-returns-in_ok-assert_true-in-Assert
execute::plain-returns-in_ok-assert_true-in-Assert t c =
    let W = world_of c.args.stage.now in let C = calls_of c.args.stage.now in let n = c.args.stage.now.left in let f = c.args.frame.now in let w = c.args.run.now in let a = c.in-Assert in let x = c.in_ok-x-in-Assert.x in
    let is = (assert_is W C n f w c.args.s.now a.at a.e a.is) ∙ ap (λ g. and_then g (λ x v. goes_on f (assert_true a.at x v))) c.in_ok-x-in-Assert.ensures in
    is ∙ ap (goes_on f) c.in_ok-assert_true-in-Assert.ensures

pub execute::repeat-returns-in_err-condition : goal.execute::repeat-returns-in_err-condition
execute::repeat-returns-in_err-condition t c =
    let W = world_of c.args.stage.now in let C = calls_of c.args.stage.now in let n = c.args.stage.now.left in let f = c.args.frame.now in let w = c.args.run.now in let at = c.args.at in
    let T = tests W C c.args.test.now in let B = bodies W C n c.args.body.now in let i = c.loop-run in let go = again i.more at T B in let u = c.condition.new.run in
    let p = err_from_is_err_and c.from_residual.result c.from_residual.ensures.1 in
    rw (p.1, p.2) (halts c.in_err-condition.field-0.0 u (and_then (T i.frame i.run) truth) (tested at B go i.frame) (loop n at T B f w) (i.invariant ∙ loop_tested i.more at T B i.frame i.run) c.in_err-condition.ensures)

pub execute::repeat-returns-in_err-turn : goal.execute::repeat-returns-in_err-turn
execute::repeat-returns-in_err-turn t c =
    let W = world_of c.args.stage.now in let C = calls_of c.args.stage.now in let n = c.args.stage.now.left in let f = c.args.frame.now in let w = c.args.run.now in let at = c.args.at in
    let T = tests W C c.args.test.now in let B = bodies W C n c.args.body.now in let i = c.loop-run in let go = again i.more at T B in let u = c.condition.new.run in
    let p = err_from_is_err_and c.from_residual-in_err-turn.result c.from_residual-in_err-turn.ensures.1 in
    rw (p.1, p.2) (halts c.in_err-turn.field-0.0 c.turn.new.self (turn at u) (λ _ t. and_then (B i.frame t) (λ flow s. if_goes go flow s)) (loop n at T B f w) (i.invariant ∙ loop_taken i.more at T B i.frame i.run u c.in_ok-condition.field-0 c.in_ok-condition.ensures (search rules)) c.in_err-turn.ensures)

pub execute::repeat-returns-in_err-statements : goal.execute::repeat-returns-in_err-statements
execute::repeat-returns-in_err-statements t c =
    let W = world_of c.args.stage.now in let C = calls_of c.args.stage.now in let n = c.args.stage.now.left in let f = c.args.frame.now in let w = c.args.run.now in let at = c.args.at in
    let T = tests W C c.args.test.now in let B = bodies W C n c.args.body.now in let i = c.loop-run in let go = again i.more at T B in let u = c.condition.new.run in
    let p = err_from_is_err_and c.from_residual-in_err-statements.result c.from_residual-in_err-statements.ensures.1 in
    rw (p.1, p.2) (halts c.in_err-statements.field-0.0 c.statements.new.run (B i.frame c.turn.new.self) (λ flow s. if_goes go flow s) (loop n at T B f w) (i.invariant ∙ loop_taken i.more at T B i.frame i.run u c.in_ok-condition.field-0 c.in_ok-condition.ensures (search rules) ∙ ap (λ g. and_then g (λ _ t. and_then (B i.frame t) (λ flow s. if_goes go flow s))) c.in_ok-turn.ensures) c.in_err-statements.ensures)

pub execute::repeat-returns-in-Returns : goal.execute::repeat-returns-in-Returns
execute::repeat-returns-in-Returns t c =
    let W = world_of c.args.stage.now in let C = calls_of c.args.stage.now in let n = c.args.stage.now.left in let f = c.args.frame.now in let w = c.args.run.now in let at = c.args.at in
    let T = tests W C c.args.test.now in let B = bodies W C n c.args.body.now in let i = c.loop-run in let go = again i.more at T B in let u = c.condition.new.run in
    i.invariant ∙ loop_taken i.more at T B i.frame i.run u c.in_ok-condition.field-0 c.in_ok-condition.ensures (search rules) ∙ ap (λ g. and_then g (λ _ t. and_then (B i.frame t) (λ flow s. if_goes go flow s))) c.in_ok-turn.ensures ∙ ap (λ g. and_then g (λ flow s. if_goes go flow s)) (c.in_ok-statements.ensures ∙ ap (λ flow. Gives (flow_seen flow c.statements.new.frame) c.statements.new.run) c.in-Returns.is)

pub execute::repeat-returns-in-Leaves : goal.execute::repeat-returns-in-Leaves
execute::repeat-returns-in-Leaves t c =
    let W = world_of c.args.stage.now in let C = calls_of c.args.stage.now in let n = c.args.stage.now.left in let f = c.args.frame.now in let w = c.args.run.now in let at = c.args.at in
    let T = tests W C c.args.test.now in let B = bodies W C n c.args.body.now in let i = c.loop-run in let go = again i.more at T B in let u = c.condition.new.run in
    i.invariant ∙ loop_taken i.more at T B i.frame i.run u c.in_ok-condition.field-0 c.in_ok-condition.ensures (search rules) ∙ ap (λ g. and_then g (λ _ t. and_then (B i.frame t) (λ flow s. if_goes go flow s))) c.in_ok-turn.ensures ∙ ap (λ g. and_then g (λ flow s. if_goes go flow s)) (c.in_ok-statements.ensures ∙ ap (λ flow. Gives (flow_seen flow c.statements.new.frame) c.statements.new.run) c.in-Leaves.is)

pub execute::repeat-loop-run-preserved : goal.execute::repeat-loop-run-preserved
execute::repeat-loop-run-preserved t c =
    let W = world_of c.args.stage.now in let C = calls_of c.args.stage.now in let n = c.args.stage.now.left in let f = c.args.frame.now in let w = c.args.run.now in let at = c.args.at in
    let T = tests W C c.args.test.now in let B = bodies W C n c.args.body.now in let i = c.loop-run in let go = again i.more at T B in let u = c.condition.new.run in
    i.invariant ∙ loop_taken i.more at T B i.frame i.run u c.in_ok-condition.field-0 c.in_ok-condition.ensures (search rules) ∙ ap (λ g. and_then g (λ _ t. and_then (B i.frame t) (λ flow s. if_goes go flow s))) c.in_ok-turn.ensures ∙ ap (λ g. and_then g (λ flow s. if_goes go flow s)) (c.in_ok-statements.ensures ∙ ap (λ flow. Gives (flow_seen flow c.statements.new.frame) c.statements.new.run) c.in-Goes.is) ∙ again_more i.more at T B c.statements.new.frame c.statements.new.run (omega arith)

pub execute::statement-branch-stage-requires : goal.execute::statement-branch-stage-requires
execute::statement-branch-stage-requires t c =
    let a = c.in-If in
    let h = branch_falls c.args.s.now a.test a.body a.other c.deref.result.now c.deref-in-If.result.now a.is c.deref.ensures.value c.deref-in-If.ensures.value in
    search rules

pub execute::statement-returns-in-If : goal.execute::statement-returns-in-If
execute::statement-returns-in-If t c =
    let W = world_of c.args.stage.now in let C = calls_of c.args.stage.now in let n = c.args.stage.now.left in let f = c.args.frame.now in let w = c.args.run.now in let a = c.in-If in
    mirrors_same c.branch-stage.result _ c.branch-stage.new.run (and_then (condition W C f (view_expr a.test) w) (branches W C n f c.deref.result.now c.deref-in-If.result.now)) (done W C n f c.args.s.now w) (if_is W C n f w c.args.s.now a.test a.body a.other c.deref.result.now c.deref-in-If.result.now a.is c.deref.ensures.value c.deref-in-If.ensures.value) c.branch-stage.ensures

pub execute::statement-repeat-requires : goal.execute::statement-repeat-requires
execute::statement-repeat-requires t c =
    let a = c.in-While in
    let h = while_falls c.args.s.now a.at a.test a.body c.deref-in-While.result.now a.is c.deref-in-While.ensures.value in
    search rules

pub execute::statement-returns-in-While : goal.execute::statement-returns-in-While
execute::statement-returns-in-While t c =
    let W = world_of c.args.stage.now in let C = calls_of c.args.stage.now in let n = c.args.stage.now.left in let f = c.args.frame.now in let w = c.args.run.now in let a = c.in-While in
    mirrors_same c.repeat.result _ c.repeat.new.run (loop n a.at (tests W C a.test) (bodies W C n c.deref-in-While.result.now) f w) (done W C n f c.args.s.now w) (while_is W C n f w c.args.s.now a.at a.test a.body c.deref-in-While.result.now a.is c.deref-in-While.ensures.value) c.repeat.ensures

pub execute::statement-statements-requires : goal.execute::statement-statements-requires
execute::statement-statements-requires t c =
    let a = c.in-Block in
    let h = block_falls c.args.s.now a.body c.deref-in-Block.result.now a.is c.deref-in-Block.ensures.value in
    search rules

pub execute::statement-returns-in-Block : goal.execute::statement-returns-in-Block
execute::statement-returns-in-Block t c =
    let W = world_of c.args.stage.now in let C = calls_of c.args.stage.now in let n = c.args.stage.now.left in let f = c.args.frame.now in let w = c.args.run.now in let a = c.in-Block in
    mirrors_same c.statements.result _ c.statements.new.run (all_done W C n f c.deref-in-Block.result.now w) (done W C n f c.args.s.now w) (block_is W C n f w c.args.s.now a.body c.deref-in-Block.result.now a.is c.deref-in-Block.ensures.value) c.statements.ensures

pub execute::statements-returns-in-Ok-Returns : goal.execute::statements-returns-in-Ok-Returns
execute::statements-returns-in-Ok-Returns t c =
    let W = world_of c.args.stage.now in let C = calls_of c.args.stage.now in let n = c.args.stage.now.left in let f = c.args.frame.now in let w = c.args.run.now in
    let ss = c.args.body.now in let i = c.loop-s.s-index in let within : i < length ss = omega arith in
    stats_end W C n f c.loop-s.frame w c.loop-s.run ss i c.s-item.result (Gives (Returns c.in-Ok-Returns.result) c.statement.new.run) within c.s-item.is c.loop-s.invariant (λ go. refl) (c.in-Ok-Returns.ensures ∙ ap (λ flow. Gives (flow_seen flow c.statement.new.frame) c.statement.new.run) c.in-Ok-Returns.field-0-is)

pub execute::statements-returns-in-Ok-Leaves : goal.execute::statements-returns-in-Ok-Leaves
execute::statements-returns-in-Ok-Leaves t c =
    let W = world_of c.args.stage.now in let C = calls_of c.args.stage.now in let n = c.args.stage.now.left in let f = c.args.frame.now in let w = c.args.run.now in
    let ss = c.args.body.now in let i = c.loop-s.s-index in let within : i < length ss = omega arith in
    stats_end W C n f c.loop-s.frame w c.loop-s.run ss i c.s-item.result (Gives Leaves c.statement.new.run) within c.s-item.is c.loop-s.invariant (λ go. refl) (c.in-Ok-Leaves.ensures ∙ ap (λ flow. Gives (flow_seen flow c.statement.new.frame) c.statement.new.run) c.in-Ok-Leaves.field-0-is)

pub execute::statements-returns-in-Err : goal.execute::statements-returns-in-Err
execute::statements-returns-in-Err t c =
    let W = world_of c.args.stage.now in let C = calls_of c.args.stage.now in let n = c.args.stage.now.left in let f = c.args.frame.now in let w = c.args.run.now in
    let ss = c.args.body.now in let i = c.loop-s.s-index in let within : i < length ss = omega arith in
    stats_stop c.in-Err.interrupt W C n f c.loop-s.frame w c.loop-s.run c.statement.new.run ss i c.s-item.result within c.s-item.is c.loop-s.invariant c.in-Err.ensures

pub execute::statements-loop-s-preserved : goal.execute::statements-loop-s-preserved
execute::statements-loop-s-preserved t c =
    let W = world_of c.args.stage.now in let C = calls_of c.args.stage.now in let n = c.args.stage.now.left in let f = c.args.frame.now in let w = c.args.run.now in
    let ss = c.args.body.now in let i = c.loop-s.s-index in let within : i < length ss = omega arith in
    stats_next W C n f c.loop-s.frame w c.loop-s.run ss i c.s-item.result within c.s-item.is c.loop-s.invariant ∙ c.in-Ok-Goes.ensures ∙ ap (λ flow. Gives (flow_seen flow c.statement.new.frame) c.statement.new.run) c.in-Ok-Goes.field-0-is
