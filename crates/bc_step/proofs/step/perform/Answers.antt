use Rattle.std.proofs.Common.{◌≡◌, ◌∙◌, ap, sym, refl, rules, Some}
use Rattle.std.specs.Int.{w32, int_wrap}
use Rattle.bc_data.specs.declared.run.Value.TheVariants as value
use Rattle.bc_code.specs.declared.code.Instruction.TheVariants as instruction
use Rattle.bc_step.specs.declared.state.Did.TheVariants as answer
use Rattle.bc_step.specs.Area.{reads_of}
use Rattle.bc_step.proofs.Steps.{direct, direct_any, followed, moved, put_number, still_err}
use Rattle.bc_step.proofs.step.perform.Goals as goal

pub returns-in_ok-put-in-Int-clause-ok : goal.returns-in_ok-put-in-Int-clause-ok
returns-in_ok-put-in-Int-clause-ok c =
    let e : c.int_value.result ≡ value.Int (int_wrap w32 c.in-Int.n) = search rules in
    followed c.args.code.now c.args.at c.args.state.now c.put.new.self c.args.area.now c.settled.new.area c.args.instruction.now (instruction.Int c.in-Int.n) c.in-Int.is c.in_ok-put-in-Int.field-0 c.settled.result c.settled.ensures.answers (put_number (reads_of c.args.area.now) c.args.code.now c.args.at c.in-Int.n c.in_ok-put-in-Int.field-0 c.args.state.now c.put.new.self _ e c.in_ok-put-in-Int.ensures.ok)

pub returns-in_ok-put-in-Bool-clause-ok : goal.returns-in_ok-put-in-Bool-clause-ok
returns-in_ok-put-in-Bool-clause-ok c = followed c.args.code.now c.args.at c.args.state.now c.put-in-Bool.new.self c.args.area.now c.settled-in-Bool.new.area c.args.instruction.now (instruction.Bool c.in-Bool.b) c.in-Bool.is c.in_ok-put-in-Bool.field-0 c.settled-in-Bool.result c.settled-in-Bool.ensures.answers (c.in_ok-put-in-Bool.ensures.ok)

pub returns-in_ok-put-in-Null-clause-ok : goal.returns-in_ok-put-in-Null-clause-ok
returns-in_ok-put-in-Null-clause-ok c = followed c.args.code.now c.args.at c.args.state.now c.put-in-Null.new.self c.args.area.now c.settled-in-Null.new.area c.args.instruction.now instruction.Null c.in-Null.is c.in_ok-put-in-Null.field-0 c.settled-in-Null.result c.settled-in-Null.ensures.answers (c.in_ok-put-in-Null.ensures.ok)

pub returns-in_ok-load-in-Load-clause-ok : goal.returns-in_ok-load-in-Load-clause-ok
returns-in_ok-load-in-Load-clause-ok c = followed c.args.code.now c.args.at c.args.state.now c.load.new.self c.args.area.now c.settled-in-Load.new.area c.args.instruction.now (instruction.Load c.in-Load.n) c.in-Load.is c.in_ok-load-in-Load.field-0 c.settled-in-Load.result c.settled-in-Load.ensures.answers (c.in_ok-load-in-Load.ensures.ok (reads_of c.args.area.now) c.args.code.now c.args.at)

pub returns-in-Store-clause-ok : goal.returns-in-Store-clause-ok
returns-in-Store-clause-ok c = followed c.args.code.now c.args.at c.args.state.now c.store.new.self c.args.area.now c.settled-in-Store.new.area c.args.instruction.now (instruction.Store c.in-Store.n) c.in-Store.is c.store.result c.settled-in-Store.result c.settled-in-Store.ensures.answers (c.store.ensures (reads_of c.args.area.now) c.args.code.now c.args.at)

pub returns-in-Pop-clause-ok : goal.returns-in-Pop-clause-ok
returns-in-Pop-clause-ok c = followed c.args.code.now c.args.at c.args.state.now c.pop.new.self c.args.area.now c.settled-in-Pop.new.area c.args.instruction.now instruction.Pop c.in-Pop.is c.pop.result c.settled-in-Pop.result c.settled-in-Pop.ensures.answers (c.pop.ensures (reads_of c.args.area.now) c.args.code.now c.args.at)

pub returns-in-Neg-clause-ok : goal.returns-in-Neg-clause-ok
returns-in-Neg-clause-ok c = followed c.args.code.now c.args.at c.args.state.now c.neg.new.self c.args.area.now c.settled-in-Neg.new.area c.args.instruction.now instruction.Neg c.in-Neg.is c.neg.result c.settled-in-Neg.result c.settled-in-Neg.ensures.answers (c.neg.ensures (reads_of c.args.area.now) c.args.code.now c.args.at)

pub returns-in-Not-clause-ok : goal.returns-in-Not-clause-ok
returns-in-Not-clause-ok c = followed c.args.code.now c.args.at c.args.state.now c.not.new.self c.args.area.now c.settled-in-Not.new.area c.args.instruction.now instruction.Not c.in-Not.is c.not.result c.settled-in-Not.result c.settled-in-Not.ensures.answers (c.not.ensures (reads_of c.args.area.now) c.args.code.now c.args.at)

pub returns-in-Add-clause-ok : goal.returns-in-Add-clause-ok
returns-in-Add-clause-ok c = followed c.args.code.now c.args.at c.args.state.now c.calculate.new.self c.args.area.now c.settled-in-Add.new.area c.args.instruction.now instruction.Add c.in-Add.is c.calculate.result c.settled-in-Add.result c.settled-in-Add.ensures.answers (c.calculate.ensures)

pub returns-in-Sub-clause-ok : goal.returns-in-Sub-clause-ok
returns-in-Sub-clause-ok c = followed c.args.code.now c.args.at c.args.state.now c.calculate-in-Sub.new.self c.args.area.now c.settled-in-Sub.new.area c.args.instruction.now instruction.Sub c.in-Sub.is c.calculate-in-Sub.result c.settled-in-Sub.result c.settled-in-Sub.ensures.answers (c.calculate-in-Sub.ensures)

pub returns-in-Mul-clause-ok : goal.returns-in-Mul-clause-ok
returns-in-Mul-clause-ok c = followed c.args.code.now c.args.at c.args.state.now c.calculate-in-Mul.new.self c.args.area.now c.settled-in-Mul.new.area c.args.instruction.now instruction.Mul c.in-Mul.is c.calculate-in-Mul.result c.settled-in-Mul.result c.settled-in-Mul.ensures.answers (c.calculate-in-Mul.ensures)

pub returns-in-Div-clause-ok : goal.returns-in-Div-clause-ok
returns-in-Div-clause-ok c = followed c.args.code.now c.args.at c.args.state.now c.calculate-in-Div.new.self c.args.area.now c.settled-in-Div.new.area c.args.instruction.now instruction.Div c.in-Div.is c.calculate-in-Div.result c.settled-in-Div.result c.settled-in-Div.ensures.answers (c.calculate-in-Div.ensures)

pub returns-in-Rem-clause-ok : goal.returns-in-Rem-clause-ok
returns-in-Rem-clause-ok c = followed c.args.code.now c.args.at c.args.state.now c.calculate-in-Rem.new.self c.args.area.now c.settled-in-Rem.new.area c.args.instruction.now instruction.Rem c.in-Rem.is c.calculate-in-Rem.result c.settled-in-Rem.result c.settled-in-Rem.ensures.answers (c.calculate-in-Rem.ensures)

pub returns-in-Less-clause-ok : goal.returns-in-Less-clause-ok
returns-in-Less-clause-ok c = followed c.args.code.now c.args.at c.args.state.now c.calculate-in-Less.new.self c.args.area.now c.settled-in-Less.new.area c.args.instruction.now instruction.Less c.in-Less.is c.calculate-in-Less.result c.settled-in-Less.result c.settled-in-Less.ensures.answers (c.calculate-in-Less.ensures)

pub returns-in-LessEq-clause-ok : goal.returns-in-LessEq-clause-ok
returns-in-LessEq-clause-ok c = followed c.args.code.now c.args.at c.args.state.now c.calculate-in-LessEq.new.self c.args.area.now c.settled-in-LessEq.new.area c.args.instruction.now instruction.LessEq c.in-LessEq.is c.calculate-in-LessEq.result c.settled-in-LessEq.result c.settled-in-LessEq.ensures.answers (c.calculate-in-LessEq.ensures)

pub returns-in-More-clause-ok : goal.returns-in-More-clause-ok
returns-in-More-clause-ok c = followed c.args.code.now c.args.at c.args.state.now c.calculate-in-More.new.self c.args.area.now c.settled-in-More.new.area c.args.instruction.now instruction.More c.in-More.is c.calculate-in-More.result c.settled-in-More.result c.settled-in-More.ensures.answers (c.calculate-in-More.ensures)

pub returns-in-MoreEq-clause-ok : goal.returns-in-MoreEq-clause-ok
returns-in-MoreEq-clause-ok c = followed c.args.code.now c.args.at c.args.state.now c.calculate-in-MoreEq.new.self c.args.area.now c.settled-in-MoreEq.new.area c.args.instruction.now instruction.MoreEq c.in-MoreEq.is c.calculate-in-MoreEq.result c.settled-in-MoreEq.result c.settled-in-MoreEq.ensures.answers (c.calculate-in-MoreEq.ensures)

pub returns-in-Same-clause-ok : goal.returns-in-Same-clause-ok
returns-in-Same-clause-ok c = followed c.args.code.now c.args.at c.args.state.now c.same.new.self c.args.area.now c.settled-in-Same.new.area c.args.instruction.now instruction.Same c.in-Same.is c.same.result c.settled-in-Same.result c.settled-in-Same.ensures.answers (c.same.ensures (reads_of c.args.area.now) c.args.code.now c.args.at)

pub returns-in-Differ-clause-ok : goal.returns-in-Differ-clause-ok
returns-in-Differ-clause-ok c = followed c.args.code.now c.args.at c.args.state.now c.differ.new.self c.args.area.now c.settled-in-Differ.new.area c.args.instruction.now instruction.Differ c.in-Differ.is c.differ.result c.settled-in-Differ.result c.settled-in-Differ.ensures.answers (c.differ.ensures (reads_of c.args.area.now) c.args.code.now c.args.at)

pub returns-in-Jump-clause-ok : goal.returns-in-Jump-clause-ok
returns-in-Jump-clause-ok c = followed c.args.code.now c.args.at c.args.state.now c.jump.new.self c.args.area.now c.settled-in-Jump.new.area c.args.instruction.now (instruction.Jump c.in-Jump.target) c.in-Jump.is c.jump.result c.settled-in-Jump.result c.settled-in-Jump.ensures.answers (c.jump.ensures (reads_of c.args.area.now) c.args.code.now c.args.at)

pub returns-in-JumpIf-clause-ok : goal.returns-in-JumpIf-clause-ok
returns-in-JumpIf-clause-ok c = followed c.args.code.now c.args.at c.args.state.now c.branch-state.new.self c.args.area.now c.settled-in-JumpIf.new.area c.args.instruction.now (instruction.JumpIf c.in-JumpIf.target) c.in-JumpIf.is c.branch-state.result c.settled-in-JumpIf.result c.settled-in-JumpIf.ensures.answers (c.branch-state.ensures)

pub returns-in-JumpIfNot-clause-ok : goal.returns-in-JumpIfNot-clause-ok
returns-in-JumpIfNot-clause-ok c = followed c.args.code.now c.args.at c.args.state.now c.branch-state-in-JumpIfNot.new.self c.args.area.now c.settled-in-JumpIfNot.new.area c.args.instruction.now (instruction.JumpIfNot c.in-JumpIfNot.target) c.in-JumpIfNot.is c.branch-state-in-JumpIfNot.result c.settled-in-JumpIfNot.result c.settled-in-JumpIfNot.ensures.answers (c.branch-state-in-JumpIfNot.ensures)

pub returns-in-Turn-clause-ok : goal.returns-in-Turn-clause-ok
returns-in-Turn-clause-ok c = followed c.args.code.now c.args.at c.args.state.now c.turn.new.self c.args.area.now c.settled-in-Turn.new.area c.args.instruction.now instruction.Turn c.in-Turn.is c.turn.result c.settled-in-Turn.result c.settled-in-Turn.ensures.answers (c.turn.ensures (reads_of c.args.area.now) c.args.code.now)

pub returns-in-Field-clause-ok : goal.returns-in-Field-clause-ok
returns-in-Field-clause-ok c = direct_any c.args.code.now c.args.at c.args.state.now c.field.new.state c.args.area.now c.field.new.area c.args.instruction.now (instruction.Field c.in-Field.n) c.in-Field.is c.field.result c.field.ensures.ok

pub returns-in-SetField-clause-ok : goal.returns-in-SetField-clause-ok
returns-in-SetField-clause-ok c = direct_any c.args.code.now c.args.at c.args.state.now c.set_field.new.state c.args.area.now c.set_field.new.area c.args.instruction.now (instruction.SetField c.in-SetField.n) c.in-SetField.is c.set_field.result c.set_field.ensures.ok

pub returns-in-Length-clause-ok : goal.returns-in-Length-clause-ok
returns-in-Length-clause-ok c = direct_any c.args.code.now c.args.at c.args.state.now c.length.new.state c.args.area.now c.length.new.area c.args.instruction.now instruction.Length c.in-Length.is c.length.result c.length.ensures.ok

pub returns-in-Elem-clause-ok : goal.returns-in-Elem-clause-ok
returns-in-Elem-clause-ok c = direct_any c.args.code.now c.args.at c.args.state.now c.elem.new.state c.args.area.now c.elem.new.area c.args.instruction.now instruction.Elem c.in-Elem.is c.elem.result c.elem.ensures.ok

pub returns-in-SetElem-clause-ok : goal.returns-in-SetElem-clause-ok
returns-in-SetElem-clause-ok c = direct_any c.args.code.now c.args.at c.args.state.now c.set_elem.new.state c.args.area.now c.set_elem.new.area c.args.instruction.now instruction.SetElem c.in-SetElem.is c.set_elem.result c.set_elem.ensures.ok

pub returns-in-NewObject-clause-ok : goal.returns-in-NewObject-clause-ok
returns-in-NewObject-clause-ok c = direct c.args.code.now c.args.at c.args.state.now c.new_object.new.state c.args.area.now c.new_object.new.area c.args.instruction.now (instruction.NewObject c.in-NewObject.class) c.in-NewObject.is c.new_object.result c.new_object.ensures.ok

pub returns-in-NewArray-clause-ok : goal.returns-in-NewArray-clause-ok
returns-in-NewArray-clause-ok c = direct_any c.args.code.now c.args.at c.args.state.now c.new_array.new.state c.args.area.now c.new_array.new.area c.args.instruction.now (instruction.NewArray c.in-NewArray.kind) c.in-NewArray.is c.new_array.result c.new_array.ensures.ok

pub returns-in-SetFlag-clause-ok : goal.returns-in-SetFlag-clause-ok
returns-in-SetFlag-clause-ok c = direct_any c.args.code.now c.args.at c.args.state.now c.set_flag.new.state c.args.area.now c.set_flag.new.area c.args.instruction.now (instruction.SetFlag c.in-SetFlag.flag c.in-SetFlag.on) c.in-SetFlag.is c.set_flag.result c.set_flag.ensures.ok

pub returns-in-AddTag-clause-ok : goal.returns-in-AddTag-clause-ok
returns-in-AddTag-clause-ok c = direct_any c.args.code.now c.args.at c.args.state.now c.add_tag.new.state c.args.area.now c.add_tag.new.area c.args.instruction.now (instruction.AddTag c.in-AddTag.variable) c.in-AddTag.is c.add_tag.result c.add_tag.ensures.ok

pub returns-in_ok-make-in-Make-clause-ok : goal.returns-in_ok-make-in-Make-clause-ok
returns-in_ok-make-in-Make-clause-ok c = followed c.args.code.now c.args.at c.args.state.now c.make.new.self c.args.area.now c.settled-in-Make.new.area c.args.instruction.now (instruction.Make c.in-Make.class c.in-Make.count) c.in-Make.is c.in_ok-make-in-Make.field-0 c.settled-in-Make.result c.settled-in-Make.ensures.answers (c.in_ok-make-in-Make.ensures.ok (reads_of c.args.area.now))

pub returns-in_ok-did-in-Call-clause-ok : goal.returns-in_ok-did-in-Call-clause-ok
returns-in_ok-did-in-Call-clause-ok c = moved c.args.code.now c.args.at c.args.state.now c.call.new.self c.args.area.now c.settled-in-Call.new.area c.args.instruction.now (instruction.Call c.in-Call.class c.in-Call.method c.in-Call.count) c.in-Call.is c.in_ok-did-in-Call.did c.settled-in-Call.result c.settled-in-Call.ensures.answers c.in_ok-did-in-Call.ensures.ok

pub returns-in-Return-clause-ok : goal.returns-in-Return-clause-ok
returns-in-Return-clause-ok c = followed c.args.code.now c.args.at c.args.state.now c.leave.new.self c.args.area.now c.settled-in-Return.new.area c.args.instruction.now instruction.Return c.in-Return.is c.leave.result c.settled-in-Return.result c.settled-in-Return.ensures.answers (c.leave.ensures (reads_of c.args.area.now) c.args.code.now c.args.at)

pub returns-in-ReturnValue-clause-ok : goal.returns-in-ReturnValue-clause-ok
returns-in-ReturnValue-clause-ok c = followed c.args.code.now c.args.at c.args.state.now c.leave-in-ReturnValue.new.self c.args.area.now c.settled-in-ReturnValue.new.area c.args.instruction.now instruction.ReturnValue c.in-ReturnValue.is c.leave-in-ReturnValue.result c.settled-in-ReturnValue.result c.settled-in-ReturnValue.ensures.answers (c.leave-in-ReturnValue.ensures (reads_of c.args.area.now) c.args.code.now c.args.at)

pub returns-in-PrintText-clause-ok : goal.returns-in-PrintText-clause-ok
returns-in-PrintText-clause-ok c = direct_any c.args.code.now c.args.at c.args.state.now c.print_text.new.state c.args.area.now c.print_text.new.area c.args.instruction.now (instruction.PrintText c.as_slice.result.now) (c.in-PrintText.is ∙ ap instruction.PrintText (sym c.as_slice.ensures)) c.print_text.result c.print_text.ensures.ok

pub returns-in-PrintInt-clause-ok : goal.returns-in-PrintInt-clause-ok
returns-in-PrintInt-clause-ok c = direct_any c.args.code.now c.args.at c.args.state.now c.print_int.new.state c.args.area.now c.print_int.new.area c.args.instruction.now instruction.PrintInt c.in-PrintInt.is c.print_int.result c.print_int.ensures.ok

pub returns-in-PrintBool-clause-ok : goal.returns-in-PrintBool-clause-ok
returns-in-PrintBool-clause-ok c = direct_any c.args.code.now c.args.at c.args.state.now c.print_bool.new.state c.args.area.now c.print_bool.new.area c.args.instruction.now instruction.PrintBool c.in-PrintBool.is c.print_bool.result c.print_bool.ensures.ok

pub returns-in-Assert-clause-ok : goal.returns-in-Assert-clause-ok
returns-in-Assert-clause-ok c = followed c.args.code.now c.args.at c.args.state.now c.assert_true.new.self c.args.area.now c.settled-in-Assert.new.area c.args.instruction.now instruction.Assert c.in-Assert.is c.assert_true.result c.settled-in-Assert.result c.settled-in-Assert.ensures.answers (c.assert_true.ensures (reads_of c.args.area.now) c.args.code.now)

pub returns-in-NewTag-clause-ok : goal.returns-in-NewTag-clause-ok
returns-in-NewTag-clause-ok c = direct_any c.args.code.now c.args.at c.args.state.now c.new_tag.new.state c.args.area.now c.new_tag.new.area c.args.instruction.now (instruction.NewTag c.in-NewTag.variable c.in-NewTag.tag_type) c.in-NewTag.is c.new_tag.result c.new_tag.ensures.ok

pub returns-in-ExitFlag-clause-ok : goal.returns-in-ExitFlag-clause-ok
returns-in-ExitFlag-clause-ok c = direct_any c.args.code.now c.args.at c.args.state.now c.exit_flag.new.state c.args.area.now c.exit_flag.new.area c.args.instruction.now (instruction.ExitFlag c.in-ExitFlag.p c.in-ExitFlag.flag c.in-ExitFlag.on) c.in-ExitFlag.is c.exit_flag.result c.exit_flag.ensures.ok

pub returns-in-ExitClear-clause-ok : goal.returns-in-ExitClear-clause-ok
returns-in-ExitClear-clause-ok c = direct_any c.args.code.now c.args.at c.args.state.now c.exit_clear.new.state c.args.area.now c.exit_clear.new.area c.args.instruction.now (instruction.ExitClear c.in-ExitClear.p c.in-ExitClear.variable) c.in-ExitClear.is c.exit_clear.result c.exit_clear.ensures.ok

pub returns-in-ExitAdd-clause-ok : goal.returns-in-ExitAdd-clause-ok
returns-in-ExitAdd-clause-ok c = direct_any c.args.code.now c.args.at c.args.state.now c.exit_add.new.state c.args.area.now c.exit_add.new.area c.args.instruction.now (instruction.ExitAdd c.in-ExitAdd.p c.in-ExitAdd.variable) c.in-ExitAdd.is c.exit_add.result c.exit_add.ensures.ok

pub returns-in-Exit-clause-ok : goal.returns-in-Exit-clause-ok
returns-in-Exit-clause-ok c = followed c.args.code.now c.args.at c.args.state.now c.args.state.now c.args.area.now c.settled-in-Exit.new.area c.args.instruction.now instruction.Exit c.in-Exit.is (Some answer.Exit) c.settled-in-Exit.result c.settled-in-Exit.ensures.answers (λ a cs ts. (ts, refl))

pub returns-in_err-put-in-Int-clause-err : goal.returns-in_err-put-in-Int-clause-err
returns-in_err-put-in-Int-clause-err c = still_err c.from_residual.result c.args.state.now c.put.new.self c.args.area.now c.in_err-put-in-Int.ensures.err

pub returns-in_err-put-in-Bool-clause-err : goal.returns-in_err-put-in-Bool-clause-err
returns-in_err-put-in-Bool-clause-err c = still_err c.from_residual-in_err-put-in-Bool.result c.args.state.now c.put-in-Bool.new.self c.args.area.now c.in_err-put-in-Bool.ensures.err

pub returns-in_err-put-in-Null-clause-err : goal.returns-in_err-put-in-Null-clause-err
returns-in_err-put-in-Null-clause-err c = still_err c.from_residual-in_err-put-in-Null.result c.args.state.now c.put-in-Null.new.self c.args.area.now c.in_err-put-in-Null.ensures.err

pub returns-in_err-load-in-Load-clause-err : goal.returns-in_err-load-in-Load-clause-err
returns-in_err-load-in-Load-clause-err c = still_err c.from_residual-in_err-load-in-Load.result c.args.state.now c.load.new.self c.args.area.now c.in_err-load-in-Load.ensures.err

pub returns-in_err-make-in-Make-clause-err : goal.returns-in_err-make-in-Make-clause-err
returns-in_err-make-in-Make-clause-err c = still_err c.from_residual-in_err-make-in-Make.result c.args.state.now c.make.new.self c.args.area.now c.in_err-make-in-Make.ensures.err

pub returns-in_err-did-in-Call-clause-err : goal.returns-in_err-did-in-Call-clause-err
returns-in_err-did-in-Call-clause-err c = still_err c.from_residual-in_err-did-in-Call.result c.args.state.now c.call.new.self c.args.area.now c.in_err-did-in-Call.ensures.err
