use Rattle.std.proofs.Common.{◌≡◌, ◌∙◌, ◌<◌, ap, sym, subst, length, take, arith}
use Rattle.std.proofs.lemmas.List.{take_all}
use Rattle.std.proofs.lemmas.Result.{err_from_is_err_and}
use Rattle.bc_data.specs.SourceTree as source
use Rattle.bc_data.specs.View.{onto_by, stat_views, view_change, view_item, view_stat}
use Rattle.bc_types_rules.specs.Got.{Gives}
use Rattle.bc_types_rules.specs.Statements.{state}
use Rattle.bc_data.specs.Typed as typed
use Rattle.bc_data.specs.ProgramView.{program_stat_views, view_program_stat}
use Rattle.bc_names.specs.Answers.{Answers, Stops}
use Rattle.bc_types_expr.specs.Contexts.{context_of}
use Rattle.bc_types_expr.specs.Expressions.{typed_seen}
use Rattle.bc_types_stat.specs.Bodies.{all_stated, block_of, stated, tested}
use Rattle.bc_types_stat.proofs.Blocks.{all_of, all_on, block_ends, block_fails}
use Rattle.bc_types_stat.proofs.Exits.{block_answers, block_stops, else_answers, else_stops, if_answers, if_stops, while_answers, while_stops}
use Rattle.bc_types_stat.proofs.statements.+statements.Goals as goal

pub block-returns-in_err-code : goal.block-returns-in_err-code
block-returns-in_err-code t c =
    let xs = c.args.body.now in
    let i = c.loop-s.s-index in
    let within : i < length xs = omega arith in
    let p = err_from_is_err_and c.from_residual.result c.from_residual.ensures.1 in
    rw (p.1, p.2) (block_fails c.in_err-code.field-0.0 (context_of c.args.inside.now) c.args.scope.now c.loop-s.scope _ xs i c.s-item.result within c.s-item.is c.loop-s.invariant c.in_err-code.ensures)

pub block-loop-s-preserved : goal.block-loop-s-preserved
block-loop-s-preserved t c =
    let xs = c.args.body.now in
    let i = c.loop-s.s-index in
    let within : i < length xs = omega arith in
    all_on (context_of c.args.inside.now) c.args.scope.now c.loop-s.scope c.statement.new.scope c.loop-s.codes.items _ c.in_ok-code.code xs i c.s-item.result within c.s-item.is c.loop-s.invariant c.in_ok-code.ensures c.in_ok-push.ensures.items

pub block-returns : goal.block-returns
block-returns t c =
    let xs = c.args.body.now in
    let G = context_of c.args.inside.now in
    let whole : take c.loop-s.s-index xs ≡ xs = take_all c.loop-s.s-index xs c.loop-s-test.false in
    let made = program_stat_views c.loop-s.codes.items typed.Nothing in
    let e : all_of G c.args.scope.now xs ≡ Gives (all_stated made c.loop-s.scope) = sym (ap (all_of G c.args.scope.now) whole) ∙ c.loop-s.invariant in
    block_ends G c.args.scope.now c.loop-s.scope (stat_views xs source.Nothing) made c.len-before.result c.len-before.ensures e
    ∙ ap (λ s. Gives (all_stated made s)) (sym c.end_block.ensures)

pub statement-returns-in_err-codes-in-Block : goal.statement-returns-in_err-codes-in-Block
statement-returns-in_err-codes-in-Block t c =
    let G = context_of c.args.inside.now in
    let s = c.args.scope.now in
    let w = c.in-Block in
    let f = subst (λ ss. Stops c.in_err-codes-in-Block.field-0.0 (block_of G s (stat_views ss source.Nothing))) c.as_slice.ensures.value c.in_err-codes-in-Block.ensures in
    let p = err_from_is_err_and c.from_residual.result c.from_residual.ensures.1 in
    rw (p.1, p.2) (block_stops G s _ _ w.field-0 w.body w.is f)

pub statement-returns-in_err-codes-in-If : goal.statement-returns-in_err-codes-in-If
statement-returns-in_err-codes-in-If t c =
    let G = context_of c.args.inside.now in
    let s = c.args.scope.now in
    let w = c.in-If in
    let f = subst (λ ss. Stops c.in_err-codes-in-If.field-0.0 (block_of G s (stat_views ss source.Nothing))) c.as_slice-in-If.ensures.value c.in_err-codes-in-If.ensures in
    let p = err_from_is_err_and c.from_residual-in_err-codes-in-If.result c.from_residual-in_err-codes-in-If.ensures.1 in
    rw (p.1, p.2) (if_stops G s _ _ w.field-0 w.test w.body w.other (typed_seen c.in_ok-condition-in-If.condition) w.is c.in_ok-condition-in-If.ensures f)

pub statement-returns-in_err-codes-in-While : goal.statement-returns-in_err-codes-in-While
statement-returns-in_err-codes-in-While t c =
    let G = context_of c.args.inside.now in
    let s = c.args.scope.now in
    let w = c.in-While in
    let f = subst (λ ss. Stops c.in_err-codes-in-While.field-0.0 (block_of G s (stat_views ss source.Nothing))) c.as_slice-in-While.ensures.value c.in_err-codes-in-While.ensures in
    let p = err_from_is_err_and c.from_residual-in_err-codes-in-While.result c.from_residual-in_err-codes-in-While.ensures.1 in
    rw (p.1, p.2) (while_stops G s _ _ w.at w.test w.body (typed_seen c.in_ok-condition-in-While.condition) w.is c.in_ok-condition-in-While.ensures f)

pub statement-returns-in_err-other_codes-in-Some : goal.statement-returns-in_err-other_codes-in-Some
statement-returns-in_err-other_codes-in-Some t c =
    let G = context_of c.args.inside.now in
    let s = c.args.scope.now in
    let w = c.in-If in
    let xs = all_stated (program_stat_views c.in_ok-codes-in-If.codes.items typed.Nothing) c.block-in-If.new.scope in
    let x = subst (λ ss. block_of G s (stat_views ss source.Nothing) ≡ Gives xs) c.as_slice-in-If.ensures.value c.in_ok-codes-in-If.ensures in
    let f = subst (λ ss. Stops c.in_err-other_codes-in-Some.field-0.0 (block_of G xs.scope (stat_views ss source.Nothing))) c.as_slice-in-Some.ensures.value c.in_err-other_codes-in-Some.ensures in
    let p = err_from_is_err_and c.from_residual-in_err-other_codes-in-Some.result c.from_residual-in_err-other_codes-in-Some.ensures.1 in
    rw (p.1, p.2) (else_stops G s _ _ w.field-0 w.test w.body w.other c.in-Some.other (typed_seen c.in_ok-condition-in-If.condition) xs w.is c.in-Some.is c.in_ok-condition-in-If.ensures x f)

pub statement-returns-in_ok-codes-in-Block : goal.statement-returns-in_ok-codes-in-Block
statement-returns-in_ok-codes-in-Block t c =
    let G = context_of c.args.inside.now in
    let s = c.args.scope.now in
    let w = c.in-Block in
    let xs = all_stated (program_stat_views c.in_ok-codes-in-Block.codes.items typed.Nothing) c.block.new.scope in
    let x = subst (λ ss. block_of G s (stat_views ss source.Nothing) ≡ Gives xs) c.as_slice.ensures.value c.in_ok-codes-in-Block.ensures in
    block_answers G s _ w.field-0 w.body c.in_ok-codes-in-Block.codes c.block.new.scope w.is x

pub statement-returns-in-None : goal.statement-returns-in-None
statement-returns-in-None t c =
    let G = context_of c.args.inside.now in
    let s = c.args.scope.now in
    let w = c.in-If in
    let condition = typed_seen c.in_ok-condition-in-If.condition in
    let xs = all_stated (program_stat_views c.in_ok-codes-in-If.codes.items typed.Nothing) c.block-in-If.new.scope in
    let x = subst (λ ss. block_of G s (stat_views ss source.Nothing) ≡ Gives xs) c.as_slice-in-If.ensures.value c.in_ok-codes-in-If.ensures in
    let h = subst (λ ds. Answers c.tested_if.result view_program_stat (tested condition.type c.place_of.result (typed.If condition.code xs.codes (program_stat_views ds typed.Nothing)))) c.new.ensures.items c.tested_if.ensures in
    if_answers G s _ c.tested_if.result w.field-0 w.test w.body w.other condition xs c.place_of.result w.is c.in-None.is c.in_ok-condition-in-If.ensures x c.place_of.ensures h

pub statement-returns-in_ok-other_codes-in-Some : goal.statement-returns-in_ok-other_codes-in-Some
statement-returns-in_ok-other_codes-in-Some t c =
    let G = context_of c.args.inside.now in
    let s = c.args.scope.now in
    let w = c.in-If in
    let condition = typed_seen c.in_ok-condition-in-If.condition in
    let xs = all_stated (program_stat_views c.in_ok-codes-in-If.codes.items typed.Nothing) c.block-in-If.new.scope in
    let ys = all_stated (program_stat_views c.in_ok-other_codes-in-Some.other_codes.items typed.Nothing) c.block-in-Some.new.scope in
    let x = subst (λ ss. block_of G s (stat_views ss source.Nothing) ≡ Gives xs) c.as_slice-in-If.ensures.value c.in_ok-codes-in-If.ensures in
    let y = subst (λ ss. block_of G xs.scope (stat_views ss source.Nothing) ≡ Gives ys) c.as_slice-in-Some.ensures.value c.in_ok-other_codes-in-Some.ensures in
    else_answers G s _ c.tested_if-in-Some.result w.field-0 w.test w.body w.other c.in-Some.other condition xs ys c.place_of-in-Some.result w.is c.in-Some.is c.in_ok-condition-in-If.ensures x y c.place_of-in-Some.ensures c.tested_if-in-Some.ensures

pub statement-returns-in_ok-codes-in-While : goal.statement-returns-in_ok-codes-in-While
statement-returns-in_ok-codes-in-While t c =
    let G = context_of c.args.inside.now in
    let s = c.args.scope.now in
    let w = c.in-While in
    let condition = typed_seen c.in_ok-condition-in-While.condition in
    let xs = all_stated (program_stat_views c.in_ok-codes-in-While.codes.items typed.Nothing) c.block-in-While.new.scope in
    let x = subst (λ ss. block_of G s (stat_views ss source.Nothing) ≡ Gives xs) c.as_slice-in-While.ensures.value c.in_ok-codes-in-While.ensures in
    while_answers G s _ c.tested_while.result w.at w.test w.body condition xs c.place_of-in-While.result w.is c.in_ok-condition-in-While.ensures x c.place_of-in-While.ensures c.tested_while.ensures

pub statement-returns-in-Tag : goal.statement-returns-in-Tag
statement-returns-in-Tag t c =
    subst (λ v. Answers c.new_tag.result (λ d. stated (view_program_stat d) c.new_tag.new.scope) (state (context_of c.args.inside.now) c.args.scope.now (view_stat v))) (sym c.in-Tag.is) c.new_tag.ensures

pub statement-returns-in-Print : goal.statement-returns-in-Print
statement-returns-in-Print t c =
    let G = context_of c.args.inside.now in
    let s = c.args.scope.now in
    let w = c.in-Print in
    subst (λ v. Answers c.print.result (λ d. stated (view_program_stat d) s) (state G s (view_stat v))) (sym w.is)
    (subst (λ items. Answers c.print.result (λ d. stated (view_program_stat d) s) (state G s (source.Print w.at (onto_by view_item items source.Empty)))) c.as_slice-in-Print.ensures.value c.print.ensures)

pub statement-returns-in-Exit : goal.statement-returns-in-Exit
statement-returns-in-Exit t c =
    let G = context_of c.args.inside.now in
    let s = c.args.scope.now in
    let w = c.in-Exit in
    subst (λ v. Answers c.exit.result (λ d. stated (view_program_stat d) s) (state G s (view_stat v))) (sym w.is)
    (subst (λ changes. Answers c.exit.result (λ d. stated (view_program_stat d) s) (state G s (source.Exit w.at (onto_by view_change changes source.Empty)))) c.as_slice-in-Exit.ensures.value c.exit.ensures)
