use Rattle.std.proofs.Common.{sym, ◌∙◌, subst}
use Rattle.bc_data.specs.Typed.{TypedProgram}
use Rattle.bc_code.specs.Translation.{Translates}
use Rattle.bc_book_events.specs.declared.answers.Taken.TheVariants as taken
use Rattle.bc_serial.specs.Run.{HasTaken}
use Rattle.bc_serial.proofs.Results.{on_err_more, on_ok_more}
use Rattle.bc_serial.proofs.Taking.{has_taken, same_program, taken_enabled, taken_held, took, turn_is, turn_over}
use Rattle.bc_serial.proofs.turn.turn.Goals as goal

pub returns-in_default-clause-ok : goal.returns-in_default-clause-ok
returns-in_default-clause-ok g c =
    let b = c.args.book.now in
    sym (turn_over b c.take.new.self c.take.result c.in_default.not-Got (took b c.is_sound.ensures c.all.result c.all.ensures c.take.result c.take.new.self c.take.ensures.answer c.take.ensures.book))

pub run_taken-requires-clause-code : goal.run_taken-requires-clause-code
run_taken-requires-clause-code g c =
    let b = c.args.book.now in
    let t = took b c.is_sound.ensures c.all.result c.all.ensures (taken.Got c.in-Got.v) c.take.new.self c.in-Got.ensures.answer c.in-Got.ensures.book in
    subst (λ (P : TypedProgram). Translates P c.args.code.now) (sym (same_program b c.take.new.self c.in-Got.v t)) c.requires.code

pub run_taken-requires-clause-holds : goal.run_taken-requires-clause-holds
run_taken-requires-clause-holds g c =
    let b = c.args.book.now in
    let t = took b c.is_sound.ensures c.all.result c.all.ensures (taken.Got c.in-Got.v) c.take.new.self c.in-Got.ensures.answer c.in-Got.ensures.book in
    taken_held b c.take.new.self c.in-Got.v t c.requires.worker

pub run_taken-requires-clause-enabled : goal.run_taken-requires-clause-enabled
run_taken-requires-clause-enabled g c =
    let b = c.args.book.now in
    let t = took b c.is_sound.ensures c.all.result c.all.ensures (taken.Got c.in-Got.v) c.take.new.self c.in-Got.ensures.answer c.in-Got.ensures.book in
    taken_enabled b c.take.new.self c.in-Got.v t c.is_sound.ensures

pub returns-clause-ok : goal.returns-clause-ok
returns-clause-ok g c =
    let b = c.args.book.now in
    let t = took b c.is_sound.ensures c.all.result c.all.ensures (taken.Got c.in-Got.v) c.take.new.self c.in-Got.ensures.answer c.in-Got.ensures.book in
    on_ok_more c.run_taken.result _ _ (λ e. e ∙ sym (turn_is b c.take.new.self c.in-Got.v t)) c.run_taken.ensures.ok

pub returns-clause-err : goal.returns-clause-err
returns-clause-err g c =
    let b = c.args.book.now in
    let t = took b c.is_sound.ensures c.all.result c.all.ensures (taken.Got c.in-Got.v) c.take.new.self c.in-Got.ensures.answer c.in-Got.ensures.book in
    on_err_more c.run_taken.result _ _ (λ e. subst (HasTaken b) (sym e) (has_taken b c.take.new.self c.in-Got.v t)) c.run_taken.ensures.err
