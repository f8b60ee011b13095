use Rattle.std.proofs.Common.{Some, sym, ap, subst, ◌∙◌}
use Rattle.bc_data.specs.declared.run.Invocation.{Invocation}
use Rattle.bc_mean.specs.Enabled.{IsEnabled}
use Rattle.bc_step.specs.Area.{AreaParts}
use Rattle.bc_machine.specs.Running.{AreBodiesOf, IsRunOf}
use Rattle.bc_machine.specs.Whole.{ComesTo}
use Rattle.bc_book_events.specs.declared.answers.Taken.TheVariants as taken
use Rattle.bc_book_events.specs.Book.{BookState, held_by}
use Rattle.bc_book_events.specs.Turns.{runs_taken}
use Rattle.bc_serial.proofs.Machines.{are_bodies, is_run, ready, unchanged}
use Rattle.bc_serial.proofs.Results.{on_err_from, on_err_more, on_ok_more}
use Rattle.bc_serial.proofs.turn.run_taken.Goals as goal

pub unreachable-requires : goal.unreachable-requires
unreachable-requires g c =
    let is = ready c.args.book.now c.args.v c.requires.enabled c.requires.holds c.in_ok-bodies.field-0 c.in_ok-bodies.ensures.answer in
    let stale = c.in_default.is in
    cc

pub run_over-requires-clause-run : goal.run_over-requires-clause-run
run_over-requires-clause-run g c =
    let same = unchanged c.args.book.now c.args.v c.requires.enabled c.requires.holds c.begin.new.self c.in_ok-bodies.ensures.book in
    subst (λ (d : BookState). IsRunOf d.program d.store c.args.code.now c.args.v) (sym same)
    (is_run c.args.book.now c.args.v c.requires.enabled c.args.code.now c.is_sound.ensures c.requires.code)

pub run_over-requires-clause-bodies : goal.run_over-requires-clause-bodies
run_over-requires-clause-bodies g c =
    let same = unchanged c.args.book.now c.args.v c.requires.enabled c.requires.holds c.begin.new.self c.in_ok-bodies.ensures.book in
    let is = ready c.args.book.now c.args.v c.requires.enabled c.requires.holds c.in_ok-bodies.field-0 c.in_ok-bodies.ensures.answer in
    subst (λ (d : BookState). AreBodiesOf d.store c.args.v.objects c.in-Ready.bodies) (sym same)
    (are_bodies c.args.book.now c.args.v c.requires.enabled c.in-Ready.bodies (sym c.in-Ready.is ∙ is))

pub returns-in_err-ended-clause-err : goal.returns-in_err-ended-clause-err
returns-in_err-ended-clause-err g c =
    on_err_from _ _ (unchanged c.args.book.now c.args.v c.requires.enabled c.requires.holds c.begin.new.self c.in_ok-bodies.ensures.book)

pub end_run-requires-clause-holds : goal.end_run-requires-clause-holds
end_run-requires-clause-holds g c =
    let same = unchanged c.args.book.now c.args.v c.requires.enabled c.requires.holds c.begin.new.self c.in_ok-bodies.ensures.book in
    ap (λ (d : BookState). held_by d.running 0) same
    ∙ c.requires.holds
    ∙ ap (λ (w : Invocation). Some w) (sym c.in_ok-ended.ensures.invocation)
    ∙ ap (λ (a : AreaParts). Some a.invocation) (sym c.area_mut.ensures.value)

pub end_run-requires-clause-enabled : goal.end_run-requires-clause-enabled
end_run-requires-clause-enabled g c =
    let same = unchanged c.args.book.now c.args.v c.requires.enabled c.requires.holds c.begin.new.self c.in_ok-bodies.ensures.book in
    let d = c.begin.new.self in
    subst (λ (a : AreaParts). IsEnabled d.program d.store a.invocation) (sym c.area_mut.ensures.value)
    (subst (IsEnabled d.program d.store) (sym c.in_ok-ended.ensures.invocation)
    (subst (λ (b : BookState). IsEnabled b.program b.store c.args.v) (sym same) c.requires.enabled))

pub end_run-requires-clause-comes : goal.end_run-requires-clause-comes
end_run-requires-clause-comes g c =
    let d = c.begin.new.self in
    let ended = c.in_ok-ended.ended in
    let area = c.run_over.new.machine.area in
    subst (λ (a : AreaParts). ComesTo d.program d.store a.invocation ended a) (sym c.area_mut.ensures.value)
    (subst (λ (w : Invocation). ComesTo d.program d.store w ended area) (sym c.in_ok-ended.ensures.invocation) c.in_ok-ended.ensures)

pub returns-clause-ok : goal.returns-clause-ok
returns-clause-ok g c =
    let same = unchanged c.args.book.now c.args.v c.requires.enabled c.requires.holds c.begin.new.self c.in_ok-bodies.ensures.book in
    on_ok_more c.end_run.result _ _
    (λ e.
    e
    ∙ ap (λ (a : AreaParts). runs_taken (taken.Got a.invocation) 0 c.begin.new.self) c.area_mut.ensures.value
    ∙ ap (λ (w : Invocation). runs_taken (taken.Got w) 0 c.begin.new.self) c.in_ok-ended.ensures.invocation
    ∙ ap (runs_taken (taken.Got c.args.v) 0) same)
    c.end_run.ensures.ok

pub returns-clause-err : goal.returns-clause-err
returns-clause-err g c =
    let same = unchanged c.args.book.now c.args.v c.requires.enabled c.requires.holds c.begin.new.self c.in_ok-bodies.ensures.book in
    on_err_more c.end_run.result _ _ (λ e. e ∙ same) c.end_run.ensures.err
