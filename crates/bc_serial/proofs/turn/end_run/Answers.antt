use Rattle.std.proofs.Common.{subst, ◌∙◌}
use Rattle.bc_machine.specs.declared.machine.Ended.{Ended}
use Rattle.bc_machine.specs.Whole.{ComesTo}
use Rattle.bc_serial.proofs.Results.{on_err_from}
use Rattle.bc_serial.proofs.Ending.{commits_end, fails_end, was_enabled}
use Rattle.bc_serial.proofs.turn.end_run.Goals as goal

pub commit-requires-clause-was : goal.commit-requires-clause-was
commit-requires-clause-was g c = was_enabled c.args.book.now c.args.area.now.invocation c.args.area.now c.args.ended c.requires.enabled c.requires.comes

pub returns-in_err-commit-in-Commit-clause-err : goal.returns-in_err-commit-in-Commit-clause-err
returns-in_err-commit-in-Commit-clause-err g c = on_err_from _ _ c.in_err-commit-in-Commit.ensures.err

pub fail-requires-clause-was : goal.fail-requires-clause-was
fail-requires-clause-was g c = was_enabled c.args.book.now c.args.area.now.invocation c.args.area.now c.args.ended c.requires.enabled c.requires.comes

pub returns-in_err-fail-in-Faulted-clause-err : goal.returns-in_err-fail-in-Faulted-clause-err
returns-in_err-fail-in-Faulted-clause-err g c = on_err_from _ _ c.in_err-fail-in-Faulted.ensures.err

pub returns-in_ok-commit-in-Commit-clause-ok : goal.returns-in_ok-commit-in-Commit-clause-ok
returns-in_ok-commit-in-Commit-clause-ok g c =
    let b = c.args.book.now in
    let a = c.args.area.now in
    c.in_ok-commit-in-Commit.ensures.book
    ∙ commits_end b a.invocation a (subst (λ (e : Ended). ComesTo b.program b.store a.invocation e a) c.in-Commit.is c.requires.comes)

pub returns-in_ok-fail-in-Faulted-clause-ok : goal.returns-in_ok-fail-in-Faulted-clause-ok
returns-in_ok-fail-in-Faulted-clause-ok g c =
    let b = c.args.book.now in
    let a = c.args.area.now in
    c.in_ok-fail-in-Faulted.ensures.book
    ∙ fails_end b a.invocation a c.in-Faulted.fault (subst (λ (e : Ended). ComesTo b.program b.store a.invocation e a) c.in-Faulted.is c.requires.comes)
