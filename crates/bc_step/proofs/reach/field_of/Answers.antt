use Rattle.std.proofs.Common.{refl, sym}
use Rattle.std.specs.Prelude.{slice_get}
use Rattle.bc_mean.specs.Work.{known, reach}
use Rattle.bc_step.specs.Area.{reads_of}
use Rattle.bc_step.specs.Parts.{reached_at}
use Rattle.bc_step.specs.declared.answer.Halt.TheVariants as halt
use Rattle.bc_step.proofs.Parts.{does_then, halts_first, halts_then, known_does, unknown_halts}
use Rattle.bc_step.proofs.reach.field_of.Goals as goal

pub returns-in-Err-clause-err : goal.returns-in-Err-clause-err
returns-in-Err-clause-err c =
    halts_first c.args.area.now c.in-Err.halt (λ w. reach (reads_of c.args.area.now).look c.args.at c.args.x w) (λ o v. known (slice_get o.body.cells c.args.field) v) c.in-Err.ensures.err

pub returns-in-None-clause-err : goal.returns-in-None-clause-err
returns-in-None-clause-err c =
    let a = c.args.area.now in
    let r = reached_at c.in-Ok.field-0-0 c.in-Ok.body.now in
    halts_then a a r halt.Wrong (λ w. reach (reads_of a).look c.args.at c.args.x w) (λ o v. known (slice_get o.body.cells c.args.field) v) c.in-Ok.ensures.ok (unknown_halts a halt.Wrong _ refl (sym c.in-None.ensures))

pub returns-in-Some-clause-ok : goal.returns-in-Some-clause-ok
returns-in-Some-clause-ok c =
    let a = c.args.area.now in
    let r = reached_at c.in-Ok.field-0-0 c.in-Ok.body.now in
    does_then a a a r _ (λ w. reach (reads_of a).look c.args.at c.args.x w) (λ o v. known (slice_get o.body.cells c.args.field) v) c.in-Ok.ensures.ok (known_does a _ _ (sym c.in-Some.ensures))
