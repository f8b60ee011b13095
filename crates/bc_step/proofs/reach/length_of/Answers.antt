use Rattle.std.proofs.Common.{length, ap, sym}
use Rattle.std.specs.Prelude.{pos}
use Rattle.bc_data.specs.declared.run.Value.TheVariants as value
use Rattle.bc_mean.specs.Work.{Gives, reach}
use Rattle.bc_step.specs.Area.{reads_of}
use Rattle.bc_step.specs.Parts.{reached_at}
use Rattle.bc_step.proofs.Parts.{any_does, does_then}
use Rattle.bc_step.proofs.reach.length_of.Goals as goal

pub returns-in-Ok-clause-ok : goal.returns-in-Ok-clause-ok
returns-in-Ok-clause-ok c =
    let a = c.args.area.now in
    let r = reached_at c.in-Ok.field-0-0 c.in-Ok.body.now in
    does_then
    a
    a
    a
    r
    _
    (λ w. reach (reads_of a).look c.args.at c.args.x w)
    (λ o v. Gives (value.Int (pos (length o.body.cells))) v)
    c.in-Ok.ensures.ok
    (any_does a _ _ (λ w. ap (λ n. Gives (value.Int (pos n)) w) (sym c.len.ensures)))
