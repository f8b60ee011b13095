use Rattle.std.proofs.Common.{ap, sym, ◌∙◌}
use Rattle.bc_data.specs.declared.run.Outcome.{Outcome}
use Rattle.bc_mean_tests.proofs.serial.end.Goals as goal

pub commit-requires-clause-fits : goal.commit-requires-clause-fits
commit-requires-clause-fits c =
    c.keeps_fit.ensures c.args.program.now c.args.course.now.store c.args.v c.in-Commit.changes c.is_well_typed.ensures c.requires.fits
    c.requires.enabled (sym (ap (λ (o : Outcome). o.ran) c.requires.out) ∙ c.in-Commit.is)
