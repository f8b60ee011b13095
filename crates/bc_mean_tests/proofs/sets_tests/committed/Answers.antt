use Rattle.std.proofs.Common.{ap, sym, ◌∙◌}
use Rattle.bc_data.specs.declared.run.Outcome.{Outcome}
use Rattle.bc_mean_tests.proofs.sets_tests.committed.Goals as goal

pub changed-requires-clause-can : goal.changed-requires-clause-can
changed-requires-clause-can c =
    c.commits_can_be_published.ensures c.args.program.now c.args.stores.plain c.args.v c.in-Commit.changes c.is_well_typed.ensures c.requires.fits
    c.requires.enabled (sym (ap (λ (o : Outcome). o.ran) c.requires.out) ∙ c.in-Commit.is)
