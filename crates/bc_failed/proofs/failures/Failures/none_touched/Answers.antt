use Rattle.std.proofs.Common.{ap, count_by, sym, ◌∙◌}
use Rattle.bc_tally.proofs.Counted.{none_is_named}
use Rattle.bc_failed.specs.Records.{Records, touches}
use Rattle.bc_failed.specs.Touched.{touched_in}
use Rattle.bc_failed.proofs.Touched.{none_counted}
use Rattle.bc_failed.proofs.failures.Failures.none_touched.Goals as goal

pub returns : goal.returns
returns c h =
    ap (λ (r : Records). count_by (touches c.args.id) r.failures) (sym c.self.view_is)
    ∙ none_counted c.args.id c.self.inside.items.items (none_is_named c.self.inside.named (touched_in c.self.inside.items.items) c.args.id c.self.invariant.1 (sym c.is_none.ensures ∙ h))
