use Rattle.std.proofs.Common.{ap, rules, sym, ◌∙◌}
use Rattle.bc_mean.specs.Serial.{Failed}
use Rattle.bc_failed.proofs.Touched.{counts_added}
use Rattle.bc_failed.proofs.failures.Failures.add.Goals as goal

pub invariant_of-self : goal.invariant_of-self
invariant_of-self c =
    (search rules, counts_added c.self.inside.named c.add.new.self c.self.inside.items.items _ c.new.result c.as_slice.result.now c.self.invariant.1 c.push_in.ensures.items (c.as_slice.ensures ∙ ap (λ (f : Failed). f.touched) (sym c.new.ensures)) c.add.ensures)
