use Rattle.std.proofs.Common.{◌∙◌, ap}
use Rattle.bc_step.specs.Held.{HeldParts}
use Rattle.bc_step.proofs.Changed.{if_ok, written_changes}
use Rattle.bc_step.proofs.held.Holdings.written.Goals as goal

pub returns : goal.returns
returns c = if_ok c.written_of.result _ _ c.written_of.ensures (λ l e S w agrees copies.
    written_changes S w c.self.inside.ids.keys c.self.inside.given.items c.args.self.now.held c.in_ok-numbers.numbers.items c.sort.new.self.items c.as_slice-2.result.now l
    c.self.invariant.1 c.self.invariant.0 (ap (λ (h : HeldParts). h.held) c.self.view_is) agrees copies
    c.as_slice.ensures.unique (c.in_ok-numbers.ensures.items ∙ c.as_slice.ensures.keys) c.in_ok-sort.ensures.permutation c.in_ok-sort.ensures.sorted c.as_slice-2.ensures.value e)
