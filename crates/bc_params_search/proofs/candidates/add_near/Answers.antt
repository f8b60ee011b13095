use Rattle.std.proofs.Common.{arith}
use Rattle.bc_params_search.proofs.Near.{those_more, those_near}
use Rattle.bc_params_search.proofs.candidates.add_near.Goals as goal

pub loop-binding-preserved : goal.loop-binding-preserved
loop-binding-preserved c = record {
  kept = λ x h. c.add_bound.ensures.kept x (c.loop-binding.invariant.kept x h);
  near = those_more c.args.tags.now.bound c.instances_of-binding-items.result.now c.objects_of.result.now c.args.tag_type c.loop-binding.binding-index c.loop-binding.chosen.members c.add_bound.new.chosen.members
      (omega (arith, c.loop-binding-test.true)) c.loop-binding.invariant.near c.add_bound.ensures.kept c.objects_of.ensures.members c.in_ok-add_bound.ensures.added;
}

pub returns-clause-near : goal.returns-clause-near
returns-clause-near c =
    those_near c.args.tags.now.bound c.instances_of-binding-items.result.now c.args.object c.args.tag_type c.loop-binding.binding-index c.loop-binding.chosen.members
    c.instances_of-binding-items.ensures.members (omega (arith, c.loop-binding-test.false)) c.loop-binding.invariant.near
