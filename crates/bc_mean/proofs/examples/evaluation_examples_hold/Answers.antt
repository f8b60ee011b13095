use Rattle.bc_mean.proofs.ExampleEvaluation.{numbers_hold, order_holds, objects_hold, calls_hold, loops_hold, new_holds, constructors_hold, actions_hold, prints_hold}
use Rattle.bc_mean.proofs.examples.evaluation_examples_hold.Goals as goal

pub returns : goal.returns
returns c = record {
  numbers = numbers_hold;
  order = order_holds;
  objects = objects_hold;
  calls = calls_hold;
  loops = loops_hold;
  new = new_holds;
  constructors = constructors_hold;
  actions = actions_hold;
  prints = prints_hold;
}
