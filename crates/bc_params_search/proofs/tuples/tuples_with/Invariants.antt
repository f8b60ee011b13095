use Rattle.std.proofs.Common.{◌≤◌, length}
use Rattle.bc_params_search.proofs.NextTask.{Found}
use Rattle.bc_params_search.proofs.tuples.tuples_with.Given as goal

-- those of the tasks so far
abbrev pub invariant-loop-number : goal.invariant-loop-number
invariant-loop-number l = record {
  short : length l.found ≤ l.most;
  found : Found (record { tasks = l.tasks; bound = l.tags.bound }) l.id l.most l.number l.found;
}
