use Rattle.std.proofs.Common.{◌≤◌, ◌-◌, length, take}
use Rattle.bc_params_search.specs.Search.{Adds, by_instances}
use Rattle.bc_params_search.proofs.search.Search.+add_instances.Given as goal

abbrev pub decreases-add_instances : goal.decreases-add_instances
decreases-add_instances l = length l.self.now.task.variables - length l.front

-- those of the instances so far
abbrev pub invariant-loop-binding : goal.invariant-loop-binding
invariant-loop-binding l = record {
  short : length l.found ≤ l.self.most;
  found : Adds l.self (by_instances l.self l.objects l.front (take l.binding-index l.binding-items)) l.fn.found l.found;
}
