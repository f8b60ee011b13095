use Rattle.std.proofs.Common.{◌≤◌, ◌+◌, ◌*◌, ◌-◌, length, take}
use Rattle.bc_params_search.specs.Search.{Adds, by_objects}
use Rattle.bc_params_search.proofs.search.Search.+objects.Given as goal

abbrev pub decreases-add_objects : goal.decreases-add_objects
decreases-add_objects l = 2 * (length l.self.now.task.places - length l.front) + 1

abbrev pub decreases-add_each : goal.decreases-add_each
decreases-add_each l = 2 * (length l.self.now.task.places - length l.front)

-- those of the objects so far
abbrev pub invariant-add_each-loop-object : goal.invariant-add_each-loop-object
invariant-add_each-loop-object l = record {
  short : length l.found ≤ l.self.most;
  found : Adds l.self (by_objects l.self l.front (take l.object-index l.candidates)) l.fn.found l.found;
}
