use Rattle.std.proofs.Common.{ℕ, ◌+◌}
use Rattle.bc_code.specs.Instructions.{Did as Course}
use Rattle.bc_step.specs.Area.{reads_of}
use Rattle.bc_step.specs.State.{KeepsGiven}
use Rattle.bc_machine.specs.Course.{Reaches}
use Rattle.bc_machine.proofs.run.run_on.Given as goal

abbrev pub invariant-loop : goal.invariant-loop
invariant-loop l = record {
  kept : KeepsGiven l.fn.area l.area;
  reached : (from : Course) (k : ℕ) → Reaches (reads_of l.fn.area) l.code from k l.fn.state l.fn.area → Reaches (reads_of l.fn.area) l.code from (k + l.counter) l.state l.area;
}
