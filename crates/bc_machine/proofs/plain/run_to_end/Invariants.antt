use Rattle.std.proofs.Common.{◌≡◌, ◌≤◌, length}
use Rattle.bc_data.specs.Typed.{TypedProgram}
use Rattle.bc_machine.specs.Running.{IsRunning}
use Rattle.bc_machine.proofs.plain.run_to_end.Given as goal

-- Each turn gave another body of the store.
abbrev pub invariant-loop : goal.invariant-loop
invariant-loop l = record {
  invocation : l.machine.area.invocation ≡ l.fn.machine.area.invocation;
  running : (P : TypedProgram) → IsRunning P l.store l.code l.fn.machine → IsRunning P l.store l.code l.machine;
  given : l.counter ≤ length l.machine.area.held;
  few : l.counter ≤ length l.store.bodies;
}
