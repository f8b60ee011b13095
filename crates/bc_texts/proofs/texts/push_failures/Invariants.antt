use Rattle.std.proofs.Common.{◌≡◌, ◌++◌, take}
use Rattle.std.specs.List.{flat_map}
use Rattle.bc_texts.specs.Texts.{failure_line}
use Rattle.bc_texts.proofs.texts.push_failures.Given as goal

abbrev pub invariant-loop-failure : goal.invariant-loop-failure
invariant-loop-failure l = l.text ≡ l.initial.text ++ flat_map (failure_line l.program) (take l.failure-index l.failures)
