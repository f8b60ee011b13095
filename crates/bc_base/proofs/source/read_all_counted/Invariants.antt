use Rattle.std.proofs.Common.{◌≡◌, ◌+◌, ◌≤◌, ◌-◌, length}
use Rattle.bc_base.specs.Outside.{Consumes}
use Rattle.bc_base.proofs.source.read_all_counted.Given as goal

abbrev pub invariant-loop-content : goal.invariant-loop-content
invariant-loop-content g l = record {
  within : length l.content ≤ l.limit;
  taken : Consumes (g.S.Source.left l.initial.source) (g.S.Source.left l.source) l.content;
  steady : g.S.Source.faults l.source ≡ g.S.Source.faults l.initial.source;
  turns : l.steps ≤ l.initial.steps + length l.content;
}

abbrev pub decreases-loop-content : goal.decreases-loop-content
decreases-loop-content g l = l.limit - length l.content
