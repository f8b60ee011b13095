use Rattle.std.proofs.Common.{◌≡◌, ◌+◌, ◌≤◌, ◌<◌, length, ◌-◌, ◌*◌}
use Rattle.bc_data.specs.Seen.{seen}
use Rattle.bc_data.specs.View.{view_guard}
use Rattle.bc_law_grammar.specs.Machine.{Stack, WantFlag, AfterFlag, levels, FlagRoom, run}
use Rattle.bc_parse.specs.Guards.{IsGuardMeasured}
use Rattle.bc_parse.proofs.guard.+guard.Given as goal

abbrev pub decreases-guard : goal.decreases-guard
decreases-guard l = (64 - l.base) * 8 + 3

abbrev pub decreases-with_join : goal.decreases-with_join
decreases-with_join l = (64 - l.base) * 8 + 1

abbrev pub decreases-single : goal.decreases-single
decreases-single l = (64 - l.base) * 8 + 2

abbrev pub decreases-negated : goal.decreases-negated
decreases-negated l = (64 - l.base) * 8 + 1

abbrev pub decreases-group : goal.decreases-group
decreases-group l = (64 - l.base) * 8 + 1

abbrev pub invariant-guard-loop-join : goal.invariant-guard-loop-join
invariant-guard-loop-join l = record {
  answers : (st : Stack) → levels st ≡ l.base → FlagRoom l.loosest st →
      run 64 (WantFlag st) (seen l.text l.tokens) ≡ run 64 (AfterFlag (view_guard l.left.tree) st) (seen l.text l.left.rest.now);
  height : IsGuardMeasured l.base l.left.height (view_guard l.left.tree);
  shorter : length l.left.rest.now < length l.tokens;
}

abbrev pub decreases-guard-loop-join : goal.decreases-guard-loop-join
decreases-guard-loop-join l = length l.left.rest.now
