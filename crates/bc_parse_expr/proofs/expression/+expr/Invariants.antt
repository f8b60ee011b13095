use Rattle.std.proofs.Common.{◌≡◌, ◌+◌, ◌≤◌, ◌<◌, length, ◌-◌, ◌*◌}
use Rattle.bc_data.specs.Seen.{seen}
use Rattle.bc_data.specs.SourceTree.{Expressions, NoArg, tallest}
use Rattle.bc_data.specs.View.{view, views}
use Rattle.bc_law_grammar.specs.Machine.{State, Stack, Want, Got, After, InArgs, levels, args_row, Room, NoCall, Unbracketed, run, kind_at}
use Rattle.bc_parse_expr.specs.Contract.{IsMeasured, ChainIs}
use Rattle.bc_parse_expr.proofs.expression.+expr.Given as goal

abbrev pub decreases-inside : goal.decreases-inside
decreases-inside l = (64 - l.base) * 8 + 0

abbrev pub decreases-arguments : goal.decreases-arguments
decreases-arguments l = (64 - l.base) * 8 + 0

abbrev pub decreases-with_operator : goal.decreases-with_operator
decreases-with_operator l = (64 - l.base) * 8 + 1

abbrev pub decreases-prefix : goal.decreases-prefix
decreases-prefix l = (64 - l.base) * 8 + 1

abbrev pub decreases-group : goal.decreases-group
decreases-group l = (64 - l.base) * 8 + 1

abbrev pub decreases-element : goal.decreases-element
decreases-element l = (64 - l.base) * 8 + 1

abbrev pub decreases-field : goal.decreases-field
decreases-field l = (64 - l.base) * 8 + 1

abbrev pub decreases-dot_link : goal.decreases-dot_link
decreases-dot_link l = (64 - l.base) * 8 + 2

abbrev pub decreases-array : goal.decreases-array
decreases-array l = (64 - l.base) * 8 + 1

abbrev pub decreases-object : goal.decreases-object
decreases-object l = (64 - l.base) * 8 + 1

abbrev pub decreases-made : goal.decreases-made
decreases-made l = (64 - l.base) * 8 + 2

abbrev pub decreases-links : goal.decreases-links
decreases-links l = (64 - l.base) * 8 + 3

abbrev pub decreases-primary : goal.decreases-primary
decreases-primary l = (64 - l.base) * 8 + 3

abbrev pub decreases-unary : goal.decreases-unary
decreases-unary l = (64 - l.base) * 8 + 4

abbrev pub decreases-binary : goal.decreases-binary
decreases-binary l = (64 - l.base) * 8 + 5

abbrev pub invariant-arguments-loop-read : goal.invariant-arguments-loop-read
invariant-arguments-loop-read l = record {
  answers : (st : Stack) (onward : Expressions → State) → levels st ≡ l.base →
      run 64 (args_row onward st) (seen l.text l.tokens) ≡ run 64 (Want (InArgs (views l.read.list.items NoArg) onward st)) (seen l.text l.read.rest.now);
  height : (l.read.height ≡ tallest (views l.read.list.items NoArg)) × (l.read.height + l.base + 1 ≤ 64);
  shorter : length l.read.rest.now ≤ length l.tokens;
}

abbrev pub decreases-arguments-loop-read : goal.decreases-arguments-loop-read
decreases-arguments-loop-read l = length l.read.rest.now

abbrev pub invariant-binary-loop-op : goal.invariant-binary-loop-op
invariant-binary-loop-op l = record {
  answers : (st : Stack) → levels st ≡ l.base → Room l.loosest st →
      run 64 (Want st) (seen l.text l.tokens) ≡ run 64 (After (view l.left.tree) st) (seen l.text l.left.rest.now);
  height : IsMeasured l.base l.left.height (view l.left.tree);
  shorter : length l.left.rest.now < length l.tokens;
}

abbrev pub decreases-binary-loop-op : goal.decreases-binary-loop-op
decreases-binary-loop-op l = length l.left.rest.now

abbrev pub invariant-links-loop-left : goal.invariant-links-loop-left
invariant-links-loop-left l = record {
  answers : (st : Stack) → levels st ≡ l.base → ChainIs l.chain st → Unbracketed (kind_at (seen l.text l.fn.start.rest.now)) (view l.fn.start.tree) st →
      (run 64 (Got (view l.fn.start.tree) st) (seen l.text l.fn.start.rest.now) ≡ run 64 (Got (view l.left.tree) st) (seen l.text l.left.rest.now)) × Unbracketed (kind_at (seen l.text l.left.rest.now)) (view l.left.tree) st;
  whole : NoCall (kind_at (seen l.text l.left.rest.now)) (view l.left.tree);
  height : IsMeasured l.base l.left.height (view l.left.tree);
  shorter : length l.left.rest.now ≤ length l.fn.start.rest.now;
}

abbrev pub decreases-links-loop-left : goal.decreases-links-loop-left
decreases-links-loop-left l = length l.left.rest.now
