use Rattle.std.proofs.Common.{◌+◌, ◌-◌, ◌<◌, ◌≤◌, length}
use Rattle.bc_data.specs.Lexical.{IsTextFrom, Piece}
use Rattle.bc_lex.proofs.scan.literal.Given as goal

abbrev pub invariant-loop-len : goal.invariant-loop-len
invariant-loop-len l = record {
  low : l.opening < l.i;
  high : l.i ≤ length l.text;
  onward : (p : Piece) → IsTextFrom l.text l.opening l.i p → IsTextFrom l.text l.opening (l.opening + 1) p;
}

abbrev pub decreases-loop-len : goal.decreases-loop-len
decreases-loop-len l = length l.text - l.i
