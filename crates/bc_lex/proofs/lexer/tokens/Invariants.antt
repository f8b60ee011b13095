use Rattle.std.proofs.Common.{◌≡◌, ◌+◌, ◌-◌, ◌≤◌, length}
use Rattle.bc_data.specs.Lexical.{place_at}
use Rattle.bc_lex.proofs.Onward.{Onward}
use Rattle.bc_lex.proofs.lexer.tokens.Given as goal

abbrev pub invariant-loop-i : goal.invariant-loop-i
invariant-loop-i l = record {
  high : l.i ≤ length l.text;
  place : l.at ≡ place_at l.text l.i;
  line : l.at.line ≤ l.i + 1;
  column : l.at.column ≤ l.i + 1;
  onward : Onward l.text l.i l.tokens;
}

abbrev pub decreases-loop-i : goal.decreases-loop-i
decreases-loop-i l = length l.text - l.i
