use Rattle.std.proofs.Common.{◌≡◌, ◌+◌, ◌≤◌, take}
use Rattle.bc_data.specs.Lexical.{place_behind}
use Rattle.bc_lex.proofs.lexer.place_behind.Given as goal

abbrev pub invariant-loop-byte : goal.invariant-loop-byte
invariant-loop-byte l = record {
  place : l.place ≡ place_behind l.fn.at (take l.byte-index l.bytes);
  line : l.place.line ≤ l.fn.at.line + l.byte-index;
  column : l.place.column ≤ l.fn.at.column + l.byte-index;
}
