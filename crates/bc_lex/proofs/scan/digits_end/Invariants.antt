use Rattle.std.proofs.Common.{◌≡◌, ℕ, ◌<◌, ◌≤◌, not, false, slice_index}
use Rattle.bc_data.specs.Lexical.{is_digit}
use Rattle.bc_lex.proofs.scan.digits_end.Given as goal

abbrev pub invariant-loop-i : goal.invariant-loop-i
invariant-loop-i l = (k : ℕ) → l.from ≤ k → k < l.i → not (is_digit (slice_index l.text k)) ≡ false
