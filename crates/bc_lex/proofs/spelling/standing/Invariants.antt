use Rattle.std.proofs.Common.{ℕ, ◌<◌, slice_index_or}
use Rattle.bc_data.specs.declared.token.Sign.{Sign}
use Rattle.bc_data.specs.Spelling.{sign_text}
use Rattle.bc_data.specs.Lexical.{StandsAt}
use Rattle.bc_lex.proofs.spelling.standing.Given as goal

abbrev pub invariant-loop-mark : goal.invariant-loop-mark
invariant-loop-mark l = (k : ℕ) (d : Sign) → k < l.mark-index → StandsAt l.text l.i (sign_text (slice_index_or l.marks k d)) → ⊥
