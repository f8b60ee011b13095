use Rattle.std.proofs.Common.{◌≡◌, ℕ, ◌<◌, slice_index_or}
use Rattle.bc_data.specs.declared.token.Word.{Word}
use Rattle.bc_data.specs.Spelling.{word_text}
use Rattle.bc_lex.proofs.spelling.spelled.Given as goal

abbrev pub invariant-loop-word : goal.invariant-loop-word
invariant-loop-word l = (k : ℕ) (d : Word) → k < l.word-index → l.bytes ≡ word_text (slice_index_or l.words k d) → ⊥
