use Rattle.std.proofs.Common.{◌≡◌}
use Rattle.bc_data.specs.Lexical.{Tokens, Refused}
use Rattle.bc_lex.proofs.Same.{lexes_same}
use Rattle.bc_lex.proofs.laws.not_both.Goals as goal

pub returns : goal.returns
returns c = λ text tokens fault at h k. let same : Tokens tokens ≡ Refused fault at = lexes_same text h k in cc
