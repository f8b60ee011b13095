use Rattle.std.proofs.Common.{◌≡◌}
use Rattle.bc_data.specs.Lexical.{Tokens}
use Rattle.bc_lex.proofs.Same.{lexes_same}
use Rattle.bc_lex.proofs.laws.one_list.Goals as goal

pub returns : goal.returns
returns c = λ text a b h k. let same : Tokens a ≡ Tokens b = lexes_same text h k in cc
