use Rattle.std.proofs.Common.{◌≡◌}
use Rattle.bc_data.specs.Lexical.{Refused}
use Rattle.bc_lex.proofs.Same.{lexes_same}
use Rattle.bc_lex.proofs.laws.one_fault.Goals as goal

pub returns : goal.returns
returns c = λ text a b p q h k. let same : Refused a p ≡ Refused b q = lexes_same text h k in (cc, cc)
