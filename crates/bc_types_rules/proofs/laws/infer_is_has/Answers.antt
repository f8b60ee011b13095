use Rattle.bc_types_rules.proofs.Expressions.{has_of, infer_of}
use Rattle.bc_types_rules.proofs.laws.infer_is_has.Goals as goal

pub returns : goal.returns
returns c = λ G s e t c. (has_of G s e t c, infer_of G s e t c)
