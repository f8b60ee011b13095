use Rattle.bc_types_rules.proofs.Statements.{does_of, state_of}
use Rattle.bc_types_rules.proofs.laws.state_is_does.Goals as goal

pub returns : goal.returns
returns c = λ G s x d t. (does_of G s x d t, state_of G s x d t)
