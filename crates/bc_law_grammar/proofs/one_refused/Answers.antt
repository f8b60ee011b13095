use Rattle.bc_law_grammar.proofs.Exact as exact
use Rattle.bc_law_grammar.proofs.one_refused.Goals as goal

pub returns : goal.returns
returns c = exact.one_fault
