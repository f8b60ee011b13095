use Rattle.bc_law_grammar.proofs.Exact as exact
use Rattle.bc_law_grammar.proofs.tree_or_refused.Goals as goal

pub returns : goal.returns
returns c = record { one = exact.one_of_both; not_both = exact.not_both }
