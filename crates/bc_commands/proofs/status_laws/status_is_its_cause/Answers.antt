use Rattle.bc_commands.proofs.Statuses.{status_is_its_cause}
use Rattle.bc_commands.proofs.status_laws.status_is_its_cause.Goals as goal

pub returns : goal.returns
returns c = status_is_its_cause (record {
  one_list = c.one_list.ensures;
  not_both = c.not_both.ensures;
  one_tree = c.one_tree.ensures;
  tree = c.tree_or_refused.ensures.not_both;
  accepts = c.accepts_is_program.ensures;
  types = c.program_or_fault.ensures;
})
