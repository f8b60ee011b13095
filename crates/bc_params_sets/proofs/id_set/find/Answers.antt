use Rattle.std.proofs.lemmas.List.Sorted.{searched}
use Rattle.bc_params_sets.proofs.Members.{never_falls}
use Rattle.bc_params_sets.proofs.id_set.find.Goals as goal

pub returns : goal.returns
returns c = searched c.args.items.now c.args.id c.binary_search.result c.binary_search.ensures.position (never_falls c.args.items.now c.requires)
