use Rattle.bc_data.specs.View.{view_tree}
use Rattle.bc_read.proofs.Reading.{text_is_grammatical}
use Rattle.bc_read.proofs.reader.read_program.Goals as goal

pub check-requires : goal.check-requires
check-requires c = text_is_grammatical c.args.text.now (view_tree c.in_ok-tree.tree) c.in_ok-tree.ensures.tree
