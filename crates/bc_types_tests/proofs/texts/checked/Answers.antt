use Rattle.bc_data.specs.View.{view_tree}
use Rattle.bc_read.proofs.Reading.{text_is_grammatical}
use Rattle.bc_types_tests.proofs.texts.checked.Goals as goal

pub check-requires : goal.check-requires
check-requires c = text_is_grammatical c.as_bytes.result.now (view_tree c.in-Ok.tree) c.in-Ok.ensures.tree
