use Rattle.bc_base.proofs.Given.{given_piece}
use Rattle.bc_base.proofs.source.MemorySourceSource.read.Goals as goal

pub returns-clause-given : goal.returns-clause-given
returns-clause-given c =
    given_piece _ _ _ c.args.self.now.at c.copy_front-n.result c.as_slice.ensures c.copy_front-n.ensures.front
