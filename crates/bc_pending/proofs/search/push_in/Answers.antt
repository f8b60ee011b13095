use Rattle.bc_pending.proofs.Named.{pushed}
use Rattle.bc_pending.proofs.search.push_in.Goals as goal

pub returns-clause-named : goal.returns-clause-named
returns-clause-named c = pushed c.args.named.now c.add.new.self c.as_slice.result.now c.args.items.now.items c.push_back_reserved.new.self.items c.args.v c.as_slice.ensures.value c.push_back_reserved.ensures.items c.add.ensures
