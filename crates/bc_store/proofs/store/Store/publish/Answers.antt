use Rattle.std.proofs.Common.{ap, ◌∙◌}
use Rattle.bc_store.specs.Resolved.{put_in}
use Rattle.bc_store.proofs.Resolved.{put_resolved}
use Rattle.bc_store.proofs.store.Store.publish.Goals as goal

pub returns-clause-plain : goal.returns-clause-plain
returns-clause-plain c =
    c.put.ensures.plain ∙ ap (put_in c.args.self.now.plain) c.resolve.ensures.new ∙ put_resolved c.args.self.now.plain c.args.changes
