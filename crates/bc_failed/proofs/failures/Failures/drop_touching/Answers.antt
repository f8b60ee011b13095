use Rattle.std.proofs.Common.{sym}
use Rattle.bc_failed.proofs.Touched.{none_leaves}
use Rattle.bc_failed.proofs.failures.Failures.drop_touching.Goals as goal

pub returns-then-none_touched-clause-failures : goal.returns-then-none_touched-clause-failures
returns-then-none_touched-clause-failures g c = sym (none_leaves c.args.id c.args.self.now.failures (c.none_touched.ensures c.if-none_touched.true))
