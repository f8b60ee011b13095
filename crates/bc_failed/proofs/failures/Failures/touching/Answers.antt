use Rattle.bc_failed.specs.Records.{touches}
use Rattle.bc_failed.proofs.Touched.{none_found}
use Rattle.bc_failed.proofs.failures.Failures.touching.Goals as goal

pub returns-then-none_touched : goal.returns-then-none_touched
returns-then-none_touched c =
    rw (none_found (touches c.args.id) c.args.self.now.failures (c.none_touched.ensures c.if-none_touched.true)) c.new.ensures
