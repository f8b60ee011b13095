use Rattle.bc_base_tests.proofs.Rest.{rest_kept}
use Rattle.bc_base_tests.proofs.made.SlowSourceSource.read.Goals as goal

pub returns-clause-rest : goal.returns-clause-rest
returns-clause-rest c =
    rest_kept c.read.result c.read.new.buf c.args.buf.now c.min-most.result c.read.auto.buf c.read.ensures.bound c.read.ensures.rest
