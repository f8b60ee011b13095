use Rattle.std.proofs.Common.{rules}
use Rattle.std.proofs.lemmas.Iterator.{YieldsList-from_map}
use Rattle.std.proofs.lemmas.Iterator.Adapters.{YieldsList-from_vec, items_from_extend}
use Rattle.std.proofs.lemmas.Result.{on_ok_weaker}
use Rattle.bc_step.specs.Held.{unwritten}
use Rattle.bc_step.proofs.held.push_unwritten.Goals as goal

pub returns-clause-capacity : goal.returns-clause-capacity
returns-clause-capacity c = c.extend.ensures.ran.3.2

pub returns-clause-ok : goal.returns-clause-ok
returns-clause-ok c =
    on_ok_weaker c.extend.result (λ h. h.0)
    (items_from_extend c.extend.result c.extend.ensures.ran
    (YieldsList-from_map _ unwritten (YieldsList-from_vec c.args.bodies (cc) (cc)) c.map.ensures.closure (λ x r q k. search rules)))
