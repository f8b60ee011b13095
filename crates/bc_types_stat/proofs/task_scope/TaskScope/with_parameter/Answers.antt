use Rattle.std.proofs.Common.{◌≡◌, ◌+◌, ◌<◌, ◌≤◌, ap, arith}
use Rattle.bc_types_stat.proofs.Variables.{types_with_parameter}
use Rattle.bc_types_stat.proofs.task_scope.TaskScope.with_parameter.Goals as goal

pub invariant_of-result : goal.invariant_of-result
invariant_of-result c =
    let s = c.self.inside.scope in
    let t = c.add_parameter.new.self in
    let e = c.in_ok-add_parameter.ensures in
    let slots : t.slots ≡ s.slots + 1 = ap (λ u. u.slots) e in
    let tags : t.tags ≡ s.tags = ap (λ u. u.tags) e in
    let same : s.slots ≡ c.args.self.slots = ap (λ u. u.slots) c.self.view_is in
    let few : c.args.self.slots < 4 = c.requires in
    let held : s.tags ≤ 4 = c.self.invariant.2 in
    (types_with_parameter c.self.inside.types.items s t c.args.x.now c.args.class c.self.invariant.0 e, omega arith, omega arith)
