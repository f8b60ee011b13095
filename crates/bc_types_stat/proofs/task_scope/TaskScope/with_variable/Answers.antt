use Rattle.std.proofs.Common.{◌≡◌, ◌+◌, ◌<◌, ◌≤◌, ap, arith}
use Rattle.bc_types_stat.proofs.Variables.{types_with_variable, variable_declared}
use Rattle.bc_types_stat.proofs.task_scope.TaskScope.with_variable.Goals as goal

pub invariant_of-result : goal.invariant_of-result
invariant_of-result c =
    let s = c.self.inside.scope in
    let t = c.declare_variable.new.self in
    let d = variable_declared s t c.args.x.now c.args.tag_type c.in_ok-declare_variable.ensures in
    let slots : t.slots ≡ s.slots = ap (λ u. u.slots) d.0 in
    let tags : t.tags ≡ s.tags + 1 = ap (λ u. u.tags) d.0 in
    let few : s.tags < 4 = d.1 in
    let held : s.slots ≤ 4 = c.self.invariant.1 in
    (types_with_variable c.self.inside.types.items c.push.new.self.items s t c.args.x.now c.args.tag_type c.self.invariant.0 c.in_ok-push.ensures.items d.0, omega arith, omega arith)
