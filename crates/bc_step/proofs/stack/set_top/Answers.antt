use Rattle.std.proofs.Common.{◌+◌, ◌-◌, ◌≡◌, length, arith}
use Rattle.bc_step.proofs.Stacks.{top_set}
use Rattle.bc_step.proofs.stack.set_top.Goals as goal

pub returns-then-n-gt0 : goal.returns-then-n-gt0
returns-then-n-gt0 c =
    let e : c.len-n.result - 1 + 1 ≡ length c.args.stack.now.items = omega arith in
    λ y rest h. top_set c.args.stack.now.items c.args.x y rest (c.len-n.result - 1) e h
