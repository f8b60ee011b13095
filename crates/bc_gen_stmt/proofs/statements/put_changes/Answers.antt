use Rattle.std.proofs.Common.{◌<◌, length, take, sym, subst, arith}
use Rattle.std.proofs.lemmas.List.{take_more}
use Rattle.bc_gen_stmt.proofs.Laying.{PutsChanges, one_change}
use Rattle.bc_gen_stmt.proofs.statements.put_changes.Goals as goal

pub loop-change-preserved : goal.loop-change-preserved
loop-change-preserved c =
    let changes = c.args.changes.now in
    let i = c.loop-change.change-index in
    let within : i < length changes = omega arith in
    subst (λ l. PutsChanges l c.args.out.now c.put_change.new.out) (sym (take_more changes i _ within)) (one_change (take i changes) _ _ _ _ c.loop-change.invariant c.in_ok-put_change.ensures)
