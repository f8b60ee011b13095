use Rattle.std.proofs.Common.{subst}
use Rattle.bc_code.specs.declared.code.Unit.{Unit as CodeUnit}
use Rattle.bc_gen_stmt.proofs.Laying.{PutsStatements, task_laid}
use Rattle.bc_gen_stmt.proofs.units.task_unit.Goals as goal

pub returns : goal.returns
returns c =
    let K = c.args.classes.now in
    let start : CodeUnit =
    record { code = c.new.result; places = c.new-2.result; locals = c.locals.result; tags = c.tags.result } in
    let body =
    subst (λ ss. PutsStatements K ss start c.statements.new.out) c.body.ensures c.in_ok-statements.ensures in
    task_laid K c.args.task.now start _ _ c.new.ensures c.locals.ensures c.tags.ensures body c.in_ok-put.ensures
