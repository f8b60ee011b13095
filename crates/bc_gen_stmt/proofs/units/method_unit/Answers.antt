use Rattle.std.proofs.Common.{refl, subst}
use Rattle.bc_code.specs.Emitted.{Emitted}
use Rattle.bc_code.specs.Translation.{IsEnd, behind_end}
use Rattle.bc_code.specs.declared.code.Unit.{Unit as CodeUnit}
use Rattle.bc_gen_stmt.proofs.Laying.{PutsStatements, method_laid}
use Rattle.bc_gen_stmt.proofs.units.method_unit.Goals as goal

pub returns : goal.returns
returns c =
    let K = c.args.classes.now in
    let start : CodeUnit =
    record { code = c.new.result; places = c.new-2.result; locals = c.locals.result; tags = 0 } in
    let body =
    subst (λ ss. PutsStatements K ss start c.statements.new.out) c.body.ensures c.in_ok-statements.ensures in
    let end =
    subst (λ r. Emitted (λ T p. IsEnd T p r) (behind_end r) c.statements.new.out c.put_end.new.out)
    c.result.ensures c.in_ok-put_end.ensures in
    method_laid K c.args.method.now start _ _ c.new.ensures c.locals.ensures refl body end
