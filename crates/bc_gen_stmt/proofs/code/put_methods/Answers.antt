use Rattle.std.proofs.Common.{◌≡◌, ◌<◌, ◌+◌, ◌++◌, ◌∷◌, [], length, take, sym, ◌∙◌, ap, subst, arith}
use Rattle.std.proofs.lemmas.List.{take_more}
use Rattle.bc_code.specs.Translation.{IsMethodUnit}
use Rattle.bc_gen_stmt.specs.Units.{Appended}
use Rattle.bc_gen_stmt.proofs.Appending.{one_appended}
use Rattle.bc_gen_stmt.proofs.code.put_methods.Goals as goal

pub loop-method-preserved : goal.loop-method-preserved
loop-method-preserved c =
    let K = c.args.classes.now in
    let methods = c.args.methods.now in
    let i = c.loop-method.method-index in
    let within : i < length methods = omega arith in
    let more : take i methods ++ c.method-item.result ∷ [] ≡ take (i + 1) methods =
    ap (λ x. take i methods ++ x ∷ []) c.method-item.is ∙ sym (take_more methods i c.method-item.result within) in
    let one =
    one_appended (IsMethodUnit K) (take i methods) c.method-item.result _ _ _ _ c.loop-method.invariant
    c.in_ok-method_unit.ensures c.in_ok-push.ensures.ok in
    subst (λ l. Appended (IsMethodUnit K) l c.args.units.now c.push.new.self) more one
