use Rattle.std.proofs.Common.{◌≡◌, ◌<◌, ◌+◌, ◌++◌, ◌∷◌, [], length, take, sym, ◌∙◌, ap, subst, arith}
use Rattle.std.proofs.lemmas.List.{take_more}
use Rattle.bc_gen_stmt.specs.Units.{HasClasses}
use Rattle.bc_gen_stmt.proofs.Appending.{one_class}
use Rattle.bc_gen_stmt.proofs.code.put_classes.Goals as goal

pub loop-class-preserved : goal.loop-class-preserved
loop-class-preserved c =
    let K = c.args.classes.now in
    let i = c.loop-class.class-index in
    let within : i < length K = omega arith in
    let more : take i K ++ c.class-item.result ∷ [] ≡ take (i + 1) K =
    ap (λ x. take i K ++ x ∷ []) c.class-item.is ∙ sym (take_more K i c.class-item.result within) in
    let one =
    one_class K (take i K) c.class-item.result _ _ _ _ _ c.loop-class.invariant c.in_ok-put_class.ensures in
    let new = c.put_class.new.units in
    let codes = c.loop-class.codes ++ c.in_ok-put_class.field-0 ∷ [] in
    subst (λ ds. HasClasses K (take (i + 1) K) c.args.units.now new ds) (sym c.in_ok-push.ensures.ok)
    (subst (λ l. HasClasses K l c.args.units.now new codes) more one)
