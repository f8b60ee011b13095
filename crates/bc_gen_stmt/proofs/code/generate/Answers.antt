use Rattle.std.proofs.Common.{subst}
use Rattle.bc_code.specs.Translation.{IsTaskUnit}
use Rattle.bc_gen_stmt.specs.Units.{Appended, HasClasses}
use Rattle.bc_gen_stmt.proofs.Appending.{all_translated}
use Rattle.bc_gen_stmt.proofs.code.generate.Goals as goal

pub returns : goal.returns
returns c =
    let P = c.args.program.now in
    let mid = c.put_tasks.new.units in
    let new = c.put_classes.new.units in
    let seen = subst (λ l. Appended (IsTaskUnit l) c.tasks.result.now c.new-units.result mid) c.classes-classes.ensures c.in_ok-put_tasks.ensures in
    let tasks = subst (λ l. Appended (IsTaskUnit P.classes) l c.new-units.result mid) c.tasks.ensures seen in
    let classes = subst (λ l. HasClasses l l mid new c.in_ok-codes.codes) c.classes-classes.ensures c.in_ok-codes.ensures in
    all_translated P mid new c.in_ok-codes.codes (subst (λ us. Appended (IsTaskUnit P.classes) P.tasks us mid) c.new-units.ensures tasks) classes
