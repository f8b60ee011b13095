use Rattle.std.proofs.Common.{◌+◌, ◌∷◌, ◌++◌, [], length, ap, ◌∙◌}
use Rattle.bc_book_reshaped.proofs.Added.{made_added}
use Rattle.bc_book_reshaped.specs.declared.reshaped.Reshaped.TheVariants as object
use Rattle.bc_book_reshaped.proofs.reshaped.add_made.Goals as goal

pub loop-at-preserved : goal.loop-at-preserved
loop-at-preserved c =
    c.in_ok-push.ensures.items
    ∙ (ap (λ objects. c.loop-at.reshaped.items ++ object.Made (objects + c.loop-at.at) c.loop-at.at ∷ []) c.objects.ensures.value
    ∙ made_added (length c.args.store.now.plain.bodies) c.loop-at.at c.args.reshaped.now.items c.loop-at.reshaped.items c.loop-at.invariant)
