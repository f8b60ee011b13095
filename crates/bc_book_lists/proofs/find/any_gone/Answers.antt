use Rattle.std.proofs.Common.{◌≡◌, ◌⊎◌, true, ◌++◌, ◌∷◌, [], take, sym, ap, ◌∙◌}
use Rattle.std.proofs.lemmas.List.{take_more}
use Rattle.bc_data.specs.declared.run.Invocation.{Invocation}
use Rattle.bc_mean.specs.Serial.{listed, same_invocation}
use Rattle.bc_book_lists.proofs.Before.{each_more}
use Rattle.bc_book_lists.proofs.find.any_gone.Goals as goal

pub loop-w-preserved : goal.loop-w-preserved
loop-w-preserved c =
    let vs = c.args.before.now in
    let i = c.loop-w.w-index in
    each_more (λ w. (listed c.args.behind.now w ≡ true) ⊎ (same_invocation w c.args.v.now ≡ true)) vs i c.w-item.result c.loop-w.invariant
    (take_more vs i c.w-item.result c.loop-w-test.true ∙ ap (λ (v : Invocation). take i vs ++ v ∷ []) (sym c.w-item.is))
    c.if-is_gone.ensures
