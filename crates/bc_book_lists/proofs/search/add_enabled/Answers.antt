use Rattle.std.proofs.Common.{◌++◌, ◌∷◌, [], take, sym, ap, ◌∙◌}
use Rattle.std.proofs.lemmas.List.{take_more}
use Rattle.bc_data.specs.declared.run.Invocation.{Invocation}
use Rattle.bc_mean.specs.Enabled.{is_enabled}
use Rattle.bc_params.proofs.Searchable.{program_binds}
use Rattle.bc_book_lists.proofs.Adding.{adds_more}
use Rattle.bc_book_lists.proofs.search.add_enabled.Goals as goal

pub loop-v-preserved : goal.loop-v-preserved
loop-v-preserved c P S of =
    let offered = c.args.offered.now in
    let i = c.loop-v.v-index in
    adds_more (is_enabled P S) offered i c.v-item.result c.is_enabled-good.result
    c.args.found.now.items c.loop-v.found.items c.add_if.new.found.items (c.loop-v.invariant P S of)
    (take_more offered i c.v-item.result c.loop-v-test.true ∙ ap (λ (v : Invocation). take i offered ++ v ∷ []) (sym c.v-item.is))
    (c.is_enabled-good.ensures P S of.sets (program_binds P of.typed)) c.in_ok-add_if.ensures
