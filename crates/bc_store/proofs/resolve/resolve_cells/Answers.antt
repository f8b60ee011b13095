use Rattle.std.proofs.Common.{◌≡◌, ◌<◌, length, slice_set, ap, sym, ◌∙◌, arith}
use Rattle.bc_mean.specs.Changes.{value_in}
use Rattle.bc_store.specs.Resolved.{HasNumber}
use Rattle.bc_store.proofs.Mapped.{mapped_none, mapped_all, mapped_length, mapped_to, mapped_holds, mapped_more}
use Rattle.bc_store.proofs.resolve.resolve_cells.Goals as goal

pub loop-at-init : goal.loop-at-init
loop-at-init c = sym (mapped_none (value_in c.args.store.now.plain) c.args.cells.now)

pub index-requires : goal.index-requires
index-requires c =
    let same = ap length c.loop-at.invariant ∙ mapped_length (value_in c.args.store.now.plain) c.loop-at.at c.args.cells.now in
    omega (arith, same)

pub value_in-requires : goal.value_in-requires
value_in-requires c =
    let within : c.loop-at.at < length c.args.cells.now = omega arith in
    mapped_holds (HasNumber c.args.store.now.plain) (value_in c.args.store.now.plain) c.args.cells.now c.loop-at.cells c.loop-at.at c.index.result.now c.requires within c.loop-at.invariant c.index.ensures

pub index_mut-requires : goal.index_mut-requires
index_mut-requires c =
    let same = ap length c.loop-at.invariant ∙ mapped_length (value_in c.args.store.now.plain) c.loop-at.at c.args.cells.now in
    omega (arith, same)

pub loop-at-preserved : goal.loop-at-preserved
loop-at-preserved c =
    ap (λ x. slice_set c.loop-at.cells c.loop-at.at x) c.value_in.ensures ∙ mapped_more (value_in c.args.store.now.plain) c.args.cells.now c.loop-at.cells c.loop-at.at c.index.result.now c.loop-at.invariant c.index.ensures

pub returns : goal.returns
returns c =
    let end : c.loop-at.at ≡ length c.args.cells.now = omega arith in
    c.loop-at.invariant ∙ ap (λ n. mapped_to (value_in c.args.store.now.plain) n c.args.cells.now) end ∙ mapped_all (value_in c.args.store.now.plain) c.args.cells.now
