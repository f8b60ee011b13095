use Rattle.std.proofs.Common.{◌≡◌, ◌<◌, length, slice_set, ap, sym, ◌∙◌, arith}
use Rattle.bc_mean.specs.Changes.{tag_in}
use Rattle.bc_store.specs.Resolved.{HasTagNumber}
use Rattle.bc_store.proofs.Mapped.{mapped_none, mapped_all, mapped_length, mapped_to, mapped_holds, mapped_more}
use Rattle.bc_store.proofs.resolve.resolve_tags.Goals as goal

pub loop-at-init : goal.loop-at-init
loop-at-init c = sym (mapped_none (tag_in c.args.store.now.plain) c.args.tags.now)

pub index-requires : goal.index-requires
index-requires c =
    let same = ap length c.loop-at.invariant ∙ mapped_length (tag_in c.args.store.now.plain) c.loop-at.at c.args.tags.now in
    omega (arith, same)

pub tag_in-requires : goal.tag_in-requires
tag_in-requires c =
    let within : c.loop-at.at < length c.args.tags.now = omega arith in
    mapped_holds (HasTagNumber c.args.store.now.plain) (tag_in c.args.store.now.plain) c.args.tags.now c.loop-at.tags c.loop-at.at c.index.result.now c.requires within c.loop-at.invariant c.index.ensures

pub index_mut-requires : goal.index_mut-requires
index_mut-requires c =
    let same = ap length c.loop-at.invariant ∙ mapped_length (tag_in c.args.store.now.plain) c.loop-at.at c.args.tags.now in
    omega (arith, same)

pub loop-at-preserved : goal.loop-at-preserved
loop-at-preserved c =
    ap (λ x. slice_set c.loop-at.tags c.loop-at.at x) c.tag_in.ensures ∙ mapped_more (tag_in c.args.store.now.plain) c.args.tags.now c.loop-at.tags c.loop-at.at c.index.result.now c.loop-at.invariant c.index.ensures

pub returns : goal.returns
returns c =
    let end : c.loop-at.at ≡ length c.args.tags.now = omega arith in
    c.loop-at.invariant ∙ ap (λ n. mapped_to (tag_in c.args.store.now.plain) n c.args.tags.now) end ∙ mapped_all (tag_in c.args.store.now.plain) c.args.tags.now
