use Rattle.std.proofs.Common.{◌≡◌, ◌<◌, length, slice_set, ap, sym, ◌∙◌, arith}
use Rattle.bc_mean.specs.Changes.{body_in}
use Rattle.bc_store.specs.Resolved.{HasNumbers}
use Rattle.bc_store.proofs.Mapped.{mapped_none, mapped_all, mapped_length, mapped_to, mapped_holds, mapped_more}
use Rattle.bc_store.proofs.resolve.resolve_made.Goals as goal

pub loop-at-init : goal.loop-at-init
loop-at-init c = sym (mapped_none (body_in c.args.store.now.plain) c.args.made.now)

pub resolve_body-requires : goal.resolve_body-requires
resolve_body-requires c =
    let within : c.loop-at.at < length c.args.made.now = omega arith in
    mapped_holds (HasNumbers c.args.store.now.plain) (body_in c.args.store.now.plain) c.args.made.now c.loop-at.made c.loop-at.at c.index_mut.result.now c.requires within c.loop-at.invariant c.index_mut.ensures.value

pub index_mut-requires : goal.index_mut-requires
index_mut-requires c =
    let same = ap length c.loop-at.invariant ∙ mapped_length (body_in c.args.store.now.plain) c.loop-at.at c.args.made.now in
    omega (arith, same)

pub loop-at-preserved : goal.loop-at-preserved
loop-at-preserved c =
    ap (λ x. slice_set c.loop-at.made c.loop-at.at x) c.resolve_body.ensures ∙ mapped_more (body_in c.args.store.now.plain) c.args.made.now c.loop-at.made c.loop-at.at c.index_mut.result.now c.loop-at.invariant c.index_mut.ensures.value

pub returns : goal.returns
returns c =
    let end : c.loop-at.at ≡ length c.args.made.now = omega arith in
    c.loop-at.invariant ∙ ap (λ n. mapped_to (body_in c.args.store.now.plain) n c.args.made.now) end ∙ mapped_all (body_in c.args.store.now.plain) c.args.made.now
