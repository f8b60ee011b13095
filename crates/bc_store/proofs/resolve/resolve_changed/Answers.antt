use Rattle.std.proofs.Common.{◌≡◌, ◌<◌, length, slice_set, ap, sym, ◌∙◌, arith}
use Rattle.bc_mean.specs.Commit.{written_in}
use Rattle.bc_data.specs.declared.run.Written.{Written}
use Rattle.bc_store.specs.Resolved.{HasNumbers}
use Rattle.bc_store.proofs.Mapped.{mapped_none, mapped_all, mapped_length, mapped_to, mapped_holds, mapped_more}
use Rattle.bc_store.proofs.resolve.resolve_changed.Goals as goal

pub loop-at-init : goal.loop-at-init
loop-at-init c = sym (mapped_none (written_in c.args.store.now.plain) c.args.changed.now)

pub resolve_written-requires : goal.resolve_written-requires
resolve_written-requires c =
    let within : c.loop-at.at < length c.args.changed.now = omega arith in
    mapped_holds (λ (w : Written). HasNumbers c.args.store.now.plain w.body) (written_in c.args.store.now.plain) c.args.changed.now c.loop-at.changed c.loop-at.at c.index_mut.result.now c.requires within c.loop-at.invariant c.index_mut.ensures.value

pub index_mut-requires : goal.index_mut-requires
index_mut-requires c =
    let same = ap length c.loop-at.invariant ∙ mapped_length (written_in c.args.store.now.plain) c.loop-at.at c.args.changed.now in
    omega (arith, same)

pub loop-at-preserved : goal.loop-at-preserved
loop-at-preserved c =
    ap (λ x. slice_set c.loop-at.changed c.loop-at.at x) c.resolve_written.ensures ∙ mapped_more (written_in c.args.store.now.plain) c.args.changed.now c.loop-at.changed c.loop-at.at c.index_mut.result.now c.loop-at.invariant c.index_mut.ensures.value

pub returns : goal.returns
returns c =
    let end : c.loop-at.at ≡ length c.args.changed.now = omega arith in
    c.loop-at.invariant ∙ ap (λ n. mapped_to (written_in c.args.store.now.plain) n c.args.changed.now) end ∙ mapped_all (written_in c.args.store.now.plain) c.args.changed.now
