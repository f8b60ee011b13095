use Rattle.std.proofs.Common.{◌≡◌, ◌<◌, length, slice_index_or, ap, sym, subst, arith}
use Rattle.std.proofs.lemmas.List.Elements.{All-get_or}
use Rattle.bc_data.specs.declared.run.Written.{Written}
use Rattle.bc_mean.specs.Commit.{IsMadeBody}
use Rattle.bc_mean.proofs.commit.changed_in.Goals as goal

pub body_in-requires-clause-made : goal.body_in-requires-clause-made
body_in-requires-clause-made c =
    let within : c.loop-written.written-index < length c.args.changes.now.bodies = let e = ap length c.as_slice-written-items.ensures in omega arith in
    let item : c.written-item.result ≡ slice_index_or c.args.changes.now.bodies c.loop-written.written-index c.written-item.result = cc in
    subst (λ (w : Written). IsMadeBody c.args.changes.now w.body) (sym item) (All-get_or (λ (w : Written). IsMadeBody c.args.changes.now w.body) c.args.changes.now.bodies c.loop-written.written-index c.written-item.result within c.requires.changed)
