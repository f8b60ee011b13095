use Rattle.std.proofs.Common.{◌≡◌, ◌<◌, length, slice_index_or, ap, sym, subst, arith}
use Rattle.std.proofs.lemmas.List.Elements.{All-get_or}
use Rattle.bc_mean.specs.Commit.{IsMadeBody}
use Rattle.bc_mean.proofs.commit.made_in.Goals as goal

pub body_in-requires-clause-made : goal.body_in-requires-clause-made
body_in-requires-clause-made c =
    let within : c.loop-body.body-index < length c.args.changes.now.made = let e = ap length c.as_slice-body-items.ensures in omega arith in
    let item : c.body-item.result ≡ slice_index_or c.args.changes.now.made c.loop-body.body-index c.body-item.result = cc in
    subst (IsMadeBody c.args.changes.now) (sym item) (All-get_or (IsMadeBody c.args.changes.now) c.args.changes.now.made c.loop-body.body-index c.body-item.result within c.requires.made)
