use Rattle.std.proofs.Common.{length, refl}
use Rattle.std.proofs.lemmas.Option.{slice_get_read}
use Rattle.std.specs.Prelude.{slice_get}
use Rattle.bc_mean.specs.Work.{and_then, known, reach}
use Rattle.bc_mean.specs.Evaluate.{index_in}
use Rattle.bc_step.specs.Area.{reads_of}
use Rattle.bc_step.specs.Parts.{reached_at}
use Rattle.bc_step.proofs.Parts.{any_does, any_halts, does_then, halts_first, halts_then, known_does}
use Rattle.bc_step.proofs.reach.element_of.Goals as goal

pub returns-in-Err-clause-err : goal.returns-in-Err-clause-err
returns-in-Err-clause-err c =
    let a = c.args.area.now in
    halts_first a c.in-Err.halt (λ w. reach (reads_of a).look c.args.at c.args.x w) (λ o v. and_then (index_in c.args.at o.body c.args.i v) (λ n u. known (slice_get o.body.cells n) u)) c.in-Err.ensures.err

pub returns-in-Err-index_in-clause-err : goal.returns-in-Err-index_in-clause-err
returns-in-Err-index_in-clause-err c =
    let a = c.args.area.now in
    let b = c.in-Ok.body.now in
    let r = reached_at c.in-Ok.field-0-0 b in
    let h = c.in-Err-index_in.halt in
    halts_then
    a
    a
    r
    h
    (λ w. reach (reads_of a).look c.args.at c.args.x w)
    (λ o v. and_then (index_in c.args.at o.body c.args.i v) (λ n u. known (slice_get o.body.cells n) u))
    c.in-Ok.ensures.ok
    (halts_first a h (index_in c.args.at b c.args.i) (λ n u. known (slice_get b.cells n) u) (any_halts a h (index_in c.args.at b c.args.i) c.in-Err-index_in.ensures.err))

pub returns-in-Ok-index_in-clause-ok : goal.returns-in-Ok-index_in-clause-ok
returns-in-Ok-index_in-clause-ok c =
    let a = c.args.area.now in
    let b = c.in-Ok.body.now in
    let r = reached_at c.in-Ok.field-0-0 b in
    let n = c.in-Ok-index_in.n in
    does_then
    a
    a
    a
    r
    _
    (λ w. reach (reads_of a).look c.args.at c.args.x w)
    (λ o v. and_then (index_in c.args.at o.body c.args.i v) (λ n u. known (slice_get o.body.cells n) u))
    c.in-Ok.ensures.ok
    (does_then a a a n _ (index_in c.args.at b c.args.i) (λ n u. known (slice_get b.cells n) u) (any_does a n (index_in c.args.at b c.args.i) c.in-Ok-index_in.ensures.ok) (known_does a _ _ (slice_get_read b.cells (length b.cells) n _ refl c.in-Ok-index_in.ensures.within c.index.ensures)))
