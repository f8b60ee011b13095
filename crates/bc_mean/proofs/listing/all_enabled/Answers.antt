use Rattle.std.proofs.Common.{◌≡◌, ℕ, [], ◌++◌, length, ap, sym, ◌∙◌, arith}
use Rattle.std.specs.Prelude.{slice_get}
use Rattle.std.specs.List.{range_with_len, flat_map}
use Rattle.bc_mean.specs.Listing.{enabled_of}
use Rattle.bc_mean.proofs.Tuples.{all_by_task, one_more}
use Rattle.bc_mean.proofs.listing.all_enabled.Goals as goal

pub loop-number-preserved : goal.loop-number-preserved
loop-number-preserved c =
    let of = λ (n : ℕ). enabled_of c.args.store.now n (slice_get c.args.program.now.tasks n) in
    c.in_ok-add_task.ensures ∙ ap (λ ys. ys ++ of c.loop-number.number) c.loop-number.invariant ∙ one_more of c.loop-number.number []

pub returns : goal.returns
returns c =
    let all : c.loop-number.number ≡ length c.args.program.now.tasks = let e : length c.tasks-number-end.result.now ≡ length c.args.program.now.tasks = ap length c.tasks-number-end.ensures in omega arith in
    c.loop-number.invariant
    ∙ ap (λ k. flat_map (λ n. enabled_of c.args.store.now n (slice_get c.args.program.now.tasks n)) (range_with_len 0 k)) all
    ∙ sym (all_by_task c.args.program.now c.args.store.now)
