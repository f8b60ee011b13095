use Rattle.std.proofs.Common.{◌≡◌, ◌<◌, length, refl, arith}
use Rattle.std.proofs.lemmas.Option.{slice_get_read}
use Rattle.bc_params_search.specs.Search.{Sought}
use Rattle.bc_params_sets.specs.Kept.{Kept}
use Rattle.bc_params_search.proofs.NextTask.{found_more, found_all}
use Rattle.bc_params_search.proofs.tuples.tuples_with.Goals as goal

pub loop-number-preserved : goal.loop-number-preserved
loop-number-preserved c =
    let k : Kept = record { tasks = c.args.tasks.now; bound = c.args.tags.now.bound } in
    let s : Sought = record { task = c.index-tasks-number.result; bound = c.args.tags.now.bound; number = c.loop-number.number; id = c.args.id; most = c.args.most } in
    let low : c.loop-number.number < length c.args.tasks.now = omega arith in
    record {
      short = c.in_ok-add_task.ensures.short;
      found = found_more k c.args.id c.args.most c.loop-number.number s c.loop-number.found c.add_task.new.found refl
          (slice_get_read c.args.tasks.now (length c.args.tasks.now) c.loop-number.number c.index-tasks-number.result refl low c.index-tasks-number.is)
          c.loop-number.invariant.found c.in_ok-add_task.ensures.found;
    }

pub returns : goal.returns
returns c =
    let k : Kept = record { tasks = c.args.tasks.now; bound = c.args.tags.now.bound } in
    let all : c.loop-number.number ≡ length c.args.tasks.now = omega arith in
    λ vs up members. found_all k c.args.id c.args.most c.loop-number.number c.loop-number.found all c.loop-number.invariant.found vs (record { ascending = up; members = members })
