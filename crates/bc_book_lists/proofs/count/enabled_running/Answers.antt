use Rattle.std.proofs.Common.{◌<◌, length, sym, ◌∙◌, arith}
use Rattle.bc_mean.specs.Enabled.{is_enabled}
use Rattle.bc_book_lists.proofs.Counting.{counted_in, counted_out}
use Rattle.bc_book_lists.proofs.count.enabled_running.Goals as goal
use Rattle.bc_book_lists.proofs.count.enabled_running.Goals.{then-is_enabled_in, else-is_enabled_in}

pub loop-worker-preserved : goal.loop-worker-preserved
loop-worker-preserved c =
    let low : c.loop-worker.worker < length c.args.pending.now.held = omega (arith, c.requires, c.loop-worker-test.true) in
    elim c.if-is_enabled_in.branch [
      | then-is_enabled_in w ↦ record {
        value = λ P S of. w.count-is ∙ counted_in (is_enabled P S) c.args.pending.now.held c.loop-worker.worker c.held.result c.loop-worker.count low c.held.ensures (c.loop-worker.invariant.value P S of) (sym w.if-is_enabled_in.true ∙ c.is_enabled_in.ensures P S of);
        few = omega (arith, w.count-is, c.loop-worker.invariant.few);
      }
      | else-is_enabled_in w ↦ record {
        value = λ P S of. w.count-is ∙ counted_out (is_enabled P S) c.args.pending.now.held c.loop-worker.worker c.held.result c.loop-worker.count low c.held.ensures (c.loop-worker.invariant.value P S of) (sym w.if-is_enabled_in.false ∙ c.is_enabled_in.ensures P S of);
        few = omega (arith, w.count-is, c.loop-worker.invariant.few);
      }
    ]
