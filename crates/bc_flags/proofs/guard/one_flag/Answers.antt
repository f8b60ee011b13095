use Rattle.std.proofs.Common.{ap, sym, ◌∙◌}
use Rattle.bc_flags.specs.Met.{agree}
use Rattle.bc_flags.proofs.Masks.{clear_flag, no_flag, set_flag, agree_false, not_clear, not_set}
use Rattle.bc_flags.proofs.guard.one_flag.Goals as goal

pub returns-then-flag-ge-FLAGS-clause-truth : goal.returns-then-flag-ge-FLAGS-clause-truth
returns-then-flag-ge-FLAGS-clause-truth c mask small =
    c.constant.ensures.truth mask ∙ sym (ap (agree c.args.wanted) (no_flag c.args.flag mask c.if-flag-ge-FLAGS.true small) ∙ agree_false c.args.wanted)

pub returns-in-All-true-clause-truth : goal.returns-in-All-true-clause-truth
returns-in-All-true-clause-truth c mask small = rw c.in-All-true.is-1 (set_flag c.args.flag mask c.if-flag-ge-FLAGS.false)

pub returns-in-All-false-clause-truth : goal.returns-in-All-false-clause-truth
returns-in-All-false-clause-truth c mask small = rw c.in-All-false.is-1 (clear_flag c.args.flag mask c.if-flag-ge-FLAGS.false)

pub returns-in-Any-true-clause-truth : goal.returns-in-Any-true-clause-truth
returns-in-Any-true-clause-truth c mask small = rw c.in-Any-true.is-1 (not_clear c.args.flag mask c.if-flag-ge-FLAGS.false)

pub returns-in-Any-false-clause-truth : goal.returns-in-Any-false-clause-truth
returns-in-Any-false-clause-truth c mask small = rw c.in-Any-false.is-1 (not_set c.args.flag mask c.if-flag-ge-FLAGS.false)
