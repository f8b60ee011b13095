use Rattle.std.proofs.Common.{◌≡◌, ℕ, ◌&&◌, ◌||◌, ◌∙◌, ap, sym}
use Rattle.bc_data.specs.Guard.{guard_truth}
use Rattle.bc_data.specs.ProgramView.{view_flag_expr}
use Rattle.bc_flags.specs.Met.{agree}
use Rattle.bc_flags.proofs.Joins.{joins, or_suits}
use Rattle.bc_flags.proofs.guard.+form_of.Goals as goal

pub returns-in_ok-y-in-And-clause-truth : goal.returns-in_ok-y-in-And-clause-truth
returns-in_ok-y-in-And-clause-truth t c =
    let first = c.deref-in-And in
    let second = c.deref-in-And-2 in
    let truth : (mask : ℕ) → guard_truth (view_flag_expr c.args.guard.now) mask ≡ (guard_truth (view_flag_expr first.result.now) mask && guard_truth (view_flag_expr second.result.now) mask) = λ mask. ap (λ g. guard_truth (view_flag_expr g) mask) c.in-And.is ∙ ap (λ g. guard_truth (view_flag_expr g) mask && guard_truth (view_flag_expr c.in-And.h.value) mask) (sym first.ensures) ∙ ap (λ g. guard_truth (view_flag_expr first.result.now) mask && guard_truth (view_flag_expr g) mask) (sym second.ensures) in
    joins c.run_of-inside.result c.in_ok-x-in-And.x c.in_ok-y-in-And.y c.args.wanted _ _ (guard_truth (view_flag_expr c.args.guard.now)) c.join.result c.in_ok-x-in-And.ensures.truth c.in_ok-y-in-And.ensures.truth
    (λ mask. c.run_of-inside.ensures _ _ ∙ ap (agree c.args.wanted) (sym (truth mask)))
    c.join.ensures.truth

pub returns-in_ok-y-in-Or-clause-truth : goal.returns-in_ok-y-in-Or-clause-truth
returns-in_ok-y-in-Or-clause-truth t c =
    let first = c.deref-in-Or in
    let second = c.deref-in-Or-2 in
    let truth : (mask : ℕ) → guard_truth (view_flag_expr c.args.guard.now) mask ≡ (guard_truth (view_flag_expr first.result.now) mask || guard_truth (view_flag_expr second.result.now) mask) = λ mask. ap (λ g. guard_truth (view_flag_expr g) mask) c.in-Or.is ∙ ap (λ g. guard_truth (view_flag_expr g) mask || guard_truth (view_flag_expr c.in-Or.h.value) mask) (sym first.ensures) ∙ ap (λ g. guard_truth (view_flag_expr first.result.now) mask || guard_truth (view_flag_expr g) mask) (sym second.ensures) in
    joins c.run_of-inside-in-Or.result c.in_ok-x-in-Or.x c.in_ok-y-in-Or.y c.args.wanted _ _ (guard_truth (view_flag_expr c.args.guard.now)) c.join-in-Or.result c.in_ok-x-in-Or.ensures.truth c.in_ok-y-in-Or.ensures.truth
    (λ mask. or_suits _ c.args.wanted _ _ c.run_of-inside-in-Or.ensures ∙ ap (agree c.args.wanted) (sym (truth mask)))
    c.join-in-Or.ensures.truth
