use Rattle.std.proofs.Common.{◌≡◌, ◌∙◌, ◌&&◌, true, false, ap, sym}
use Rattle.bc_data.specs.SourceTree.{Nothing}
use Rattle.bc_data.specs.View.{stat_views, view_stat}
use Rattle.bc_data.specs.declared.tree.StatText.TheVariants as stat
use Rattle.bc_types_rules.specs.Statements as rules
use Rattle.bc_types_stat.proofs.Leaving.{last_leaves, leaves_block, leaves_if}
use Rattle.bc_types_stat.proofs.leaves.+leaves.Goals as goal

pub all_leave-returns-in-len1-up : goal.all_leave-returns-in-len1-up
all_leave-returns-in-len1-up t c =
    c.leaves.ensures ∙ ap (λ s. rules.leaves (view_stat s)) c.last-item.is ∙ sym (last_leaves c.args.body.now c.last-item.result c.in-len1-up.len_at_least)

pub leaves-returns-in-Block : goal.leaves-returns-in-Block
leaves-returns-in-Block t c =
    let w = c.in-Block in
    c.all_leave.ensures ∙ ap (λ ss. rules.all_leave (stat_views ss Nothing)) c.as_slice.ensures.value ∙ sym (leaves_block w.field-0 w.body) ∙ ap (λ s. rules.leaves (view_stat s)) (sym w.is)

pub leaves-returns-then-all_leave : goal.leaves-returns-then-all_leave
leaves-returns-then-all_leave t c =
    let w = c.in-If in
    let first : rules.all_leave (stat_views w.body.items Nothing) ≡ true = ap (λ ss. rules.all_leave (stat_views ss Nothing)) (sym c.as_slice-in-Some.ensures.value) ∙ sym c.all_leave-in-Some.ensures ∙ c.if-all_leave.true in
    c.all_leave-then-all_leave.ensures ∙ ap (λ ss. rules.all_leave (stat_views ss Nothing)) c.as_slice-then-all_leave.ensures.value
    ∙ ap (λ b. b && rules.all_leave (stat_views c.in-Some.other.items Nothing)) (sym first)
    ∙ sym (leaves_if w.field-0 w.field-1 w.body c.in-Some.other) ∙ ap (λ s. rules.leaves (view_stat s)) (sym (w.is ∙ ap (stat.If w.field-0 w.field-1 w.body) c.in-Some.is))

pub leaves-returns-else-all_leave : goal.leaves-returns-else-all_leave
leaves-returns-else-all_leave t c =
    let w = c.in-If in
    let first : rules.all_leave (stat_views w.body.items Nothing) ≡ false = ap (λ ss. rules.all_leave (stat_views ss Nothing)) (sym c.as_slice-in-Some.ensures.value) ∙ sym c.all_leave-in-Some.ensures ∙ c.if-all_leave.false in
    c.if-all_leave.false ∙ ap (λ b. b && rules.all_leave (stat_views c.in-Some.other.items Nothing)) (sym first)
    ∙ sym (leaves_if w.field-0 w.field-1 w.body c.in-Some.other) ∙ ap (λ s. rules.leaves (view_stat s)) (sym (w.is ∙ ap (stat.If w.field-0 w.field-1 w.body) c.in-Some.is))
