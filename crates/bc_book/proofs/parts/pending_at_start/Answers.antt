use Rattle.std.proofs.Common.{◌≡◌, All, false, List, Option, sym, subst, get_or, ap, ◌∙◌}
use Rattle.bc_data.specs.declared.run.Invocation.{Invocation}
use Rattle.bc_mean.specs.declared.plain.Plain.{Plain}
use Rattle.bc_mean.specs.Enabled.{all_enabled}
use Rattle.bc_pending.specs.Lists.{HasObjects, is_held}
use Rattle.bc_book.proofs.AtStart.{none_held, start_objects}
use Rattle.bc_book.proofs.parts.pending_at_start.Goals as goal

pub append_sorted-requires-clause-not_held : goal.append_sorted-requires-clause-not_held
append_sorted-requires-clause-not_held c k d low =
    let v = get_or c.in_ok-enabled.enabled k d in
    subst (λ (held : List (Option Invocation)). is_held held v ≡ false) (sym (c.in_ok-reserve.ensures.held ∙ c.in_ok-pending.ensures.1)) (none_held c.args.workers v)

pub append_sorted-requires-clause-objects : goal.append_sorted-requires-clause-objects
append_sorted-requires-clause-objects c =
    subst (λ (vs : List Invocation). All HasObjects vs) (sym (c.in_ok-enabled.ensures ∙ ap (λ (S : Plain). all_enabled c.args.program.now S) c.in_ok-store.ensures))
    (start_objects c.enabled_names.ensures c.args.program.now c.args.input.now c.is_well_typed.ensures)
