-- An invocation leaves its worker.
use Rattle.std.proofs.Common.{◌≡◌, ℕ, Bool, false, cond, List, [], ◌∷◌, ◌++◌, length, length-set, Option, Some, None, sym, ap, ap₂, subst, ◌∙◌}
use Rattle.std.specs.Prelude.{option_to_list, slice_set}
use Rattle.bc_data.specs.declared.run.Invocation.{Invocation}
use Rattle.bc_mean.specs.Enabled.{is_enabled}
use Rattle.bc_pending.specs.Lists.{Lists}
use Rattle.bc_book_events.specs.declared.answers.Begun.{Begun}
use Rattle.bc_book_events.specs.declared.answers.Begun.TheVariants as begins
use Rattle.bc_book_events.specs.Book.{BookState, held_by}
use Rattle.bc_book_events.specs.Events.{Step, answers, begin}
use Rattle.bc_book_events.specs.Sound.{IsSoundBook}
use Rattle.bc_book_events.specs.SoundLaws.{KeepsSoundBook}
use Rattle.bc_book_events.specs.Steps.{put_back}
use Rattle.bc_book.specs.declared.book.Book.TheInside.{Inside}
use Rattle.bc_book.specs.Kept.{IsKept, state_of}
use Rattle.bc_book.proofs.Events.{begin_as, lose_as}
use Rattle.bc_book.proofs.Kept.{kept_with, with_lists}

module _ (i : Inside) (worker : ℕ) (v : Invocation) (new : Lists) (held : held_by i.pending.held worker ≡ Some v) (left : new.held ≡ slice_set i.pending.held worker None) where
  left_size : length new.held ≡ length i.pending.held
  left_size = ap length left ∙ length-set i.pending.held worker None

  -- to the end of the list, or away
  pub back_state : (back : Bool) → back ≡ is_enabled i.program i.store.plain v → new.listed ≡ cond back (i.pending.listed ++ option_to_list (held_by i.pending.held worker)) i.pending.listed
      → put_back worker v (state_of i) ≡ state_of (with_lists i new i.stop)
  back_state back e listed =
      let same : cond (is_enabled i.program i.store.plain v) (i.pending.listed ++ v ∷ []) i.pending.listed ≡ new.listed =
      ap (λ (t : Bool). cond t (i.pending.listed ++ v ∷ []) i.pending.listed) (sym e)
      ∙ ap (λ (o : Option Invocation). cond back (i.pending.listed ++ option_to_list o) i.pending.listed) (sym held)
      ∙ sym listed in
      ap₂ (λ (l : List Invocation) (h : List (Option Invocation)). let b : BookState = record (state_of i) { pending = l; running = h } in b) same (sym left)

  pub back_kept : KeepsSoundBook → IsKept i → (back : Bool) → back ≡ is_enabled i.program i.store.plain v → new.listed ≡ cond back (i.pending.listed ++ option_to_list (held_by i.pending.held worker)) i.pending.listed
      → IsKept (with_lists i new i.stop)
  back_kept law kept back e listed =
      kept_with i new i.stop kept left_size
      (subst IsSoundBook (ap (λ (s : Step Bool). s.book) (lose_as (state_of i) worker v) ∙ back_state back e listed) (law.lose (state_of i) worker v kept.sound held))

  -- away
  pub stale_begin : is_enabled i.program i.store.plain v ≡ false → new.listed ≡ i.pending.listed → begin worker v (state_of i) ≡ answers begins.Stale (state_of (with_lists i new i.stop))
  stale_begin e listed =
      begin_as (state_of i) worker v false e
      ∙ ap₂ (λ (l : List Invocation) (h : List (Option Invocation)). answers begins.Stale (record (state_of i) { pending = l; running = h })) (sym listed) (sym left)

  pub stale_kept : KeepsSoundBook → IsKept i → is_enabled i.program i.store.plain v ≡ false → new.listed ≡ i.pending.listed → IsKept (with_lists i new i.stop)
  stale_kept law kept e listed =
      kept_with i new i.stop kept left_size
      (subst IsSoundBook (ap (λ (s : Step Begun). s.book) (stale_begin e listed)) (law.begin (state_of i) worker v kept.sound held))
