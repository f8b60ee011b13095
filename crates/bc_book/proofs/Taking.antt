-- An invocation moves from the pending list to a worker.
use Rattle.std.proofs.Common.{◌≡◌, ℕ, ◌<◌, Bool, true, false, cond, ◌||◌, inl, inr, List, [], ◌∷◌, length, length-set, Option, Some, None, IfSome, IfNone, refl, sym, ap, ap₂, subst, ◌∙◌}
use Rattle.std.specs.List.{find, list_any}
use Rattle.std.proofs.lemmas.Bool.{cases_Bool, false≢true}
use Rattle.bc_data.specs.declared.run.Invocation.{Invocation}
use Rattle.bc_mean.specs.Serial.{listed, same_invocation}
use Rattle.bc_pending.specs.Lists.{Lists, Moves}
use Rattle.bc_book_events.specs.declared.answers.Taken.{Taken}
use Rattle.bc_book_events.specs.declared.answers.Taken.TheVariants as taken
use Rattle.bc_book_events.specs.Book.{held_by, is_at_rest}
use Rattle.bc_book_events.specs.Events.{Step, answers, pick, take}
use Rattle.bc_book_events.specs.SoundLaws.{KeepsSoundBook}
use Rattle.bc_book_events.specs.Sound.{IsSoundBook}
use Rattle.bc_book.specs.declared.book.Book.TheInside.{Inside}
use Rattle.bc_book.specs.Kept.{IsKept, state_of}
use Rattle.bc_book.proofs.Events.{pick_as, take_as}
use Rattle.bc_book.proofs.Kept.{kept_with, with_lists}

pub none_found : {X : Type 0} (p : X → Bool) (xs : List X) → list_any p xs ≡ false → find p xs ≡ None
none_found p [] h = refl
none_found p (x ∷ xs) h =
    elim (cases_Bool (p x)) [
      | inl e ↦ absurd (false≢true (sym h ∙ ap (λ (t : Bool). t || list_any p xs) e))
      | inr e ↦ ap (λ (t : Bool). cond t (Some x) (find p xs)) e ∙ none_found p xs (sym (ap (λ (t : Bool). t || list_any p xs) e) ∙ h)
    ]

-- what a search for the first that passes leaves
pub record FirstOf (test : Invocation → Bool) (worker : ℕ) (o : Option Invocation) (old new : Lists) : Type 0 where
  pub some : IfSome o (λ v. Moves test worker v old new)
  pub none : IfNone o (list_any test old.listed ≡ false)
  pub unchanged : IfNone o (new ≡ old)

-- what a search for this very one leaves
pub record ThisOne (v : Invocation) (worker : ℕ) (found : Bool) (old new : Lists) : Type 0 where
  pub value : found ≡ listed old.listed v
  pub taken : found ≡ true → Moves (same_invocation v) worker v old new
  pub unchanged : found ≡ false → new ≡ old

abbrev pub got : Option Invocation → Taken
got None = taken.Idle
got (Some v) = taken.Got v

same_size : (test : Invocation → Bool) (worker : ℕ) (v : Invocation) (old new : Lists) → Moves test worker v old new → length new.held ≡ length old.held
same_size test worker v old new m = ap length m.held ∙ length-set old.held worker (Some v)

first_size : (test : Invocation → Bool) (worker : ℕ) (o : Option Invocation) (old new : Lists) → FirstOf test worker o old new → length new.held ≡ length old.held
first_size test worker None old new f = ap (λ (l : Lists). length l.held) f.unchanged
first_size test worker (Some v) old new f = same_size test worker v old new f.some

this_size : (v : Invocation) (worker : ℕ) (found : Bool) (old new : Lists) → ThisOne v worker found old new → length new.held ≡ length old.held
this_size v worker true old new f = same_size (same_invocation v) worker v old new (f.taken refl)
this_size v worker false old new f = ap (λ (l : Lists). length l.held) (f.unchanged refl)

module _ (i : Inside) (worker : ℕ) (new : Lists) where
  pub first_taken : (test : Invocation → Bool) (o : Option Invocation) → FirstOf test worker o i.pending new → i.stop ≡ None → is_at_rest (state_of i) ≡ false → take worker test (state_of i) ≡ answers (got o) (state_of (with_lists i new i.stop))
  first_taken test None f e busy =
      take_as (state_of i) worker test None e busy (none_found test i.pending.listed f.none)
      ∙ ap (λ (p : Lists). answers taken.Idle (state_of (with_lists i p i.stop))) (sym f.unchanged)
  first_taken test (Some v) f e busy =
      take_as (state_of i) worker test (Some v) e busy f.some.first
      ∙ ap₂ (λ (l : List Invocation) (h : List (Option Invocation)). answers (taken.Got v) (record (state_of i) { pending = l; running = h })) (sym f.some.listed) (sym f.some.held)

  pub this_picked : (v : Invocation) (found : Bool) → ThisOne v worker found i.pending new → pick worker v (state_of i) ≡ answers found (state_of (with_lists i new i.stop))
  this_picked v true f =
      pick_as (state_of i) worker v true (sym f.value)
      ∙ ap₂ (λ (l : List Invocation) (h : List (Option Invocation)). answers true (record (state_of i) { pending = l; running = h })) (sym (f.taken refl).listed) (sym (f.taken refl).held)
  this_picked v false f =
      pick_as (state_of i) worker v false (sym f.value)
      ∙ ap (λ (p : Lists). answers false (state_of (with_lists i p i.stop))) (sym (f.unchanged refl))

  module _ (law : KeepsSoundBook) (kept : IsKept i) (free : held_by i.pending.held worker ≡ None) (within : worker < length i.pending.held) where
    pub first_kept : (test : Invocation → Bool) (o : Option Invocation) → FirstOf test worker o i.pending new → i.stop ≡ None → is_at_rest (state_of i) ≡ false → IsKept (with_lists i new i.stop)
    first_kept test o f e busy =
        kept_with i new i.stop kept (first_size test worker o i.pending new f)
        (subst (λ (s : Step Taken). IsSoundBook s.book) (first_taken test o f e busy) (law.take (state_of i) worker test kept.sound free within))

    pub this_kept : (v : Invocation) (found : Bool) → ThisOne v worker found i.pending new → IsKept (with_lists i new i.stop)
    this_kept v found f =
        kept_with i new i.stop kept (this_size v worker found i.pending new f)
        (subst (λ (s : Step Bool). IsSoundBook s.book) (this_picked v found f) (law.pick (state_of i) worker v kept.sound free within))
