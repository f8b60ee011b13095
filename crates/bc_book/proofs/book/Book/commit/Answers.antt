use Rattle.std.proofs.Common.{◌≡◌, ◌<◌, Bool, ℕ, List, Option, length, None, Some, sym, ap, subst, ◌∙◌}
use Rattle.std.specs.Prelude.{All}
use Rattle.std.proofs.lemmas.Option.{same_Some}
use Rattle.bc_data.specs.declared.run.Changes.{Changes}
use Rattle.bc_data.specs.declared.run.Invocation.{Invocation}
use Rattle.bc_data.specs.declared.run.Ran.TheVariants as ran
use Rattle.bc_data.specs.declared.run.Stop.{Stop}
use Rattle.bc_code.specs.Given.{ids_of}
use Rattle.bc_step.specs.Area.{AgreesWith, AreaParts, given_of}
use Rattle.bc_mean.specs.Changes.{changes_between, fault_of_room}
use Rattle.bc_mean.specs.declared.plain.Plain.{Plain}
use Rattle.bc_machine.specs.Running.{IsAtExit, work_of}
use Rattle.bc_book_events.specs.declared.answers.Commit.{Commit}
use Rattle.bc_book_events.specs.declared.answers.Commit.TheVariants as ends
use Rattle.bc_book_events.specs.Book.{BookState, held_by}
use Rattle.bc_book_events.specs.Events.{Step, answers, commit_with_room, over}
use Rattle.bc_book_events.specs.Sound.{IsSoundBook}
use Rattle.bc_book_events.specs.SoundLaws.{EndsSo}
use Rattle.bc_book_events.specs.Steps.{put_back}
use Rattle.bc_law_core.specs.Areas.{IsAreaOf, WasEnabled, changes_of, moved_in}
use Rattle.bc_law_core.proofs.Areas.{areas_keep_sound, local_ends}
use Rattle.bc_book_reshaped.specs.Reshaped.{guard_tests}
use Rattle.bc_book.specs.Ends.{TestsAtMost, commits}
use Rattle.bc_book.specs.Kept.{IsKept, state_of}
use Rattle.bc_book.specs.declared.book.Book.TheInside.{Inside}
use Rattle.bc_book.proofs.Events.{commits_as, commits_going, commits_unmoved, lose_as}
use Rattle.bc_book.proofs.Unmoved.{unmoved_below}
use Rattle.bc_book.proofs.book.Book.commit.Goals as goal

-- the book, and the area of a worker's invocation at its exit
module _ (i : Inside) (b : BookState) (seen : state_of i ≡ b) (kept : IsKept i) (worker : ℕ) (a : AreaParts) (held : held_by b.running worker ≡ Some a.invocation) (was : WasEnabled b.program a) (exit : IsAtExit b.program a) where
  area : IsAreaOf b worker a
  area = record { sound = subst IsSoundBook seen kept.sound; held = held; was = was }

  sound : IsSoundBook (commits worker a b).book
  sound = areas_keep_sound.commit b worker a area exit

  is_over : (s : Stop) → i.stop ≡ Some s → commits worker a b ≡ over worker a.invocation s b
  is_over s e = commits_as b worker a (Some s) (subst (λ (z : BookState). z.stop ≡ Some s) seen e)

  sound_over : (s : Stop) → i.stop ≡ Some s → (v : Invocation) → held_by b.running worker ≡ Some v → IsSoundBook (over worker v s b).book
  sound_over s e v h =
      subst (λ (w : Invocation). IsSoundBook (over worker w s b).book) (same_Some _ _ (sym held ∙ h))
      (subst (λ (t : Step Commit). IsSoundBook t.book) (is_over s e) sound)

  going : i.stop ≡ None → b.stop ≡ None
  going e = subst (λ (z : BookState). z.stop ≡ None) seen e

  stands : (o q : Option ℕ) → o ≡ moved_in i.store.plain a → o ≡ q → moved_in b.store a ≡ q
  stands o q e is = subst (λ (z : BookState). moved_in z.store a ≡ q) seen (sym e ∙ is)

  is_moved : (id : ℕ) (o : Option ℕ) → i.stop ≡ None → o ≡ moved_in i.store.plain a → o ≡ Some id → commits worker a b ≡ answers (ends.Moved id) (put_back worker a.invocation b)
  is_moved id o e m is = commits_going b worker a (Some id) (going e) (stands o (Some id) m is)

  same : (o : Option Invocation) (v : Invocation) → o ≡ held_by i.pending.held worker → o ≡ Some v → a.invocation ≡ v
  same o v e is = same_Some _ _ (sym held ∙ subst (λ (z : BookState). held_by z.running worker ≡ Some v) seen (sym e ∙ is))

  module _ (none : moved_in b.store a ≡ None) (v : Invocation) (one : a.invocation ≡ v) (c : Changes) (found : (S : Plain) → AgreesWith S (given_of a.held) → c ≡ changes_between S (work_of a)) (touched : List ℕ) (ids : touched ≡ ids_of (given_of a.held)) where
    changed : c ≡ changes_of b.store a
    changed = found b.store (local_ends.exit_agrees b.program b.store a was exit none)

    there : All (λ id. id < length b.store.bodies) touched
    there = subst (λ (l : List ℕ). All (λ id. id < length b.store.bodies) l) (sym ids) (unmoved_below b.store (given_of a.held) none)

    ends_so : EndsSo b v (ran.Commit c) touched
    ends_so =
        subst (λ (d : Changes). EndsSo b v (ran.Commit d) touched) (sym changed)
        (subst (λ (l : List ℕ). EndsSo b v (ran.Commit (changes_of b.store a)) l) (sym ids)
        (subst (λ (w : Invocation). EndsSo b w (ran.Commit (changes_of b.store a)) (ids_of (given_of a.held))) one (local_ends.exit b worker a area exit none)))

    is_unmoved : b.stop ≡ None → commits worker a b ≡ commit_with_room (fault_of_room b.store c) c touched worker v b
    is_unmoved e = commits_unmoved b worker a v c touched e none one changed ids

    sound_unmoved : b.stop ≡ None → IsSoundBook (commit_with_room (fault_of_room b.store c) c touched worker v b).book
    sound_unmoved e = subst (λ (t : Step Commit). IsSoundBook t.book) (is_unmoved e) sound

pub over-requires-clause-sound : goal.over-requires-clause-sound
over-requires-clause-sound g c = sound_over c.self.inside c.args.self.now c.self.view_is c.self.invariant c.args.worker c.args.area.now c.requires.holds c.requires.was c.requires.exits c.in-Some.stop c.in-Some.is

pub returns-in-Some-clause-answer : goal.returns-in-Some-clause-answer
returns-in-Some-clause-answer g c =
    sym (ap (λ (s : Step Commit). s.answer) (is_over c.self.inside c.args.self.now c.self.view_is c.self.invariant c.args.worker c.args.area.now c.requires.holds c.requires.was c.requires.exits c.in-Some.stop c.in-Some.is))

pub returns-in-Some-clause-book : goal.returns-in-Some-clause-book
returns-in-Some-clause-book g c =
    c.over.ensures c.args.area.now.invocation c.requires.holds
    ∙ sym (ap (λ (s : Step Commit). s.book) (is_over c.self.inside c.args.self.now c.self.view_is c.self.invariant c.args.worker c.args.area.now c.requires.holds c.requires.was c.requires.exits c.in-Some.stop c.in-Some.is))

pub returns-in-Some-first_moved-clause-answer : goal.returns-in-Some-first_moved-clause-answer
returns-in-Some-first_moved-clause-answer g c =
    sym (ap (λ (s : Step Commit). s.answer) (is_moved c.self.inside c.args.self.now c.self.view_is c.self.invariant c.args.worker c.args.area.now c.requires.holds c.requires.was c.requires.exits c.in-Some-first_moved.id c.first_moved.result c.in_default.is c.first_moved.ensures c.in-Some-first_moved.is))

pub returns-in-Some-first_moved-clause-book : goal.returns-in-Some-first_moved-clause-book
returns-in-Some-first_moved-clause-book g c =
    c.lose.ensures.book c.args.area.now.invocation c.requires.holds
    ∙ ap (λ (s : Step Bool). s.book) (lose_as c.args.self.now c.args.worker c.args.area.now.invocation)
    ∙ sym (ap (λ (s : Step Commit). s.book) (is_moved c.self.inside c.args.self.now c.self.view_is c.self.invariant c.args.worker c.args.area.now c.requires.holds c.requires.was c.requires.exits c.in-Some-first_moved.id c.first_moved.result c.in_default.is c.first_moved.ensures c.in-Some-first_moved.is))

pub commit_changes-requires-clause-there : goal.commit_changes-requires-clause-there
commit_changes-requires-clause-there g c =
    let none = stands c.self.inside c.args.self.now c.self.view_is c.self.invariant c.args.worker c.args.area.now c.requires.holds c.requires.was c.requires.exits c.first_moved.result None c.first_moved.ensures c.in_default-first_moved.is in
    let one = same c.self.inside c.args.self.now c.self.view_is c.self.invariant c.args.worker c.args.area.now c.requires.holds c.requires.was c.requires.exits c.held.result c.in-Some-held.v c.held.ensures c.in-Some-held.is in
    there c.self.inside c.args.self.now c.self.view_is c.self.invariant c.args.worker c.args.area.now c.requires.holds c.requires.was c.requires.exits none c.in-Some-held.v one c.in_ok-changes.changes c.in_ok-changes.ensures c.touched.result.now c.touched.ensures

pub commit_changes-requires-clause-ends : goal.commit_changes-requires-clause-ends
commit_changes-requires-clause-ends g c =
    let none = stands c.self.inside c.args.self.now c.self.view_is c.self.invariant c.args.worker c.args.area.now c.requires.holds c.requires.was c.requires.exits c.first_moved.result None c.first_moved.ensures c.in_default-first_moved.is in
    let one = same c.self.inside c.args.self.now c.self.view_is c.self.invariant c.args.worker c.args.area.now c.requires.holds c.requires.was c.requires.exits c.held.result c.in-Some-held.v c.held.ensures c.in-Some-held.is in
    ends_so c.self.inside c.args.self.now c.self.view_is c.self.invariant c.args.worker c.args.area.now c.requires.holds c.requires.was c.requires.exits none c.in-Some-held.v one c.in_ok-changes.changes c.in_ok-changes.ensures c.touched.result.now c.touched.ensures

pub commit_changes-requires-clause-sound : goal.commit_changes-requires-clause-sound
commit_changes-requires-clause-sound g c =
    let none = stands c.self.inside c.args.self.now c.self.view_is c.self.invariant c.args.worker c.args.area.now c.requires.holds c.requires.was c.requires.exits c.first_moved.result None c.first_moved.ensures c.in_default-first_moved.is in
    let one = same c.self.inside c.args.self.now c.self.view_is c.self.invariant c.args.worker c.args.area.now c.requires.holds c.requires.was c.requires.exits c.held.result c.in-Some-held.v c.held.ensures c.in-Some-held.is in
    sound_unmoved c.self.inside c.args.self.now c.self.view_is c.self.invariant c.args.worker c.args.area.now c.requires.holds c.requires.was c.requires.exits none c.in-Some-held.v one c.in_ok-changes.changes c.in_ok-changes.ensures c.touched.result.now c.touched.ensures
    (subst (λ (z : BookState). z.stop ≡ None) c.self.view_is c.in_default.is)

unmoved : (g : _) (c : goal.Joined-ended g) → commits c.args.worker c.args.area.now c.args.self.now ≡ commit_with_room (fault_of_room c.args.self.now.store c.in_ok-changes.changes) c.in_ok-changes.changes c.touched.result.now c.args.worker c.in-Some-held.v c.args.self.now
unmoved g c =
    let none = stands c.self.inside c.args.self.now c.self.view_is c.self.invariant c.args.worker c.args.area.now c.requires.holds c.requires.was c.requires.exits c.first_moved.result None c.first_moved.ensures c.in_default-first_moved.is in
    let one = same c.self.inside c.args.self.now c.self.view_is c.self.invariant c.args.worker c.args.area.now c.requires.holds c.requires.was c.requires.exits c.held.result c.in-Some-held.v c.held.ensures c.in-Some-held.is in
    is_unmoved c.self.inside c.args.self.now c.self.view_is c.self.invariant c.args.worker c.args.area.now c.requires.holds c.requires.was c.requires.exits none c.in-Some-held.v one c.in_ok-changes.changes c.in_ok-changes.ensures c.touched.result.now c.touched.ensures
    (subst (λ (z : BookState). z.stop ≡ None) c.self.view_is c.in_default.is)

pub returns-clause-answer : goal.returns-clause-answer
returns-clause-answer g c = c.in_ok-ended.ensures.answer ∙ sym (ap (λ (s : Step Commit). s.answer) (unmoved g c))

pub returns-clause-book : goal.returns-clause-book
returns-clause-book g c = c.in_ok-ended.ensures.book ∙ sym (ap (λ (s : Step Commit). s.book) (unmoved g c))

pub returns-clause-steps : goal.returns-clause-steps
returns-clause-steps g c =
    let none = stands c.self.inside c.args.self.now c.self.view_is c.self.invariant c.args.worker c.args.area.now c.requires.holds c.requires.was c.requires.exits c.first_moved.result None c.first_moved.ensures c.in_default-first_moved.is in
    let one = same c.self.inside c.args.self.now c.self.view_is c.self.invariant c.args.worker c.args.area.now c.requires.holds c.requires.was c.requires.exits c.held.result c.in-Some-held.v c.held.ensures c.in-Some-held.is in
    subst (λ (d : Changes). TestsAtMost (guard_tests c.args.self.now.program d) c.args.steps.now c.commit_changes.new.steps c.in_ok-ended.ended)
    (changed c.self.inside c.args.self.now c.self.view_is c.self.invariant c.args.worker c.args.area.now c.requires.holds c.requires.was c.requires.exits none c.in-Some-held.v one c.in_ok-changes.changes c.in_ok-changes.ensures c.touched.result.now c.touched.ensures)
    c.in_ok-ended.ensures.steps
