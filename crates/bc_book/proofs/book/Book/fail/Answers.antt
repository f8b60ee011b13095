use Rattle.std.proofs.Common.{◌≡◌, Bool, ℕ, ◌<◌, List, Option, length, None, Some, sym, ap, subst, ◌∙◌}
use Rattle.std.proofs.lemmas.Option.{same_Some}
use Rattle.std.specs.Prelude.{All}
use Rattle.bc_data.specs.declared.run.Invocation.{Invocation}
use Rattle.bc_step.specs.Area.{AreaParts, given_of}
use Rattle.bc_book_events.specs.declared.answers.Failing.{Failing}
use Rattle.bc_book_events.specs.declared.answers.Failing.TheVariants as failing
use Rattle.bc_book_events.specs.Book.{BookState, held_by}
use Rattle.bc_book_events.specs.Events.{Step, answers}
use Rattle.bc_book_events.specs.Sound.{IsSoundBook}
use Rattle.bc_book_events.specs.Steps.{put_back}
use Rattle.bc_law_core.specs.Areas.{moved_in}
use Rattle.bc_law_core.proofs.Areas.{areas_keep_sound}
use Rattle.bc_book.specs.Ends.{fails}
use Rattle.bc_book.specs.declared.book.Book.TheInside.{Inside}
use Rattle.bc_book.specs.Kept.{state_of}
use Rattle.bc_book.proofs.Events.{fails_as, fails_unmoved, lose_as}
use Rattle.bc_book.proofs.Unmoved.{unmoved_below}
use Rattle.bc_book.proofs.book.Book.fail.Goals as goal
use Rattle.bc_book.proofs.book.Book.fail.Goals.{After-lose, After-touched, In_ok-record}

-- a body has moved
moved : (c : goal.After-lose) → fails c.args.fault c.args.worker c.args.area.now c.args.self.now ≡ answers (failing.Moved c.in-Some.id) (put_back c.args.worker c.args.area.now.invocation c.args.self.now)
moved c =
    fails_as c.args.self.now c.args.fault c.args.worker c.args.area.now (Some c.in-Some.id)
    (subst (λ (b : BookState). moved_in b.store c.args.area.now ≡ Some c.in-Some.id) c.self.view_is (sym c.first_moved.ensures ∙ c.in-Some.is))

pub returns-in-Some-clause-answer : goal.returns-in-Some-clause-answer
returns-in-Some-clause-answer c = sym (ap (λ (s : Step Failing). s.answer) (moved c))

pub returns-in-Some-clause-book : goal.returns-in-Some-clause-book
returns-in-Some-clause-book c =
    c.lose.ensures.book c.args.area.now.invocation c.requires.holds
    ∙ ap (λ (s : Step Bool). s.book) (lose_as c.args.self.now c.args.worker c.args.area.now.invocation)
    ∙ sym (ap (λ (s : Step Failing). s.book) (moved c))

-- none has
module _ (i : Inside) (b : BookState) (seen : state_of i ≡ b) (worker : ℕ) (a : AreaParts) where
  stands : (o : Option ℕ) → o ≡ moved_in i.store.plain a → o ≡ None → moved_in b.store a ≡ None
  stands o e none = subst (λ (z : BookState). moved_in z.store a ≡ None) seen (sym e ∙ none)

  same : (o : Option Invocation) (v : Invocation) → held_by b.running worker ≡ Some a.invocation → o ≡ held_by i.pending.held worker → o ≡ Some v → a.invocation ≡ v
  same o v holds e is = same_Some _ _ (sym holds ∙ subst (λ (z : BookState). held_by z.running worker ≡ Some v) seen (sym e ∙ is))

unmoved : (c : goal.After-touched) → moved_in c.args.self.now.store c.args.area.now ≡ None
unmoved c = stands c.self.inside c.args.self.now c.self.view_is c.args.worker c.args.area.now c.first_moved.result c.first_moved.ensures c.in_default.is

pub record-requires-clause-there : goal.record-requires-clause-there
record-requires-clause-there c =
    subst (λ (ids : List ℕ). All (λ id. id < length c.args.self.now.store.bodies) ids) (sym c.touched.ensures)
    (unmoved_below c.args.self.now.store (given_of c.args.area.now.held) (unmoved c))

pub record-requires-clause-sound : goal.record-requires-clause-sound
record-requires-clause-sound c =
    subst (λ (s : Step Failing). IsSoundBook s.book)
    (fails_unmoved c.args.self.now c.args.fault c.args.worker c.args.area.now c.in-Some-held.v c.touched.result.now (unmoved c)
    (same c.self.inside c.args.self.now c.self.view_is c.args.worker c.args.area.now c.held.result c.in-Some-held.v c.requires.holds c.held.ensures c.in-Some-held.is) c.touched.ensures)
    (areas_keep_sound.fail c.args.self.now c.args.worker c.args.area.now c.args.fault
    record { sound = subst IsSoundBook c.self.view_is c.self.invariant.sound; held = c.requires.holds; was = c.requires.was }
    c.requires.faults)

done : (c : goal.In_ok-record) → fails c.args.fault c.args.worker c.args.area.now c.args.self.now ≡ answers failing.Recorded c.record.new.self
done c =
    fails_unmoved c.args.self.now c.args.fault c.args.worker c.args.area.now c.in-Some-held.v c.touched.result.now
    (stands c.self.inside c.args.self.now c.self.view_is c.args.worker c.args.area.now c.first_moved.result c.first_moved.ensures c.in_default.is)
    (same c.self.inside c.args.self.now c.self.view_is c.args.worker c.args.area.now c.held.result c.in-Some-held.v c.requires.holds c.held.ensures c.in-Some-held.is)
    c.touched.ensures
    ∙ ap (λ (b : BookState). answers failing.Recorded b) (sym c.in_ok-record.ensures.ok)

pub returns-clause-answer : goal.returns-clause-answer
returns-clause-answer c = sym (ap (λ (s : Step Failing). s.answer) (done c))

pub returns-clause-book : goal.returns-clause-book
returns-clause-book c = sym (ap (λ (s : Step Failing). s.book) (done c))
