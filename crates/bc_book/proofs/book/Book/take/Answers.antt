use Rattle.std.proofs.Common.{◌≡◌, ◌<◌, None, Some, length, sym, ap, subst, ◌∙◌}
use Rattle.bc_data.specs.declared.run.Stop.TheVariants as stop
use Rattle.bc_pending.specs.Lists.{is_allowed}
use Rattle.bc_book_events.specs.declared.answers.Taken.{Taken}
use Rattle.bc_book_events.specs.declared.answers.Taken.TheVariants as taken
use Rattle.bc_book_events.specs.Book.{BookState, held_by}
use Rattle.bc_book_events.specs.Events.{Step, answers, take}
use Rattle.bc_book.specs.Kept.{state_of}
use Rattle.bc_book.proofs.Events.{take_end, take_over}
use Rattle.bc_book.proofs.Kept.{seen, with_lists}
use Rattle.bc_book.proofs.Taking.{FirstOf, first_kept, first_taken}
use Rattle.bc_book.proofs.book.Book.take.Goals as goal

-- the run is over
over : (c : goal.In-Some) → take c.args.worker (is_allowed c.args.tasks.now) c.args.self.now ≡ answers (taken.Over c.in-Some.stop) (state_of c.self.inside)
over c = seen (take c.args.worker (is_allowed c.args.tasks.now)) _ _ _ c.self.view_is (take_over (state_of c.self.inside) c.args.worker (is_allowed c.args.tasks.now) c.in-Some.stop c.in-Some.is)

pub returns-in-Some-clause-answer : goal.returns-in-Some-clause-answer
returns-in-Some-clause-answer c = sym (ap (λ (s : Step Taken). s.answer) (over c))

pub returns-in-Some-clause-book : goal.returns-in-Some-clause-book
returns-in-Some-clause-book c = sym c.self.view_is ∙ sym (ap (λ (s : Step Taken). s.book) (over c))

-- nothing is pending, and nothing is running
ends : (c : goal.After-self-1) → take c.args.worker (is_allowed c.args.tasks.now) c.args.self.now ≡ answers (taken.Over stop.End) (state_of (record c.self.inside { stop = Some stop.End }))
ends c =
    seen (take c.args.worker (is_allowed c.args.tasks.now)) _ _ _ c.self.view_is
    (take_end (state_of c.self.inside) c.args.worker (is_allowed c.args.tasks.now) c.in_default.is (sym c.is_at_rest.ensures ∙ c.if-is_at_rest.true))

pub returns-then-is_at_rest-clause-answer : goal.returns-then-is_at_rest-clause-answer
returns-then-is_at_rest-clause-answer c = sym (ap (λ (s : Step Taken). s.answer) (ends c))

pub returns-then-is_at_rest-clause-book : goal.returns-then-is_at_rest-clause-book
returns-then-is_at_rest-clause-book c = sym (ap (λ (s : Step Taken). s.book) (ends c))

-- the first that is allowed
first : (c : goal.In-Some-take_first_of) → FirstOf (is_allowed c.args.tasks.now) c.args.worker (Some c.in-Some-take_first_of.v) c.self.inside.pending c.take_first_of.new.self
first c = record { some = c.in-Some-take_first_of.ensures.some; none = c.in-Some-take_first_of.ensures.none; unchanged = c.in-Some-take_first_of.ensures.unchanged }

takes : (c : goal.In-Some-take_first_of) → take c.args.worker (is_allowed c.args.tasks.now) c.args.self.now ≡ answers (taken.Got c.in-Some-take_first_of.v) (state_of (with_lists c.self.inside c.take_first_of.new.self c.self.inside.stop))
takes c =
    seen (take c.args.worker (is_allowed c.args.tasks.now)) _ _ _ c.self.view_is
    (first_taken c.self.inside c.args.worker c.take_first_of.new.self (is_allowed c.args.tasks.now) (Some c.in-Some-take_first_of.v) (first c) c.in_default.is (sym c.is_at_rest.ensures ∙ c.if-is_at_rest.false))

pub invariant_of-self-2 : goal.invariant_of-self-2
invariant_of-self-2 c =
    first_kept c.self.inside c.args.worker c.take_first_of.new.self c.keeps_sound_book.ensures c.self.invariant
    (subst (λ (b : BookState). held_by b.running c.args.worker ≡ None) (sym c.self.view_is) c.requires.free)
    (subst (λ (b : BookState). c.args.worker < length b.running) (sym c.self.view_is) c.requires.worker)
    (is_allowed c.args.tasks.now) (Some c.in-Some-take_first_of.v) (first c) c.in_default.is (sym c.is_at_rest.ensures ∙ c.if-is_at_rest.false)

pub returns-clause-answer : goal.returns-clause-answer
returns-clause-answer c = sym (ap (λ (s : Step Taken). s.answer) (takes c))

pub returns-clause-book : goal.returns-clause-book
returns-clause-book c = sym (ap (λ (s : Step Taken). s.book) (takes c))

-- none is allowed
nothing : (c : goal.In_default-take_first_of) → take c.args.worker (is_allowed c.args.tasks.now) c.args.self.now ≡ answers taken.Idle (state_of (with_lists c.self.inside c.take_first_of.new.self c.self.inside.stop))
nothing c =
    seen (take c.args.worker (is_allowed c.args.tasks.now)) _ _ _ c.self.view_is
    (first_taken c.self.inside c.args.worker c.take_first_of.new.self (is_allowed c.args.tasks.now) None
    record { some = c.in_default-take_first_of.ensures.some; none = c.in_default-take_first_of.ensures.none; unchanged = c.in_default-take_first_of.ensures.unchanged }
    c.in_default.is (sym c.is_at_rest.ensures ∙ c.if-is_at_rest.false))

pub returns-in_default-take_first_of-clause-answer : goal.returns-in_default-take_first_of-clause-answer
returns-in_default-take_first_of-clause-answer c = sym (ap (λ (s : Step Taken). s.answer) (nothing c))

pub returns-in_default-take_first_of-clause-book : goal.returns-in_default-take_first_of-clause-book
returns-in_default-take_first_of-clause-book c = sym (ap (λ (s : Step Taken). s.book) (nothing c))
