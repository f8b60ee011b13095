use Rattle.std.proofs.Common.{◌≡◌, true, false, Some, List, sym, ap, subst, ◌∙◌}
use Rattle.std.specs.Prelude.{slice_get}
use Rattle.std.specs.List.{filter_map}
use Rattle.std.proofs.lemmas.Option.{same_Some}
use Rattle.bc_data.specs.declared.run.Body.{Body}
use Rattle.bc_data.specs.declared.run.Invocation.{Invocation}
use Rattle.bc_mean.specs.Enabled.{is_enabled}
use Rattle.bc_book_events.specs.declared.answers.Begun.{Begun}
use Rattle.bc_book_events.specs.declared.answers.Begun.TheVariants as begins
use Rattle.bc_book_events.specs.Book.{BookState, held_by}
use Rattle.bc_book_events.specs.Events.{Step, answers, begin}
use Rattle.bc_book.specs.Kept.{state_of}
use Rattle.bc_book.proofs.Events.{begin_as}
use Rattle.bc_book.proofs.Kept.{seen, with_lists}
use Rattle.bc_book.proofs.Leaving.{stale_begin, stale_kept}
use Rattle.bc_book.proofs.book.Book.begin.Goals as goal

-- it is not enabled any more
refused : (c : goal.After-forget) → is_enabled c.self.inside.program c.self.inside.store.plain c.in-Some.v ≡ false
refused c = subst (λ (b : BookState). is_enabled b.program b.store c.in-Some.v ≡ false) (sym c.self.view_is) (sym c.is_enabled.ensures ∙ c.if-not-is_enabled.true)

pub invariant_of-self : goal.invariant_of-self
invariant_of-self c =
    stale_kept c.self.inside c.args.worker c.in-Some.v c.forget.new.self (sym c.held.ensures ∙ c.in-Some.is) c.forget.ensures.held
    c.keeps_sound_book.ensures c.self.invariant (refused c) c.forget.ensures.listed

stale : (c : goal.After-forget) (v : Invocation) → held_by c.args.self.now.running c.args.worker ≡ Some v → begin c.args.worker v c.args.self.now ≡ answers begins.Stale (state_of (with_lists c.self.inside c.forget.new.self c.self.inside.stop))
stale c v e =
    let held = sym c.held.ensures ∙ c.in-Some.is in
    let same : c.in-Some.v ≡ v = same_Some _ _ (sym held ∙ subst (λ (b : BookState). held_by b.running c.args.worker ≡ Some v) (sym c.self.view_is) e) in
    ap (λ (w : Invocation). begin c.args.worker w c.args.self.now) (sym same)
    ∙ seen (begin c.args.worker c.in-Some.v) _ _ _ c.self.view_is
    (stale_begin c.self.inside c.args.worker c.in-Some.v c.forget.new.self held c.forget.ensures.held (refused c) c.forget.ensures.listed)

pub returns-then-not-is_enabled-clause-answer : goal.returns-then-not-is_enabled-clause-answer
returns-then-not-is_enabled-clause-answer c v e = sym (ap (λ (s : Step Begun). s.answer) (stale c v e))

pub returns-then-not-is_enabled-clause-book : goal.returns-then-not-is_enabled-clause-book
returns-then-not-is_enabled-clause-book c v e = sym (ap (λ (s : Step Begun). s.book) (stale c v e))

-- it is enabled
ready : (c : goal.In_ok-bodies) (v : Invocation) → held_by c.args.self.now.running c.args.worker ≡ Some v → begin c.args.worker v c.args.self.now ≡ answers (begins.Ready c.in_ok-bodies.bodies) c.args.self.now
ready c v e =
    let b = c.args.self.now in
    let held : held_by b.running c.args.worker ≡ Some c.in-Some.v = subst (λ (z : BookState). held_by z.running c.args.worker ≡ Some c.in-Some.v) c.self.view_is (sym c.held.ensures ∙ c.in-Some.is) in
    let same : c.in-Some.v ≡ v = same_Some _ _ (sym held ∙ e) in
    let bodies : c.in_ok-bodies.bodies ≡ filter_map (slice_get b.store.bodies) c.in-Some.v.objects =
    c.in_ok-bodies.ensures ∙ ap (λ (ids : List _). filter_map (slice_get c.self.inside.store.plain.bodies) ids) c.as_slice.ensures.value
    ∙ ap (λ (z : BookState). filter_map (slice_get z.store.bodies) c.in-Some.v.objects) c.self.view_is in
    ap (λ (w : Invocation). begin c.args.worker w b) (sym same)
    ∙ begin_as b c.args.worker c.in-Some.v true (sym c.is_enabled.ensures ∙ c.if-not-is_enabled.false)
    ∙ ap (λ (bs : List Body). answers (begins.Ready bs) b) (sym bodies)

pub returns-clause-answer : goal.returns-clause-answer
returns-clause-answer c v e = sym (ap (λ (s : Step Begun). s.answer) (ready c v e))

pub returns-clause-book : goal.returns-clause-book
returns-clause-book c v e = sym (ap (λ (s : Step Begun). s.book) (ready c v e))
