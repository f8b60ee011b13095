use Rattle.std.proofs.Common.{◌≡◌, Bool, Option, None, Some, refl, sym, ap, subst, ◌∙◌}
use Rattle.std.specs.Prelude.{IsSome}
use Rattle.std.proofs.lemmas.Bool.{false≢true}
use Rattle.bc_data.specs.declared.run.Invocation.{Invocation}
use Rattle.bc_data.specs.declared.run.Stop.{Stop}
use Rattle.bc_book_events.specs.Book.{BookState, held_by}
use Rattle.bc_book_events.specs.Events.{Step, over}
use Rattle.bc_book_events.specs.Sound.{IsSoundBook}
use Rattle.bc_book_events.specs.Steps.{stopped}
use Rattle.bc_book.specs.Kept.{state_of}
use Rattle.bc_book.proofs.Events.{lose_as}
use Rattle.bc_book.proofs.Kept.{kept_with}
use Rattle.bc_book.proofs.book.Book.over.Goals as goal

value : {A : Type 0} (o : Option A) → IsSome o → (x : A) × (o ≡ Some x)
value None h = absurd (false≢true h)
value (Some x) h = (x, refl)

state : (c : goal.After-self-1) (v : Invocation) → held_by c.args.self.now.running c.args.worker ≡ Some v → state_of (record c.self.inside { stop = c.or-self-inside.result }) ≡ (over c.args.worker v c.args.stop.now c.args.self.now).book
state c v held =
    ap (λ (o : Option Stop). let b : BookState = record (state_of c.self.inside) { stop = o } in b) c.or-self-inside.ensures
    ∙ ap (stopped c.args.stop.now) (c.self.view_is ∙ (c.lose.ensures.book v held ∙ ap (λ (s : Step Bool). s.book) (lose_as c.args.self.now c.args.worker v)))

pub invariant_of-self : goal.invariant_of-self
invariant_of-self c =
    let v = value (held_by c.args.self.now.running c.args.worker) c.requires.holds in
    kept_with c.self.inside c.self.inside.pending c.or-self-inside.result c.self.invariant refl
    (subst IsSoundBook (sym (state c v.0 v.1)) (c.requires.sound v.0 v.1))

pub returns : goal.returns
returns c v held = state c v held
