use Rattle.std.proofs.Common.{◌≡◌, length, sym, ap, subst, ◌∙◌, arith}
use Rattle.std.proofs.lemmas.Option.{same_Some}
use Rattle.bc_data.specs.declared.run.Invocation.{Invocation}
use Rattle.bc_data.specs.declared.run.Stop.TheVariants as stop
use Rattle.bc_mean.specs.Changes.{apply_changes}
use Rattle.bc_book_events.specs.declared.answers.Commit.{Commit}
use Rattle.bc_book_events.specs.Book.{BookState}
use Rattle.bc_book_events.specs.Events.{Step, over}
use Rattle.bc_book_events.specs.Sound.{IsSoundBook}
use Rattle.bc_book.proofs.Committing.{commit_spent}
use Rattle.bc_book.proofs.book.Book.commit_to.Goals as goal

pub over-requires-clause-sound : goal.over-requires-clause-sound
over-requires-clause-sound g c w h =
    let none : length c.self.inside.history.items ≡ c.self.inside.limit = omega (arith, c.len.ensures, c.if-len-self.true) in
    let spent = commit_spent c.args.self.now (apply_changes c.args.self.now.store c.args.changes) c.args.worker c.args.v (subst (λ (b : BookState). length b.history ≡ b.limit) c.self.view_is none) in
    subst (λ (u : Invocation). IsSoundBook (over c.args.worker u (stop.Spent c.args.v) c.args.self.now).book) (same_Some c.args.v w (sym c.requires.holds ∙ h))
    (subst (λ (s : Step Commit). IsSoundBook s.book) spent c.requires.sound)

pub returns-then-len-self-clause-book : goal.returns-then-len-self-clause-book
returns-then-len-self-clause-book g c =
    let none : length c.self.inside.history.items ≡ c.self.inside.limit = omega (arith, c.len.ensures, c.if-len-self.true) in
    let spent = commit_spent c.args.self.now (apply_changes c.args.self.now.store c.args.changes) c.args.worker c.args.v (subst (λ (b : BookState). length b.history ≡ b.limit) c.self.view_is none) in
    c.over.ensures c.args.v c.requires.holds ∙ sym (ap (λ (s : Step Commit). s.book) spent)
