use Rattle.std.proofs.Common.{◌≡◌, Bool, Option, IfSome, sym, ap, subst, ◌∙◌}
use Rattle.bc_data.specs.declared.run.Invocation.{Invocation}
use Rattle.bc_mean.specs.Enabled.{is_enabled}
use Rattle.bc_book_events.specs.Events.{Step, given_up}
use Rattle.bc_book.proofs.Events.{lose_as}
use Rattle.bc_book.proofs.book.Book.lose.Goals as goal

pub returns-clause-answer : goal.returns-clause-answer
returns-clause-answer c v e =
    let b = c.args.self.now in
    let back : c.give_up.result ≡ is_enabled b.program b.store v = subst (λ (o : Option Invocation). IfSome o (λ w. c.give_up.result ≡ is_enabled b.program b.store w)) e c.give_up.ensures.answer in
    back ∙ sym (ap (λ (s : Step Bool). s.answer) (lose_as b c.args.worker v))

pub returns-clause-book : goal.returns-clause-book
returns-clause-book c v e =
    let b = c.args.self.now in
    c.give_up.ensures.book ∙ ap (λ (o : Option Invocation). given_up c.args.worker o b) e ∙ sym (ap (λ (s : Step Bool). s.book) (lose_as b c.args.worker v))
