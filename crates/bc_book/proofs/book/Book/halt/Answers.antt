use Rattle.std.proofs.Common.{Option, sym, ap, ◌∙◌}
use Rattle.bc_data.specs.declared.run.Stop.{Stop}
use Rattle.bc_data.specs.declared.run.Stop.TheVariants as stop
use Rattle.bc_book_events.specs.Book.{BookState}
use Rattle.bc_book_events.specs.Steps.{stopped}
use Rattle.bc_book.specs.Kept.{state_of}
use Rattle.bc_book.proofs.Events.{halt_as}
use Rattle.bc_book.proofs.book.Book.halt.Goals as goal

pub returns : goal.returns
returns c =
    ap (λ (o : Option Stop). let b : BookState = record (state_of c.self.inside) { stop = o } in b) c.or-self-inside.ensures
    ∙ ap (stopped stop.Memory) (c.self.view_is ∙ c.give_up.ensures.book)
    ∙ sym (halt_as c.args.self.now c.args.worker)
