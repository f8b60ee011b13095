use Rattle.std.proofs.Common.{◌≡◌, subst}
use Rattle.bc_mean.specs.Enabled.{is_enabled}
use Rattle.bc_book_events.specs.Book.{BookState}
use Rattle.bc_book.specs.Kept.{state_of}
use Rattle.bc_params.proofs.Searchable.{program_binds}
use Rattle.bc_book.proofs.book.Book.is_enabled.Goals as goal

pub returns : goal.returns
returns c =
    let b = state_of c.self.inside in
    subst (λ (z : BookState). c.is_enabled.result ≡ is_enabled z.program z.store c.args.v) c.self.view_is
    (c.is_enabled.ensures b.program b.store c.self.invariant.sets (program_binds b.program c.self.invariant.sound.typed))
