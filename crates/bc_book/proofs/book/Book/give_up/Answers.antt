use Rattle.std.proofs.Common.{◌≡◌, sym, subst, ◌∙◌}
use Rattle.bc_mean.specs.Enabled.{is_enabled}
use Rattle.bc_book_events.specs.Book.{BookState}
use Rattle.bc_book.proofs.Leaving.{back_kept}
use Rattle.bc_book.proofs.book.Book.give_up.Goals as goal

pub invariant_of-self : goal.invariant_of-self
invariant_of-self c =
    back_kept c.self.inside c.args.worker c.in-Some.v c.release.new.pending (sym c.held.ensures ∙ c.in-Some.is) c.release.ensures.held
    c.keeps_sound_book.ensures c.self.invariant c.is_enabled-back.result
    (subst (λ (b : BookState). c.is_enabled-back.result ≡ is_enabled b.program b.store c.in-Some.v) (sym c.self.view_is) c.is_enabled-back.ensures)
    c.release.ensures.listed
