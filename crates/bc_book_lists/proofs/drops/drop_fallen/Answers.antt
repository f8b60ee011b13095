use Rattle.std.proofs.Common.{Bool, not, ◌||◌, ap, ◌∙◌}
use Rattle.bc_mean.specs.Enabled.{is_enabled}
use Rattle.bc_book_events.specs.Reshaped.{names_any}
use Rattle.bc_book_lists.specs.Search.{stays_behind}
use Rattle.bc_book_lists.proofs.Dropping.{by_sets, same_filter}
use Rattle.bc_book_lists.proofs.drops.drop_fallen.Goals as goal

pub returns-clause-listed : goal.returns-clause-listed
returns-clause-listed c P S of =
    c.drop_each.ensures.listed
    ∙ same_filter (stays_behind c.args.params.now.kept c.args.reshaped.now) (λ w. not (names_any c.args.reshaped.now w) || is_enabled P S w)
    (λ w. ap (λ (b : Bool). not (names_any c.args.reshaped.now w) || b) (by_sets P S c.args.params.now.kept of w)) c.args.pending.now.listed
