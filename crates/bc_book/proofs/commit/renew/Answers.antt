use Rattle.std.proofs.Common.{◌||◌, not, List, ap, ◌∙◌, get_or}
use Rattle.bc_data.specs.declared.run.Invocation.{Invocation}
use Rattle.bc_mean.specs.Enabled.{is_enabled}
use Rattle.bc_mean.specs.Serial.{listed}
use Rattle.bc_book_events.specs.Reshaped.{names_any}
use Rattle.bc_book.proofs.Readying.{none_left}
use Rattle.bc_book.proofs.commit.renew.Goals as goal

pub append_sorted-requires-clause-not_listed : goal.append_sorted-requires-clause-not_listed
append_sorted-requires-clause-not_listed c k d l =
    let s = c.requires.sets in
    let w : Invocation = get_or c.args.ready.now.found.appended k d in
    ap (λ (l : List Invocation). listed l w) (c.drop_if.ensures.listed s.0 s.1 s.2)
    ∙ none_left c.args.ready.now.found.falls (λ w. not (names_any c.as_slice.result.now w) || is_enabled s.0 s.1 w) c.forget.new.self.listed w
    (ap (λ (l : List Invocation). listed l w) c.forget.ensures.listed ∙ c.requires.append.not_listed k d l)
