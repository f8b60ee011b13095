use Rattle.std.proofs.Common.{Option, sym, ap, ◌∙◌}
use Rattle.bc_data.specs.declared.run.Invocation.{Invocation}
use Rattle.bc_mean.specs.Enabled.{is_enabled, is_some_and}
use Rattle.bc_params.proofs.Searchable.{program_binds}
use Rattle.bc_book_lists.proofs.count.is_enabled_in.Goals as goal

pub returns-in-Some : goal.returns-in-Some
returns-in-Some c P S of = c.is_enabled.ensures P S of.sets (program_binds P of.typed) ∙ ap (λ (o : Option Invocation). is_some_and o (is_enabled P S)) (sym c.in-Some.is)
