use Rattle.std.proofs.Common.{◌&&◌, take}
use Rattle.bc_data.specs.Typed.{TypedProgram}
use Rattle.bc_mean.specs.declared.plain.Plain.{Plain}
use Rattle.bc_mean.specs.Enabled.{is_enabled}
use Rattle.bc_book_events.specs.Reshaped.{names_any}
use Rattle.bc_book_lists.specs.Search.{Adds, AreOf}
use Rattle.bc_book_lists.proofs.search.add_naming.Given as goal

abbrev pub invariant-loop-id : goal.invariant-loop-id
invariant-loop-id l = (P : TypedProgram) (S : Plain) → AreOf P S l.params.kept → Adds (λ w. names_any (take l.id-index l.reshaped) w && is_enabled P S w) l.initial.found.items l.found.items
