use Rattle.std.proofs.Common.{◌&&◌, take}
use Rattle.bc_data.specs.Typed.{TypedProgram}
use Rattle.bc_mean.specs.declared.plain.Plain.{Plain}
use Rattle.bc_mean.specs.Enabled.{is_enabled}
use Rattle.bc_mean.specs.Serial.{has_failure}
use Rattle.bc_book_events.specs.Reshaped.{failures_dropped}
use Rattle.bc_book_lists.specs.Search.{Adds, AreOf}
use Rattle.bc_book_lists.proofs.search.add_dropped.Given as goal

abbrev pub invariant-loop-id : goal.invariant-loop-id
invariant-loop-id l = (P : TypedProgram) (S : Plain) → AreOf P S l.params.kept → Adds (λ w. has_failure (failures_dropped (take l.id-index l.changed) l.failures.failures) w && is_enabled P S w) l.initial.found.items l.found.items
