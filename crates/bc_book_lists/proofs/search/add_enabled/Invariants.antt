use Rattle.std.proofs.Common.{◌&&◌, take}
use Rattle.bc_data.specs.Typed.{TypedProgram}
use Rattle.bc_mean.specs.declared.plain.Plain.{Plain}
use Rattle.bc_mean.specs.Enabled.{is_enabled}
use Rattle.bc_mean.specs.Serial.{listed}
use Rattle.bc_book_lists.specs.Search.{Adds, AreOf}
use Rattle.bc_book_lists.proofs.search.add_enabled.Given as goal

abbrev pub invariant-loop-v : goal.invariant-loop-v
invariant-loop-v l = (P : TypedProgram) (S : Plain) → AreOf P S l.params.kept → Adds (λ w. listed (take l.v-index l.offered) w && is_enabled P S w) l.initial.found.items l.found.items
