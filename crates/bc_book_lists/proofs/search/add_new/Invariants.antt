use Rattle.std.proofs.Common.{◌&&◌, take}
use Rattle.bc_mean.specs.Serial.{listed}
use Rattle.bc_book_lists.specs.Search.{Adds, is_new}
use Rattle.bc_book_lists.proofs.search.add_new.Given as goal

abbrev pub invariant-loop-v : goal.invariant-loop-v
invariant-loop-v l = Adds (λ w. listed (take l.v-index l.offered) w && is_new l.before l.pending.held w) l.initial.found.items l.found.items
