use Rattle.std.proofs.Common.{true, ◌&&◌, take}
use Rattle.bc_mean.specs.Serial.{listed}
use Rattle.bc_book_lists.specs.Search.{Adds}
use Rattle.bc_book_lists.proofs.search.add_all.Given as goal

abbrev pub invariant-loop-v : goal.invariant-loop-v
invariant-loop-v l = Adds (λ w. listed (take l.v-index l.offered) w && true) l.initial.found.items l.found.items
