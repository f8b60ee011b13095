use Rattle.std.proofs.Common.{◌≡◌, ◌≤◌, filter, take}
use Rattle.bc_book_lists.specs.Search.{stays_behind}
use Rattle.bc_book_lists.proofs.drops.drop_each.Given as goal

abbrev pub invariant-loop-id : goal.invariant-loop-id
invariant-loop-id g l = record {
  listed : l.pending.listed ≡ filter (stays_behind l.params.kept (take l.id-index l.reshaped)) l.initial.pending.listed;
  held : l.pending.held ≡ l.initial.pending.held;
  spare : l.initial.pending.spare ≤ l.pending.spare;
}
