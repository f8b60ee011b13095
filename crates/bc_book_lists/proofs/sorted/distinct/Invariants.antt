use Rattle.std.proofs.Common.{◌≡◌, ◌++◌, drop}
use Rattle.bc_book_lists.specs.Search.{distinct}
use Rattle.bc_book_lists.proofs.sorted.distinct.Given as goal

abbrev pub invariant-loop-i : goal.invariant-loop-i
invariant-loop-i l = distinct l.sorted ≡ l.kept ++ distinct (drop l.i l.sorted)
