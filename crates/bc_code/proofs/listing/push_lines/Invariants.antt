use Rattle.std.proofs.Common.{◌≡◌, ◌++◌, take}
use Rattle.std.specs.List.{flat_map, enumerate_from}
use Rattle.bc_code.specs.Listing.{instruction_line}
use Rattle.bc_code.proofs.listing.push_lines.Given as goal

abbrev pub invariant-loop-number : goal.invariant-loop-number
invariant-loop-number l = l.text ≡ l.fn.text ++ flat_map (instruction_line l.program) (enumerate_from 0 (take l.number l.code))
