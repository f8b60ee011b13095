use Rattle.std.proofs.Common.{◌≡◌, ◌++◌, length, take}
use Rattle.std.specs.List.{flat_map, zip}
use Rattle.bc_code.specs.Listing.{unit_text}
use Rattle.bc_code.proofs.listing.push_units.Given as goal

abbrev pub invariant-loop-name : goal.invariant-loop-name
invariant-loop-name l = l.text ≡ l.fn.text ++ flat_map (unit_text l.program) (zip (take (length l.yielded) l.names) (take (length l.yielded) l.units))
