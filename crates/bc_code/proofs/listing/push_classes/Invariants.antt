use Rattle.std.proofs.Common.{◌≡◌, ◌++◌, take}
use Rattle.std.specs.List.{flat_map}
use Rattle.bc_code.specs.Listing.{class_names}
use Rattle.bc_code.proofs.listing.push_classes.Given as goal

abbrev pub invariant-loop-class : goal.invariant-loop-class
invariant-loop-class l = l.names ≡ l.fn.names ++ flat_map class_names (take l.class-index l.classes)
