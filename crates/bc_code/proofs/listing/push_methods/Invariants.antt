use Rattle.std.proofs.Common.{◌≡◌, ◌++◌, map, take}
use Rattle.bc_code.specs.Listing.{method_name}
use Rattle.bc_code.proofs.listing.push_methods.Given as goal

abbrev pub invariant-loop-method : goal.invariant-loop-method
invariant-loop-method l = l.names ≡ l.fn.names ++ map (method_name l.class) (take l.method-index l.methods)
