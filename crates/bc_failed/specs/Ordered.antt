-- Failures without their touched objects, by invocation.
use Rattle.std.specs.Prelude.{if◌then◌else◌, List, [], ◌∷◌, map}
use Rattle.bc_mean.specs.Orders.{precedes}
use Rattle.bc_mean.specs.Serial.{Failed}
use Rattle.bc_data.specs.declared.run.Failure.{Failure}

abbrev pub failure_of : Failed → Failure
failure_of f = record { v = f.v; fault = f.fault }

-- one more, before the first that does not precede it
abbrev pub put : Failure → List Failure → List Failure
put f [] = f ∷ []
put f (g ∷ gs) = if precedes g.v f.v then g ∷ put f gs else f ∷ g ∷ gs

-- by invocation; those of one invocation keep their order
abbrev pub in_order : List Failure → List Failure
in_order [] = []
in_order (f ∷ fs) = put f (in_order fs)

-- the failures ascending by invocation
abbrev pub ordered : List Failed → List Failure
ordered fs = in_order (map failure_of fs)
