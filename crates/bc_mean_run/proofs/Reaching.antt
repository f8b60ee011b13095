-- An object is reached in two steps.
use Rattle.std.proofs.Common.{◌≡◌, refl}
use Rattle.bc_data.specs.declared.run.Place.{Place}
use Rattle.bc_data.specs.declared.run.Value.{Value}
use Rattle.bc_data.specs.declared.run.Value.TheVariants as value
use Rattle.bc_mean.specs.Work.{Look, Work, and_then, reach}
use Rattle.bc_mean_run.specs.Tree.{found, touched}

pub reach_is : (L : Look) (at : Place) (x : Value) (w : Work) → reach L at x w ≡ and_then (touched at x w) (λ o v. found L o v)
reach_is L at value.Null w = refl
reach_is L at (value.Old id) w = refl
reach_is L at (value.New n) w = refl
reach_is L at (value.Int n) w = refl
reach_is L at (value.Bool b) w = refl
