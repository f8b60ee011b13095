-- The class that each program has from the start, with a flag and a field.
use Rattle.std.specs.Prelude.{codes, [], ◌∷◌, None}
use Rattle.bc_data.specs.declared.program.Shape.TheVariants as shape
use Rattle.bc_data.specs.Typed.{TypedClass}

abbrev pub startup_class : TypedClass
startup_class = record {
  name = codes "StartupObject";
  flags = codes "initialstate" ∷ [];
  fields = record { name = codes "input"; shape = shape.Ints } ∷ [];
  maker = None;
  methods = [];
}
