-- The parts of a program as contracts see them.
use Rattle.bc_data.specs.Typed.{TypedProgram}
use Rattle.bc_types.specs.declared.walk.Parts.{Parts}

abbrev pub parts_seen : Parts → TypedProgram
parts_seen p = record { classes = p.classes.items; tag_types = p.tag_types.items; tasks = p.tasks.items }
