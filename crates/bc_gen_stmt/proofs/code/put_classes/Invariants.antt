use Rattle.std.proofs.Common.{take}
use Rattle.bc_gen_stmt.specs.Units.{HasClasses}
use Rattle.bc_gen_stmt.proofs.code.put_classes.Given as goal

abbrev pub invariant-loop-class : goal.invariant-loop-class
invariant-loop-class l = HasClasses l.classes (take l.class-index l.classes) l.initial.units l.units l.codes
