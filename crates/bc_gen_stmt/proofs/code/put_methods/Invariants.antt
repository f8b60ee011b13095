use Rattle.std.proofs.Common.{take}
use Rattle.bc_code.specs.Translation.{IsMethodUnit}
use Rattle.bc_gen_stmt.specs.Units.{Appended}
use Rattle.bc_gen_stmt.proofs.code.put_methods.Given as goal

abbrev pub invariant-loop-method : goal.invariant-loop-method
invariant-loop-method l = Appended (IsMethodUnit l.classes) (take l.method-index l.methods) l.initial.units l.units
