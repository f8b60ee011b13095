use Rattle.std.proofs.Common.{◌≡◌, drop}
use Rattle.bc_types_rules.specs.Context.{find_in}
use Rattle.bc_types_expr.specs.Scopes.{known_seen}
use Rattle.bc_types_expr.proofs.scope.find_name.Given as goal

abbrev pub invariant-loop-l : goal.invariant-loop-l
invariant-loop-l l = find_in (known_seen l.known) l.name ≡ find_in (known_seen (drop l.l-index l.known)) l.name
