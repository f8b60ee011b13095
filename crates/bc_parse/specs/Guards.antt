-- What the contracts of the reader of guards cite.
use Rattle.std.specs.Prelude.{◌≡◌, ℕ, ◌+◌, ◌≤◌, List, []}
use Rattle.bc_data.specs.Seen.{lexeme}
use Rattle.bc_data.specs.SourceTree.{Guard, guard_height}
use Rattle.bc_data.specs.declared.token.Token.{Token}
use Rattle.bc_law_grammar.specs.Machine.{flag_reach}
use Rattle.bc_parse_expr.specs.Contract.{first_kind}
use Rattle.bc_data.specs.SourceTree.{GuardOp, AndOp, OrOp}
use Rattle.bc_parse.specs.declared.guard.Join.{Join}
use Rattle.bc_parse.specs.declared.guard.Join.TheVariants as join

-- how loose the guards are that the first token ends
abbrev pub flag_reach_of : List Token → ℕ
flag_reach_of ts = flag_reach (lexeme [] 0 0 (first_kind ts))

abbrev pub IsGuardMeasured : ℕ → ℕ → Guard → Type 0
IsGuardMeasured base h g = (h ≡ guard_height g) × (h + base ≤ 64)

abbrev pub join_of : Join → GuardOp
join_of join.And = AndOp
join_of join.Or = OrOp
