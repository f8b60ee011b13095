use Rattle.bc_data.proofs.Decimal.{no_plus, no_leading_zero, parsed, not_parsed, not_utf8, not_empty}
use Rattle.std.proofs.Common.{arith}
use Rattle.bc_data.proofs.text.read_decimal.Goals as goal
use Rattle.bc_data.proofs.text.read_decimal.Goals.{then-is_empty-via-then-is_empty, then-is_empty-via-else-is_empty+then-text-eq-PLUS, then-is_empty-via-else-is_empty+else-text-eq-PLUS+then-text-gt1}

pub returns-then-is_empty-clause-none : goal.returns-then-is_empty-clause-none
returns-then-is_empty-clause-none c =
    elim c.then-is_empty.branch [
      | then-is_empty-via-then-is_empty w ↦ λ n. not_empty c.args.text.now n (grind arith)
      | then-is_empty-via-else-is_empty+then-text-eq-PLUS w ↦ λ n. no_plus c.args.text.now n w.if-text-eq-PLUS.true
      | then-is_empty-via-else-is_empty+else-text-eq-PLUS+then-text-gt1 w ↦
          λ n. no_leading_zero c.args.text.now n w.if-text-gt1.true.0 w.if-text-gt1.true.1
    ]

pub returns-in_default-clause-none : goal.returns-in_default-clause-none
returns-in_default-clause-none c = λ n. not_utf8 c.args.text.now n c.in_default.ensures.cases.0

pub returns-in-Ok-parse-clause-some : goal.returns-in-Ok-parse-clause-some
returns-in-Ok-parse-clause-some c =
    parsed c.args.text.now _ (rw (← c.in-Ok.ensures.cases.0) c.in-Ok-parse.ensures.value.0) c.if-text-eq-PLUS.false c.if-text-gt1.either

pub returns-in-Err-clause-none : goal.returns-in-Err-clause-none
returns-in-Err-clause-none c =
    λ n. not_parsed c.args.text.now c.in-Err.field-0 n (rw (← c.in-Ok.ensures.cases.0) c.in-Err.ensures.value.0) c.if-text-eq-PLUS.false
