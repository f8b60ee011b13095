use Rattle.std.proofs.Common.{◌≡◌, ℕ, ◌+◌, ◌≤◌, subst, arith}
use Rattle.bc_code.specs.Instructions.{start}
use Rattle.bc_step.specs.Area.{reads_of}
use Rattle.bc_step.specs.declared.state.Did.TheVariants as answer
use Rattle.bc_machine.specs.Course.{Reaches}
use Rattle.bc_machine.proofs.Courses.{at_halt, comes, keeps_more, may_step, not_past, on_err_from, one_more}
use Rattle.bc_machine.proofs.run.run_on.Goals as goal

pub step-requires : goal.step-requires
step-requires c =
    may_step c.args.code.now c.args.area.now c.loop.state c.loop.area c.loop.invariant.kept (c.requires.steps + c.loop.counter) c.requires.generated c.requires.rules
    (c.loop.invariant.reached (start c.args.code.now c.args.area.now.invocation) c.requires.steps c.requires.here)

pub returns-in_err-step-clause-err : goal.returns-in_err-step-clause-err
returns-in_err-step-clause-err c =
    on_err_from c.from_residual.result _
    (λ from k r. comes (reads_of c.args.area.now) c.args.code.now from (k + c.loop.counter) c.loop.state c.loop.area c.step.new.state c.step.new.area c.in_err-step.ensures.err (c.loop.invariant.reached from k r))

pub returns-in-Need-clause-ok : goal.returns-in-Need-clause-ok
returns-in-Need-clause-ok c = λ from k r.
    at_halt c.args.code.now c.args.area.now c.loop.state c.loop.area c.loop.invariant.kept c.in_ok-step.field-0 c.step.new.state c.step.new.area c.in_ok-step.ensures.ok (answer.Need c.in-Need.id) c.in-Need.is from (k + c.loop.counter) (c.loop.invariant.reached from k r)

pub returns-in-Need-clause-kept : goal.returns-in-Need-clause-kept
returns-in-Need-clause-kept c = keeps_more c.args.area.now c.loop.area c.step.new.area c.loop.invariant.kept c.in_ok-step.ensures.kept

pub returns-in-Exit-clause-ok : goal.returns-in-Exit-clause-ok
returns-in-Exit-clause-ok c = λ from k r.
    at_halt c.args.code.now c.args.area.now c.loop.state c.loop.area c.loop.invariant.kept c.in_ok-step.field-0 c.step.new.state c.step.new.area c.in_ok-step.ensures.ok answer.Exit c.in-Exit.is from (k + c.loop.counter) (c.loop.invariant.reached from k r)

pub returns-in-Exit-clause-kept : goal.returns-in-Exit-clause-kept
returns-in-Exit-clause-kept c = keeps_more c.args.area.now c.loop.area c.step.new.area c.loop.invariant.kept c.in_ok-step.ensures.kept

pub returns-in-Fault-clause-ok : goal.returns-in-Fault-clause-ok
returns-in-Fault-clause-ok c = λ from k r.
    at_halt c.args.code.now c.args.area.now c.loop.state c.loop.area c.loop.invariant.kept c.in_ok-step.field-0 c.step.new.state c.step.new.area c.in_ok-step.ensures.ok (answer.Fault c.in-Fault.fault) c.in-Fault.is from (k + c.loop.counter) (c.loop.invariant.reached from k r)

pub returns-in-Fault-clause-kept : goal.returns-in-Fault-clause-kept
returns-in-Fault-clause-kept c = keeps_more c.args.area.now c.loop.area c.step.new.area c.loop.invariant.kept c.in_ok-step.ensures.kept

pub loop-preserved : goal.loop-preserved
loop-preserved c = record {
  kept = keeps_more c.args.area.now c.loop.area c.step.new.area c.loop.invariant.kept c.in_ok-step.ensures.kept;
  reached = λ from k r.
      let sum : k + c.loop.counter + 1 ≡ k + (c.loop.counter + 1) = omega arith in
      subst (λ (n : ℕ). Reaches (reads_of c.args.area.now) c.args.code.now from n c.step.new.state c.step.new.area) sum
      (one_more c.args.code.now c.args.area.now c.loop.state c.loop.area c.loop.invariant.kept c.in_ok-step.field-0 c.step.new.state c.step.new.area c.in_ok-step.ensures.ok c.in-On.is from (k + c.loop.counter) (c.loop.invariant.reached from k r));
}

pub unreachable-requires : goal.unreachable-requires
unreachable-requires c =
    let le : c.requires.last ≤ c.requires.steps + c.loop.counter = omega (arith, c.requires.bound) in
    let from = start c.args.code.now c.args.area.now.invocation in
    not_past (reads_of c.args.area.now) c.args.code.now from c.requires.last (c.requires.steps + c.loop.counter) c.loop.state c.loop.area c.requires.over le
    (c.loop.invariant.reached from c.requires.steps c.requires.here)
