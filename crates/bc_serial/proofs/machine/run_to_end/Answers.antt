use Rattle.std.proofs.Common.{◌≡◌, false, sym, ◌∙◌, subst, arith}
use Rattle.bc_code.specs.Given.{ids_of}
use Rattle.bc_law_locality.specs.Growth.{has}
use Rattle.bc_step.specs.Area.{AgreesWith, AreaParts, given_of}
use Rattle.bc_machine.specs.Running.{Tells}
use Rattle.bc_machine.proofs.Known.{held_kept, lacking, needs_still, one_more_given, same_invocation}
use Rattle.bc_serial.proofs.machine.run_to_end.Goals as goal

pub go-requires : goal.go-requires
go-requires c = (c.args.book.now.program, c.args.book.now.store, c.loop.invariant.running)

pub returns-in-Finished : goal.returns-in-Finished
returns-in-Finished c =
    let P = c.args.book.now.program in
    let S = c.args.book.now.store in
    let s = c.loop.invariant.running in
    record {
      invocation = c.in_ok-ended.ensures.kept.invocation ∙ c.loop.invariant.invocation;
      agrees = subst (AgreesWith S) (sym c.in_ok-ended.ensures.kept.given) s.agrees;
      tells = subst (Tells P c.go.new.self.area) c.in-Finished.is (c.in_ok-ended.ensures.tells P S s);
    }

pub fetch-requires : goal.fetch-requires
fetch-requires c =
    let P = c.args.book.now.program in
    let S = c.args.book.now.store in
    let r = c.loop.invariant.running in
    (lacking P S c.args.code.now c.go.new.self c.in-Need.id c.in_ok-ended.field-0 c.in-Need.is (c.in_ok-ended.ensures.running P S r) (c.in_ok-ended.ensures.tells P S r)).there

pub give-requires-clause-new : goal.give-requires-clause-new
give-requires-clause-new c =
    let P = c.args.book.now.program in
    let S = c.args.book.now.store in
    let r = c.loop.invariant.running in
    subst (λ (a : AreaParts). has (ids_of (given_of a.held)) c.in-Need.id ≡ false) (sym c.reserve_given.ensures.area)
    (lacking P S c.args.code.now c.go.new.self c.in-Need.id c.in_ok-ended.field-0 c.in-Need.is (c.in_ok-ended.ensures.running P S r) (c.in_ok-ended.ensures.tells P S r)).new

pub loop-preserved : goal.loop-preserved
loop-preserved c =
    let P = c.args.book.now.program in
    let S = c.args.book.now.store in
    let code = c.args.code.now in
    let r = c.loop.invariant.running in
    let l = lacking P S code c.go.new.self c.in-Need.id c.in_ok-ended.field-0 c.in-Need.is (c.in_ok-ended.ensures.running P S r) (c.in_ok-ended.ensures.tells P S r) in
    record {
      invocation = same_invocation c.loop.machine.area c.go.new.self.area c.reserve_given.new.self.area c.give.new.self.area _ c.in_ok-ended.ensures.kept c.reserve_given.ensures.area c.give.ensures.area ∙ c.loop.invariant.invocation;
      running =
          let n = needs_still P S code c.go.new.self c.in-Need.id c.in_ok-ended.field-0 c.in-Need.is (c.in_ok-ended.ensures.running P S r) (c.in_ok-ended.ensures.tells P S r) c.reserve_given.new.self c.reserve_given.ensures.area (c.reserve_given.ensures.running P S code) in
          c.give.ensures.running P S code n.0 n.1 (sym c.in_ok-body-in-Need.ensures);
      given =
          let more = one_more_given c.loop.machine.area c.go.new.self.area c.reserve_given.new.self.area c.give.new.self.area _ c.in_ok-ended.ensures.kept c.reserve_given.ensures.area c.give.ensures.area in
          omega (arith, c.loop.invariant.given, more);
      few =
          let held = held_kept c.loop.machine.area c.go.new.self.area c.in_ok-ended.ensures.kept in
          omega (arith, c.loop.invariant.given, held, l.more);
    }

pub unreachable-requires : goal.unreachable-requires
unreachable-requires c = omega (arith, c.loop.invariant.few, c.requires.run.fits.objects)
