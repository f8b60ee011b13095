use Rattle.std.proofs.Common.{◌≡◌, length, false, refl, sym, ◌∙◌, subst, arith}
use Rattle.std.specs.Prelude.{slice_index_or}
use Rattle.std.proofs.lemmas.Option.{slice_get_read}
use Rattle.bc_data.specs.declared.run.Body.{Body}
use Rattle.bc_code.specs.Given.{ids_of}
use Rattle.bc_law_locality.specs.Growth.{has}
use Rattle.bc_step.specs.Area.{AgreesWith, AreaParts, given_of}
use Rattle.bc_machine.specs.Running.{Tells}
use Rattle.bc_machine.proofs.Known.{held_kept, lacking, needs_still, one_more_given, same_invocation}
use Rattle.bc_machine.proofs.plain.run_to_end.Goals as goal

pub returns-in-Finished : goal.returns-in-Finished
returns-in-Finished c = λ P r.
    let s = c.loop.invariant.running P r in
    record {
      invocation = c.in_ok-ended.ensures.kept.invocation ∙ c.loop.invariant.invocation;
      agrees = subst (AgreesWith c.args.store.now) (sym c.in_ok-ended.ensures.kept.given) s.agrees;
      tells = subst (Tells P c.go.new.self.area) c.in-Finished.is (c.in_ok-ended.ensures.tells P c.args.store.now s);
    }

pub index-requires : goal.index-requires
index-requires c =
    let P = c.requires.0 in
    let S = c.args.store.now in
    let r = c.loop.invariant.running P c.requires.1 in
    (lacking P S c.args.code.now c.go.new.self c.in-Need.id c.in_ok-ended.field-0 c.in-Need.is (c.in_ok-ended.ensures.running P S r) (c.in_ok-ended.ensures.tells P S r)).there

pub give-requires-clause-new : goal.give-requires-clause-new
give-requires-clause-new c =
    let P = c.requires.0 in
    let S = c.args.store.now in
    let r = c.loop.invariant.running P c.requires.1 in
    subst (λ (a : AreaParts). has (ids_of (given_of a.held)) c.in-Need.id ≡ false) (sym c.reserve_given.ensures.area)
    (lacking P S c.args.code.now c.go.new.self c.in-Need.id c.in_ok-ended.field-0 c.in-Need.is (c.in_ok-ended.ensures.running P S r) (c.in_ok-ended.ensures.tells P S r)).new

pub loop-preserved : goal.loop-preserved
loop-preserved c =
    let S = c.args.store.now in
    let code = c.args.code.now in
    let own = c.loop.invariant.running c.requires.0 c.requires.1 in
    let l = lacking c.requires.0 S code c.go.new.self c.in-Need.id c.in_ok-ended.field-0 c.in-Need.is (c.in_ok-ended.ensures.running c.requires.0 S own) (c.in_ok-ended.ensures.tells c.requires.0 S own) in
    record {
      invocation = same_invocation c.loop.machine.area c.go.new.self.area c.reserve_given.new.self.area c.give.new.self.area _ c.in_ok-ended.ensures.kept c.reserve_given.ensures.area c.give.ensures.area ∙ c.loop.invariant.invocation;
      running = λ P r.
          let s = c.loop.invariant.running P r in
          let n = needs_still P S code c.go.new.self c.in-Need.id c.in_ok-ended.field-0 c.in-Need.is (c.in_ok-ended.ensures.running P S s) (c.in_ok-ended.ensures.tells P S s) c.reserve_given.new.self c.reserve_given.ensures.area (c.reserve_given.ensures.running P S code) in
          c.give.ensures.running P S code n.0 n.1 (slice_get_read S.bodies (length S.bodies) c.in-Need.id c.in_ok-body-in-Need.body refl l.there (subst (λ (b : Body). b ≡ slice_index_or S.bodies c.in-Need.id b) (sym c.in_ok-body-in-Need.ensures) c.index.ensures));
      given =
          let more = one_more_given c.loop.machine.area c.go.new.self.area c.reserve_given.new.self.area c.give.new.self.area _ c.in_ok-ended.ensures.kept c.reserve_given.ensures.area c.give.ensures.area in
          omega (arith, c.loop.invariant.given, more);
      few =
          let held = held_kept c.loop.machine.area c.go.new.self.area c.in_ok-ended.ensures.kept in
          omega (arith, c.loop.invariant.given, held, l.more);
    }

pub unreachable-requires : goal.unreachable-requires
unreachable-requires c = omega (arith, c.loop.invariant.few, c.requires.1.run.fits.objects)
