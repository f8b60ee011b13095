use Rattle.bc_book_reshaped.specs.declared.reshaped.Reshaped.{Reshaped}
use Rattle.bc_book_reshaped.specs.declared.reshaped.Reshaped.TheVariants as object
use Rattle.bc_book_reshaped.proofs.Room.{are_reshaped, tags_after}
use Rattle.bc_book_reshaped.proofs.Way.{brought_all, brought_more, brought_none, can_go_back, enough_there, room_left, tags_left, tests_all, used_all, used_more, used_none}
use Rattle.bc_book_reshaped.proofs.sets.bring.Goals as goal

abbrev none : Reshaped
none = object.Written 0 0

pub loop-one-init : goal.loop-one-init
loop-one-init g c = (
  used_none (tags_after c.args.changes.now) c.args.params.now,
  λ P f a. brought_none P c.args.store.now.plain c.args.changes.now c.args.params.now.kept c.args.steps.now f a,
)

pub bring_one-requires-clause-there : goal.bring_one-requires-clause-there
bring_one-requires-clause-there g c =
    (are_reshaped c.args.store.now.plain c.args.changes.now c.args.reshaped.now c.requires.is c.requires.can c.requires.kinds).there c.loop-one.one-index none c.loop-one-test.true

pub bring_one-requires-clause-updates : goal.bring_one-requires-clause-updates
bring_one-requires-clause-updates g c =
    room_left (tags_after c.args.changes.now) c.args.reshaped.now c.loop-one.one-index c.args.params.now c.loop-one.params c.loop-one-test.true c.loop-one.invariant.0
    (enough_there c.args.store.now.plain c.args.changes.now c.args.reshaped.now c.requires.is c.args.params.now c.requires.spare)

pub bring_one-requires-clause-bindings : goal.bring_one-requires-clause-bindings
bring_one-requires-clause-bindings g c =
    tags_left (tags_after c.args.changes.now) c.args.reshaped.now c.loop-one.one-index none c.args.params.now c.loop-one.params c.loop-one-test.true c.loop-one.invariant.0
    (enough_there c.args.store.now.plain c.args.changes.now c.args.reshaped.now c.requires.is c.args.params.now c.requires.spare)

pub loop-one-preserved : goal.loop-one-preserved
loop-one-preserved g c = (
  used_more (tags_after c.args.changes.now) c.args.reshaped.now c.loop-one.one-index none c.args.params.now c.loop-one.params c.bring_one.new.params c.loop-one-test.true c.loop-one.invariant.0
      c.bring_one.ensures.updates c.bring_one.ensures.bindings,
  λ P f a. brought_more P c.args.store.now.plain c.args.changes.now c.args.reshaped.now
      (are_reshaped c.args.store.now.plain c.args.changes.now c.args.reshaped.now c.requires.is c.requires.can c.requires.kinds)
      c.loop-one.one-index none c.loop-one-test.true c.loop-one.params.kept c.bring_one.new.params.kept c.args.steps.now c.loop-one.steps c.bring_one.new.steps
      (c.loop-one.invariant.1 P f a) (c.bring_one.ensures.sets P) c.bring_one.ensures.steps,
)

pub returns-clause-sets : goal.returns-clause-sets
returns-clause-sets g c = λ P f a.
    brought_all P c.args.store.now.plain c.args.changes.now c.args.reshaped.now c.requires.is c.requires.can c.requires.resolved c.loop-one.one-index c.loop-one.params.kept c.args.steps.now c.loop-one.steps
    c.loop-one-test.false (c.loop-one.invariant.1 P f a)

pub returns-clause-steps : goal.returns-clause-steps
returns-clause-steps g c = λ P f a.
    tests_all P c.args.store.now.plain c.args.changes.now c.args.reshaped.now c.requires.is c.requires.can c.requires.resolved c.loop-one.one-index c.loop-one.params.kept c.args.steps.now c.loop-one.steps
    c.requires.kinds c.loop-one-test.false (c.loop-one.invariant.1 P f a)

pub returns-clause-spare : goal.returns-clause-spare
returns-clause-spare g c = λ P f.
    can_go_back c.args.store.now.plain c.args.changes.now c.args.reshaped.now c.requires.is P c.args.params.now c.loop-one.params f c.requires.spare
    (used_all (tags_after c.args.changes.now) c.args.reshaped.now c.loop-one.one-index c.args.params.now c.loop-one.params c.loop-one-test.false c.loop-one.invariant.0)
