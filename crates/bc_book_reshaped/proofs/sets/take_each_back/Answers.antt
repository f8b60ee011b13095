use Rattle.bc_book_reshaped.specs.declared.reshaped.Reshaped.{Reshaped}
use Rattle.bc_book_reshaped.specs.declared.reshaped.Reshaped.TheVariants as object
use Rattle.bc_book_reshaped.proofs.Room.{are_reshaped, tags_before}
use Rattle.bc_book_reshaped.proofs.Way.{back_all, back_more, back_none, enough_back, room_left, tags_left, used_more, used_none}
use Rattle.bc_book_reshaped.proofs.sets.take_each_back.Goals as goal

abbrev none : Reshaped
none = object.Written 0 0

pub loop-one-init : goal.loop-one-init
loop-one-init g c = (
  used_none (tags_before c.args.store.now.plain) c.args.params.now,
  λ P a. back_none P c.args.store.now.plain c.args.changes.now c.args.reshaped.now c.requires.is c.requires.can c.requires.resolved c.args.params.now.kept a,
)

pub take_one_back-requires-clause-there : goal.take_one_back-requires-clause-there
take_one_back-requires-clause-there g c =
    (are_reshaped c.args.store.now.plain c.args.changes.now c.args.reshaped.now c.requires.is c.requires.can c.requires.kinds).there c.loop-one.one-index none c.loop-one-test.true

pub take_one_back-requires-clause-updates : goal.take_one_back-requires-clause-updates
take_one_back-requires-clause-updates g c =
    room_left (tags_before c.args.store.now.plain) c.args.reshaped.now c.loop-one.one-index c.args.params.now c.loop-one.params c.loop-one-test.true c.loop-one.invariant.0
    (enough_back c.args.store.now.plain c.args.changes.now c.args.reshaped.now c.requires.is c.args.params.now c.requires.spare)

pub take_one_back-requires-clause-bindings : goal.take_one_back-requires-clause-bindings
take_one_back-requires-clause-bindings g c =
    tags_left (tags_before c.args.store.now.plain) c.args.reshaped.now c.loop-one.one-index none c.args.params.now c.loop-one.params c.loop-one-test.true c.loop-one.invariant.0
    (enough_back c.args.store.now.plain c.args.changes.now c.args.reshaped.now c.requires.is c.args.params.now c.requires.spare)

pub loop-one-preserved : goal.loop-one-preserved
loop-one-preserved g c = (
  used_more (tags_before c.args.store.now.plain) c.args.reshaped.now c.loop-one.one-index none c.args.params.now c.loop-one.params c.take_one_back.new.params c.loop-one-test.true c.loop-one.invariant.0
      c.take_one_back.ensures.updates c.take_one_back.ensures.bindings,
  λ P a. back_more P c.args.store.now.plain c.args.changes.now c.args.reshaped.now
      (are_reshaped c.args.store.now.plain c.args.changes.now c.args.reshaped.now c.requires.is c.requires.can c.requires.kinds)
      c.loop-one.one-index none c.loop-one-test.true c.loop-one.params.kept c.take_one_back.new.params.kept
      (c.loop-one.invariant.1 P a) (c.take_one_back.ensures.sets P),
)

pub returns : goal.returns
returns g c = record {
  sets = λ P f a. back_all P c.args.store.now.plain c.args.changes.now c.args.reshaped.now c.loop-one.one-index c.loop-one.params.kept f c.loop-one-test.false (c.loop-one.invariant.1 P a);
}
