use Rattle.std.proofs.Common.{ℕ, List, map, sym, ap, subst, ◌∙◌}
use Rattle.bc_mean.specs.Changes.{apply_changes}
use Rattle.bc_mean.specs.Work.{look_of}
use Rattle.bc_book_reshaped.proofs.Alike.{all_reshaped}
use Rattle.bc_book_reshaped.specs.Reshaped.{id_of}
use Rattle.bc_book_events.specs.Reshaped.{ReshapesOnly}
use Rattle.bc_book_lists.specs.Search.{IsBefore, IsFound}
use Rattle.bc_book.proofs.Readying.{WillCrowd, WillFind, its_fit, its_reshaped, its_search, its_sets, none_of, on_err, sets_back, sets_behind, some_of}
use Rattle.bc_book.proofs.commit.make_ready.Goals as goal

pub returns-in_err-reserve_for-2-clause-err : goal.returns-in_err-reserve_for-2-clause-err
returns-in_err-reserve_for-2-clause-err g c =
    on_err c.from_residual-in_err-reserve_for-2.result _
    (λ b worker p. sets_back b worker c.args.v c.args.store.now.plain c.reserve_for.new.self.plain c.args.changes.now c.args.pending.now.listed c.args.pending.now.held c.args.failures.now.failures c.args.params.now.kept p c.reserve_for.ensures.plain c.reserve_for-2.new.self.kept (c.reserve_for-2.ensures.kept b.program (look_of c.reserve_for.new.self.plain) c.reserve_for.new.self.plain.tags (its_sets b worker c.args.v c.args.store.now.plain c.reserve_for.new.self.plain c.args.changes.now c.args.pending.now.listed c.args.pending.now.held c.args.failures.now.failures c.args.params.now.kept p c.reserve_for.ensures.plain)))

pub returns-in-Ok-Some-clause-ready : goal.returns-in-Ok-Some-clause-ready
returns-in-Ok-Some-clause-ready g c b worker p =
    let T = apply_changes b.store c.args.changes.now in
    let reshapes = (its_reshaped b worker c.args.v c.args.store.now.plain c.reserve_for.new.self.plain c.args.changes.now c.args.pending.now.listed c.args.pending.now.held c.args.failures.now.failures c.args.params.now.kept p c.reserve_for.ensures.plain all_reshaped c.in_ok-reshaped.reshaped.items c.in_ok-reshapes.reshapes.items (c.in_ok-reshaped.ensures ∙ ap (map id_of) c.as_slice.ensures.value) c.in_ok-reshapes.ensures c.requires.can c.requires.resolved) in
    let behind = sets_behind b worker c.args.v c.args.store.now.plain c.reserve_for.new.self.plain c.args.changes.now c.args.pending.now.listed c.args.pending.now.held c.args.failures.now.failures c.args.params.now.kept p c.reserve_for.ensures.plain c.bring.new.params.kept (c.bring.ensures.sets b.program (its_fit b worker c.args.v c.args.store.now.plain c.reserve_for.new.self.plain c.args.changes.now c.args.pending.now.listed c.args.pending.now.held c.args.failures.now.failures c.args.params.now.kept p c.reserve_for.ensures.plain) (c.reserve_for-2.ensures.kept b.program (look_of c.reserve_for.new.self.plain) c.reserve_for.new.self.plain.tags (its_sets b worker c.args.v c.args.store.now.plain c.reserve_for.new.self.plain c.args.changes.now c.args.pending.now.listed c.args.pending.now.held c.args.failures.now.failures c.args.params.now.kept p c.reserve_for.ensures.plain))) in
    let search = its_search b worker c.args.v c.args.store.now.plain c.reserve_for.new.self.plain c.args.changes.now c.args.pending.now.listed c.args.pending.now.held c.args.failures.now.failures c.args.params.now.kept p c.reserve_for.ensures.plain c.as_slice-4.result.now (subst (λ (l : List ℕ). ReshapesOnly l b.store T) (sym c.as_slice-4.ensures.value) reshapes) in
    let before = subst (λ (l : List ℕ). IsBefore b l c.in_ok-before.before.named c.in_ok-before.before.enabled) (c.as_slice-2.ensures.value ∙ sym c.as_slice-4.ensures.value) (c.in_ok-before.ensures.before b p.sound p.lists p.sets) in
    record {
      reshapes = reshapes;
      writes = c.in_ok-changed.ensures;
      is_found =
          subst (λ (l : List ℕ). IsFound b T worker c.args.v l c.in_ok-changed.changed.items c.in-Ok-Some.found.appended c.in-Ok-Some.found.falls) c.as_slice-4.ensures.value
          (subst (λ (l : List ℕ). IsFound b T worker c.args.v c.as_slice-4.result.now l c.in-Ok-Some.found.appended c.in-Ok-Some.found.falls) c.as_slice-5.ensures.value
          (some_of c.find_with_room-found.result c.in-Ok-Some.field-0 c.in-Ok-Some.found (WillFind c.args.v c.as_slice-4.result.now c.as_slice-5.result.now c.args.pending.now.listed c.args.pending.now.held c.args.failures.now.failures c.bring.new.params.kept c.in_ok-before.before.named c.in_ok-before.before.enabled) c.in-Ok-Some.is c.in-Ok-Some.field-0-is c.find_with_room-found.ensures.found b T worker search p.lists behind before));
      sets = behind;
    }

pub returns-in-Ok-Some-clause-steps : goal.returns-in-Ok-Some-clause-steps
returns-in-Ok-Some-clause-steps g c b worker p = c.bring.ensures.steps b.program (its_fit b worker c.args.v c.args.store.now.plain c.reserve_for.new.self.plain c.args.changes.now c.args.pending.now.listed c.args.pending.now.held c.args.failures.now.failures c.args.params.now.kept p c.reserve_for.ensures.plain) (c.reserve_for-2.ensures.kept b.program (look_of c.reserve_for.new.self.plain) c.reserve_for.new.self.plain.tags (its_sets b worker c.args.v c.args.store.now.plain c.reserve_for.new.self.plain c.args.changes.now c.args.pending.now.listed c.args.pending.now.held c.args.failures.now.failures c.args.params.now.kept p c.reserve_for.ensures.plain))

pub take_back-requires-clause-spare : goal.take_back-requires-clause-spare
take_back-requires-clause-spare g c =
    let b = c.requires.book.0 in
    let worker = c.requires.book.1 in
    let p = c.requires.book.2 in
    c.bring.ensures.spare b.program (its_fit b worker c.args.v c.args.store.now.plain c.reserve_for.new.self.plain c.args.changes.now c.args.pending.now.listed c.args.pending.now.held c.args.failures.now.failures c.args.params.now.kept p c.reserve_for.ensures.plain)

pub take_back-requires-in-Err-clause-spare : goal.take_back-requires-in-Err-clause-spare
take_back-requires-in-Err-clause-spare g c =
    let b = c.requires.book.0 in
    let worker = c.requires.book.1 in
    let p = c.requires.book.2 in
    c.bring.ensures.spare b.program (its_fit b worker c.args.v c.args.store.now.plain c.reserve_for.new.self.plain c.args.changes.now c.args.pending.now.listed c.args.pending.now.held c.args.failures.now.failures c.args.params.now.kept p c.reserve_for.ensures.plain)

pub returns-in-Ok-None-clause-none : goal.returns-in-Ok-None-clause-none
returns-in-Ok-None-clause-none g c b worker p =
    let T = apply_changes b.store c.args.changes.now in
    let reshapes = (its_reshaped b worker c.args.v c.args.store.now.plain c.reserve_for.new.self.plain c.args.changes.now c.args.pending.now.listed c.args.pending.now.held c.args.failures.now.failures c.args.params.now.kept p c.reserve_for.ensures.plain all_reshaped c.in_ok-reshaped.reshaped.items c.in_ok-reshapes.reshapes.items (c.in_ok-reshaped.ensures ∙ ap (map id_of) c.as_slice.ensures.value) c.in_ok-reshapes.ensures c.requires.can c.requires.resolved) in
    let behind = sets_behind b worker c.args.v c.args.store.now.plain c.reserve_for.new.self.plain c.args.changes.now c.args.pending.now.listed c.args.pending.now.held c.args.failures.now.failures c.args.params.now.kept p c.reserve_for.ensures.plain c.bring.new.params.kept (c.bring.ensures.sets b.program (its_fit b worker c.args.v c.args.store.now.plain c.reserve_for.new.self.plain c.args.changes.now c.args.pending.now.listed c.args.pending.now.held c.args.failures.now.failures c.args.params.now.kept p c.reserve_for.ensures.plain) (c.reserve_for-2.ensures.kept b.program (look_of c.reserve_for.new.self.plain) c.reserve_for.new.self.plain.tags (its_sets b worker c.args.v c.args.store.now.plain c.reserve_for.new.self.plain c.args.changes.now c.args.pending.now.listed c.args.pending.now.held c.args.failures.now.failures c.args.params.now.kept p c.reserve_for.ensures.plain))) in
    let search = its_search b worker c.args.v c.args.store.now.plain c.reserve_for.new.self.plain c.args.changes.now c.args.pending.now.listed c.args.pending.now.held c.args.failures.now.failures c.args.params.now.kept p c.reserve_for.ensures.plain c.as_slice-4.result.now (subst (λ (l : List ℕ). ReshapesOnly l b.store T) (sym c.as_slice-4.ensures.value) reshapes) in
    let before = subst (λ (l : List ℕ). IsBefore b l c.in_ok-before.before.named c.in_ok-before.before.enabled) (c.as_slice-2.ensures.value ∙ sym c.as_slice-4.ensures.value) (c.in_ok-before.ensures.before b p.sound p.lists p.sets) in (
      none_of c.find_with_room-found.result c.in-Ok-None.field-0 (WillCrowd c.args.v c.as_slice-4.result.now c.args.pending.now.listed c.args.pending.now.held c.args.failures.now.failures c.bring.new.params.kept c.in_ok-before.before.named c.in_ok-before.before.enabled) c.in-Ok-None.is c.in-Ok-None.field-0-is c.find_with_room-found.ensures.none b T worker search p.lists behind before,
      sets_back b worker c.args.v c.args.store.now.plain c.reserve_for.new.self.plain c.args.changes.now c.args.pending.now.listed c.args.pending.now.held c.args.failures.now.failures c.args.params.now.kept p c.reserve_for.ensures.plain c.take_back.new.params.kept (c.take_back.ensures.sets b.program (its_fit b worker c.args.v c.args.store.now.plain c.reserve_for.new.self.plain c.args.changes.now c.args.pending.now.listed c.args.pending.now.held c.args.failures.now.failures c.args.params.now.kept p c.reserve_for.ensures.plain) (c.bring.ensures.sets b.program (its_fit b worker c.args.v c.args.store.now.plain c.reserve_for.new.self.plain c.args.changes.now c.args.pending.now.listed c.args.pending.now.held c.args.failures.now.failures c.args.params.now.kept p c.reserve_for.ensures.plain) (c.reserve_for-2.ensures.kept b.program (look_of c.reserve_for.new.self.plain) c.reserve_for.new.self.plain.tags (its_sets b worker c.args.v c.args.store.now.plain c.reserve_for.new.self.plain c.args.changes.now c.args.pending.now.listed c.args.pending.now.held c.args.failures.now.failures c.args.params.now.kept p c.reserve_for.ensures.plain)))),
    )

pub returns-clause-err : goal.returns-clause-err
returns-clause-err g c b worker p =
    sets_back b worker c.args.v c.args.store.now.plain c.reserve_for.new.self.plain c.args.changes.now c.args.pending.now.listed c.args.pending.now.held c.args.failures.now.failures c.args.params.now.kept p c.reserve_for.ensures.plain c.take_back-in-Err.new.params.kept (c.take_back-in-Err.ensures.sets b.program (its_fit b worker c.args.v c.args.store.now.plain c.reserve_for.new.self.plain c.args.changes.now c.args.pending.now.listed c.args.pending.now.held c.args.failures.now.failures c.args.params.now.kept p c.reserve_for.ensures.plain) (c.bring.ensures.sets b.program (its_fit b worker c.args.v c.args.store.now.plain c.reserve_for.new.self.plain c.args.changes.now c.args.pending.now.listed c.args.pending.now.held c.args.failures.now.failures c.args.params.now.kept p c.reserve_for.ensures.plain) (c.reserve_for-2.ensures.kept b.program (look_of c.reserve_for.new.self.plain) c.reserve_for.new.self.plain.tags (its_sets b worker c.args.v c.args.store.now.plain c.reserve_for.new.self.plain c.args.changes.now c.args.pending.now.listed c.args.pending.now.held c.args.failures.now.failures c.args.params.now.kept p c.reserve_for.ensures.plain))))
