use Rattle.std.proofs.Common.{◌≡◌, ◌<◌, ◌≤◌, ◌+◌, ◌||◌, ℕ, Bool, true, false, not, cond, List, [], ◌∷◌, ◌++◌, filter, map, set, Option, length, length-append, length-set, None, Some, refl, sym, ap, subst, ◌∙◌, arith}
use Rattle.bc_data.specs.declared.run.Changes.{Changes}
use Rattle.bc_data.specs.declared.run.Invocation.{Invocation}
use Rattle.bc_data.specs.declared.run.Ran.TheVariants as ran
use Rattle.bc_mean.specs.declared.plain.Plain.{Plain}
use Rattle.bc_mean.specs.Changes.{apply_changes, fault_of_room}
use Rattle.bc_mean.specs.Enabled.{IsEnabled}
use Rattle.bc_mean.specs.Outcome.{body_outcome}
use Rattle.bc_book_reshaped.specs.Reshaped.{KindsStay, guard_tests}
use Rattle.bc_book_events.specs.Book.{BookState, held_by}
use Rattle.bc_data.specs.declared.run.Stop.TheVariants as stop
use Rattle.bc_data.specs.declared.run.Written.{Written}
use Rattle.bc_mean.specs.Enabled.{is_enabled}
use Rattle.bc_mean.specs.Serial.{Failed, is_crowded}
use Rattle.bc_params_sets.specs.Kept.{Kept}
use Rattle.bc_store.specs.Resolved.{resolved}
use Rattle.bc_book_events.specs.declared.answers.Commit.{Commit}
use Rattle.bc_book_events.specs.declared.answers.Commit.TheVariants as ends
use Rattle.bc_book_events.specs.Events.{Step, answers, commit_to, over}
use Rattle.bc_book_events.specs.Reshaped.{ReshapesOnly, names_any}
use Rattle.bc_book_events.specs.Sound.{IsSoundBook}
use Rattle.bc_book_events.specs.Steps.{committed, failures_left}
use Rattle.bc_book_lists.specs.Search.{AreOf, IsFound}
use Rattle.std.proofs.lemmas.Option.{same_Some}
use Rattle.bc_book.specs.Commits.{ArePartsOf, IsReady, MayAppend, MayCommit}
use Rattle.bc_book.specs.declared.commit.Ready.{Ready}
use Rattle.bc_book.specs.Kept.{IsKept, state_of}
use Rattle.bc_book.specs.declared.book.Book.TheInside.{Inside}
use Rattle.bc_book.proofs.Committing.{can, commit_crowded, commit_done, ids, its_parts, kept_behind_commit, kept_like, kinds, may_append, same_state, same_tests, settled, state_behind}
use Rattle.bc_book.proofs.Readying.{err_of, none_of, some_of}
use Rattle.bc_book.proofs.book.Book.publish.Goals as goal

-- the pending list, and the book, behind a commit
abbrev listed_behind : Inside → Changes → List ℕ → List Invocation → Bool → List Invocation
listed_behind i c reshaped found falls =
    cond falls (filter (λ w. not (names_any reshaped w) || is_enabled i.program (apply_changes i.store.plain c) w) i.pending.listed) i.pending.listed ++ found

abbrev settled_state : Inside → ℕ → Invocation → Changes → List ℕ → List ℕ → List Invocation → Bool → BookState
settled_state i worker v c reshaped changed found falls = record (state_of i) {
  store = apply_changes i.store.plain c;
  history = i.history.items ++ v ∷ [];
  pending = listed_behind i c reshaped found falls;
  running = set i.pending.held worker None;
  failures = failures_left changed i.failures.failures;
}

-- what is asked of the book holds of its parts
may :
    (i : Inside) (b : BookState) → state_of i ≡ b → IsKept i → (worker : ℕ) (v : Invocation) (c : Changes)
    → held_by b.running worker ≡ Some v → IsEnabled b.program b.store v → (body_outcome b.program b.store v).ran ≡ ran.Commit c → fault_of_room b.store c ≡ None
    → MayCommit (state_of i) worker v c
may i b seen kept worker v c held enabled exits room =
    subst (λ (d : BookState). MayCommit d worker v c) (sym seen)
    (record { sound = subst IsSoundBook seen kept.sound; held = held; enabled = enabled; exits = exits; room = room })

pub resolve-requires : goal.resolve-requires
resolve-requires g c =
    can (state_of c.self.inside) c.args.worker c.args.v c.args.changes
    (may c.self.inside c.args.self.now c.self.view_is c.self.invariant c.args.worker c.args.v c.args.changes c.requires.holds c.requires.enabled c.requires.exits c.requires.room)

pub make_ready-requires-clause-kinds : goal.make_ready-requires-clause-kinds
make_ready-requires-clause-kinds g c =
    subst (λ (d : Changes). KindsStay c.self.inside.store.plain d) (sym c.resolve.ensures.new)
    (kinds (state_of c.self.inside) c.args.worker c.args.v c.args.changes
    (may c.self.inside c.args.self.now c.self.view_is c.self.invariant c.args.worker c.args.v c.args.changes c.requires.holds c.requires.enabled c.requires.exits c.requires.room))

pub make_ready-requires-clause-book : goal.make_ready-requires-clause-book
make_ready-requires-clause-book g c = (
  state_of c.self.inside,
  c.args.worker,
  its_parts c.self.inside c.args.worker c.args.v c.args.changes c.self.invariant
      (may c.self.inside c.args.self.now c.self.view_is c.self.invariant c.args.worker c.args.v c.args.changes c.requires.holds c.requires.enabled c.requires.exits c.requires.room),
)

-- what `make_ready` says where there is something, and where there is nothing
abbrev WillBeReady : Invocation → Plain → List Invocation → List (Option Invocation) → List Failed → Kept → Changes → Kept → Ready → Type 0
WillBeReady v S vs held fs kept c next r =
    (b : BookState) (worker : ℕ) → ArePartsOf b worker v S vs held fs kept → IsReady b c worker v r.reshaped.items r.changed.items r.found.appended r.found.falls next

abbrev TestsFew : Invocation → Plain → List Invocation → List (Option Invocation) → List Failed → Kept → Changes → ℕ → ℕ → Ready → Type 0
TestsFew v S vs held fs kept c old new r = (b : BookState) (worker : ℕ) → ArePartsOf b worker v S vs held fs kept → new ≤ old + guard_tests b.program c

abbrev NotReady : Invocation → Plain → List Invocation → List (Option Invocation) → List Failed → Kept → Changes → Kept → Type 0
NotReady v S vs held fs kept c next =
    (b : BookState) (worker : ℕ) → ArePartsOf b worker v S vs held fs kept → (is_crowded b.program (apply_changes b.store c) ≡ true) × AreOf b.program b.store next

abbrev WantedMemory : Invocation → Plain → List Invocation → List (Option Invocation) → List Failed → Kept → Kept → Type 0
WantedMemory v S vs held fs kept next = (b : BookState) (worker : ℕ) → ArePartsOf b worker v S vs held fs kept → AreOf b.program b.store next

crowded_in : (i : Inside) (b : BookState) → state_of i ≡ b → (c d : Changes) → apply_changes i.store.plain d ≡ apply_changes i.store.plain c → is_crowded i.program (apply_changes i.store.plain d) ≡ true → is_crowded b.program (apply_changes b.store c) ≡ true
crowded_in i b seen c d same h = subst (λ (x : BookState). is_crowded x.program (apply_changes x.store c) ≡ true) seen (ap (is_crowded i.program) (sym same) ∙ h)

pub invariant_of-self-in_err-ready : goal.invariant_of-self-in_err-ready
invariant_of-self-in_err-ready g c =
    kept_like c.self.inside _ c.self.invariant (same_state c.self.inside c.make_ready.new.store c.make_ready.new.params c.make_ready.new.pending c.reserve.new.self c.make_ready.ensures.store c.make_ready.ensures.listed c.make_ready.ensures.held c.reserve.ensures.items) refl
    (err_of c.make_ready.result c.in_err-ready.field-0.0 (WantedMemory c.args.v c.self.inside.store.plain c.self.inside.pending.listed c.self.inside.pending.held c.self.inside.failures.failures c.self.inside.params.kept c.make_ready.new.params.kept) c.in_err-ready.was c.make_ready.ensures.err (state_of c.self.inside) c.args.worker (its_parts c.self.inside c.args.worker c.args.v c.args.changes c.self.invariant (may c.self.inside c.args.self.now c.self.view_is c.self.invariant c.args.worker c.args.v c.args.changes c.requires.holds c.requires.enabled c.requires.exits c.requires.room)))

pub invariant_of-self-in_default : goal.invariant_of-self-in_default
invariant_of-self-in_default g c = kept_like c.self.inside _ c.self.invariant (same_state c.self.inside c.make_ready.new.store c.make_ready.new.params c.make_ready.new.pending c.reserve.new.self c.make_ready.ensures.store c.make_ready.ensures.listed c.make_ready.ensures.held c.reserve.ensures.items) refl (none_of c.make_ready.result c.in_ok-ready.ready (NotReady c.args.v c.self.inside.store.plain c.self.inside.pending.listed c.self.inside.pending.held c.self.inside.failures.failures c.self.inside.params.kept c.resolve.new.changes c.make_ready.new.params.kept) c.in_ok-ready.was c.in_default.is c.make_ready.ensures.none (state_of c.self.inside) c.args.worker (its_parts c.self.inside c.args.worker c.args.v c.args.changes c.self.invariant (may c.self.inside c.args.self.now c.self.view_is c.self.invariant c.args.worker c.args.v c.args.changes c.requires.holds c.requires.enabled c.requires.exits c.requires.room))).1

its_over : (b : BookState) (worker : ℕ) (v : Invocation) (T : Plain) → length b.history < b.limit → is_crowded b.program T ≡ true → IsSoundBook (commit_to T worker v b).book → held_by b.running worker ≡ Some v
    → (j : BookState) → j ≡ b → (w : Invocation) → held_by j.running worker ≡ Some w → IsSoundBook (over worker w (stop.Crowded v) j).book
its_over b worker v T left crowded sound held j same w h =
    subst (λ (x : BookState). IsSoundBook (over worker w (stop.Crowded v) x).book) (sym same)
    (subst (λ (u : Invocation). IsSoundBook (over worker u (stop.Crowded v) b).book) (same_Some v w (sym held ∙ subst (λ (x : BookState). held_by x.running worker ≡ Some w) same h))
    (subst (λ (s : Step Commit). IsSoundBook s.book) (commit_crowded b T worker v left crowded) sound))

pub over-requires-clause-sound : goal.over-requires-clause-sound
over-requires-clause-sound g c =
    its_over c.args.self.now c.args.worker c.args.v (apply_changes c.args.self.now.store c.args.changes) c.requires.left (crowded_in c.self.inside c.args.self.now c.self.view_is c.args.changes c.resolve.new.changes c.resolve.ensures.same (none_of c.make_ready.result c.in_ok-ready.ready (NotReady c.args.v c.self.inside.store.plain c.self.inside.pending.listed c.self.inside.pending.held c.self.inside.failures.failures c.self.inside.params.kept c.resolve.new.changes c.make_ready.new.params.kept) c.in_ok-ready.was c.in_default.is c.make_ready.ensures.none (state_of c.self.inside) c.args.worker (its_parts c.self.inside c.args.worker c.args.v c.args.changes c.self.invariant (may c.self.inside c.args.self.now c.self.view_is c.self.invariant c.args.worker c.args.v c.args.changes c.requires.holds c.requires.enabled c.requires.exits c.requires.room))).0) c.requires.sound c.requires.holds
    (state_of (record c.self.inside { store = c.make_ready.new.store; params = c.make_ready.new.params; pending = c.make_ready.new.pending; history = c.reserve.new.self }))
    ((same_state c.self.inside c.make_ready.new.store c.make_ready.new.params c.make_ready.new.pending c.reserve.new.self c.make_ready.ensures.store c.make_ready.ensures.listed c.make_ready.ensures.held c.reserve.ensures.items) ∙ c.self.view_is)

pub returns-in_default-clause-answer : goal.returns-in_default-clause-answer
returns-in_default-clause-answer g c =
    sym (ap (λ (s : Step Commit). s.answer) (commit_crowded c.args.self.now (apply_changes c.args.self.now.store c.args.changes) c.args.worker c.args.v c.requires.left (crowded_in c.self.inside c.args.self.now c.self.view_is c.args.changes c.resolve.new.changes c.resolve.ensures.same (none_of c.make_ready.result c.in_ok-ready.ready (NotReady c.args.v c.self.inside.store.plain c.self.inside.pending.listed c.self.inside.pending.held c.self.inside.failures.failures c.self.inside.params.kept c.resolve.new.changes c.make_ready.new.params.kept) c.in_ok-ready.was c.in_default.is c.make_ready.ensures.none (state_of c.self.inside) c.args.worker (its_parts c.self.inside c.args.worker c.args.v c.args.changes c.self.invariant (may c.self.inside c.args.self.now c.self.view_is c.self.invariant c.args.worker c.args.v c.args.changes c.requires.holds c.requires.enabled c.requires.exits c.requires.room))).0)))

pub returns-in_default-clause-book : goal.returns-in_default-clause-book
returns-in_default-clause-book g c =
    c.over.ensures c.args.v (subst (λ (x : BookState). held_by x.running c.args.worker ≡ Some c.args.v) (sym ((same_state c.self.inside c.make_ready.new.store c.make_ready.new.params c.make_ready.new.pending c.reserve.new.self c.make_ready.ensures.store c.make_ready.ensures.listed c.make_ready.ensures.held c.reserve.ensures.items) ∙ c.self.view_is)) c.requires.holds)
    ∙ ap (λ (x : BookState). (over c.args.worker c.args.v (stop.Crowded c.args.v) x).book) ((same_state c.self.inside c.make_ready.new.store c.make_ready.new.params c.make_ready.new.pending c.reserve.new.self c.make_ready.ensures.store c.make_ready.ensures.listed c.make_ready.ensures.held c.reserve.ensures.items) ∙ c.self.view_is)
    ∙ sym (ap (λ (s : Step Commit). s.book) (commit_crowded c.args.self.now (apply_changes c.args.self.now.store c.args.changes) c.args.worker c.args.v c.requires.left (crowded_in c.self.inside c.args.self.now c.self.view_is c.args.changes c.resolve.new.changes c.resolve.ensures.same (none_of c.make_ready.result c.in_ok-ready.ready (NotReady c.args.v c.self.inside.store.plain c.self.inside.pending.listed c.self.inside.pending.held c.self.inside.failures.failures c.self.inside.params.kept c.resolve.new.changes c.make_ready.new.params.kept) c.in_ok-ready.was c.in_default.is c.make_ready.ensures.none (state_of c.self.inside) c.args.worker (its_parts c.self.inside c.args.worker c.args.v c.args.changes c.self.invariant (may c.self.inside c.args.self.now c.self.view_is c.self.invariant c.args.worker c.args.v c.args.changes c.requires.holds c.requires.enabled c.requires.exits c.requires.room))).0)))

-- what is ready, of the changes as they were
module _ (i : Inside) (worker : ℕ) (v : Invocation) (c d : Changes) (m : MayCommit (state_of i) worker v c) (new : d ≡ resolved i.store.plain c) (same : apply_changes i.store.plain d ≡ apply_changes i.store.plain c) (reshaped changed : List ℕ) (found : List Invocation) (falls : Bool) (kept : Kept)
    (r : IsReady (state_of i) d worker v reshaped changed found falls kept) where
  reshaped_in_T : ReshapesOnly reshaped i.store.plain (apply_changes i.store.plain c)
  reshaped_in_T = subst (λ (T : Plain). ReshapesOnly reshaped i.store.plain T) same r.reshapes

  writes_of_c : changed ≡ map (λ (w : Written). w.id) c.bodies
  writes_of_c = r.writes ∙ (ap (λ (x : Changes). map (λ (w : Written). w.id) x.bodies) new ∙ ids (state_of i) worker v c m)

  found_in_T : IsFound (state_of i) (apply_changes i.store.plain c) worker v reshaped changed found falls
  found_in_T = subst (λ (T : Plain). IsFound (state_of i) T worker v reshaped changed found falls) same r.is_found

  sets_of_T : AreOf i.program (apply_changes i.store.plain c) kept
  sets_of_T = subst (λ (T : Plain). AreOf i.program T kept) same r.sets

  append_in : (vs : List Invocation) (held : List (Option Invocation)) → vs ≡ i.pending.listed → held ≡ i.pending.held → MayAppend vs held worker found
  append_in vs held e h =
      subst (λ (l : List Invocation). MayAppend l held worker found) (sym e)
      (subst (λ (l : List (Option Invocation)). MayAppend i.pending.listed l worker found) (sym h)
      (may_append (state_of i) worker v c m reshaped changed found falls reshaped_in_T writes_of_c found_in_T))

  its_settled : committed worker (apply_changes i.store.plain c) v (state_of i) ≡ settled_state i worker v c reshaped changed found falls
  its_settled = settled (state_of i) worker v c m reshaped changed found falls reshaped_in_T writes_of_c found_in_T

  roomy : is_crowded i.program (apply_changes i.store.plain c) ≡ false
  roomy = found_in_T.roomy

pub renew-requires-clause-append : goal.renew-requires-clause-append
renew-requires-clause-append g c =
    append_in c.self.inside c.args.worker c.args.v c.args.changes c.resolve.new.changes (may c.self.inside c.args.self.now c.self.view_is c.self.invariant c.args.worker c.args.v c.args.changes c.requires.holds c.requires.enabled c.requires.exits c.requires.room) c.resolve.ensures.new c.resolve.ensures.same c.in-Some.ready.reshaped.items c.in-Some.ready.changed.items c.in-Some.ready.found.appended c.in-Some.ready.found.falls c.make_ready.new.params.kept (some_of c.make_ready.result c.in_ok-ready.ready c.in-Some.ready (WillBeReady c.args.v c.self.inside.store.plain c.self.inside.pending.listed c.self.inside.pending.held c.self.inside.failures.failures c.self.inside.params.kept c.resolve.new.changes c.make_ready.new.params.kept) c.in_ok-ready.was c.in-Some.is c.make_ready.ensures.ready (state_of c.self.inside) c.args.worker (its_parts c.self.inside c.args.worker c.args.v c.args.changes c.self.invariant (may c.self.inside c.args.self.now c.self.view_is c.self.invariant c.args.worker c.args.v c.args.changes c.requires.holds c.requires.enabled c.requires.exits c.requires.room)))
    c.make_ready.new.pending.listed c.make_ready.new.pending.held c.make_ready.ensures.listed c.make_ready.ensures.held

pub renew-requires-clause-sets : goal.renew-requires-clause-sets
renew-requires-clause-sets g c = (c.self.inside.program, apply_changes c.self.inside.store.plain c.resolve.new.changes, (some_of c.make_ready.result c.in_ok-ready.ready c.in-Some.ready (WillBeReady c.args.v c.self.inside.store.plain c.self.inside.pending.listed c.self.inside.pending.held c.self.inside.failures.failures c.self.inside.params.kept c.resolve.new.changes c.make_ready.new.params.kept) c.in_ok-ready.was c.in-Some.is c.make_ready.ensures.ready (state_of c.self.inside) c.args.worker (its_parts c.self.inside c.args.worker c.args.v c.args.changes c.self.invariant (may c.self.inside c.args.self.now c.self.view_is c.self.invariant c.args.worker c.args.v c.args.changes c.requires.holds c.requires.enabled c.requires.exits c.requires.room))).sets)

-- the book behind it, seen by its parts
behind : (g : _) (c : goal.After-drop-ready-3 g) → state_of (record c.self.inside { store = c.publish.new.self; params = c.make_ready.new.params; pending = c.renew.new.pending; failures = c.drop_touching.new.failures; history = c.push_in.new.history }) ≡ committed c.args.worker (apply_changes c.self.inside.store.plain c.args.changes) c.args.v (state_of c.self.inside)
behind g c =
    let r = (some_of c.make_ready.result c.in_ok-ready.ready c.in-Some.ready (WillBeReady c.args.v c.self.inside.store.plain c.self.inside.pending.listed c.self.inside.pending.held c.self.inside.failures.failures c.self.inside.params.kept c.resolve.new.changes c.make_ready.new.params.kept) c.in_ok-ready.was c.in-Some.is c.make_ready.ensures.ready (state_of c.self.inside) c.args.worker (its_parts c.self.inside c.args.worker c.args.v c.args.changes c.self.invariant (may c.self.inside c.args.self.now c.self.view_is c.self.invariant c.args.worker c.args.v c.args.changes c.requires.holds c.requires.enabled c.requires.exits c.requires.room))) in
    let of = sets_of_T c.self.inside c.args.worker c.args.v c.args.changes c.resolve.new.changes (may c.self.inside c.args.self.now c.self.view_is c.self.invariant c.args.worker c.args.v c.args.changes c.requires.holds c.requires.enabled c.requires.exits c.requires.room) c.resolve.ensures.new c.resolve.ensures.same c.in-Some.ready.reshaped.items c.in-Some.ready.changed.items c.in-Some.ready.found.appended c.in-Some.ready.found.falls c.make_ready.new.params.kept r in
    state_behind c.self.inside c.publish.new.self c.make_ready.new.params c.renew.new.pending c.drop_touching.new.failures c.push_in.new.history
    (apply_changes c.self.inside.store.plain c.args.changes)
    (listed_behind c.self.inside c.args.changes c.in-Some.ready.reshaped.items c.in-Some.ready.found.appended c.in-Some.ready.found.falls)
    (set c.self.inside.pending.held c.args.worker None)
    (failures_left c.in-Some.ready.changed.items c.self.inside.failures.failures)
    (c.self.inside.history.items ++ c.args.v ∷ [])
    (c.publish.ensures.plain ∙ (ap (λ (S : Plain). apply_changes S c.resolve.new.changes) c.make_ready.ensures.store ∙ c.resolve.ensures.same))
    (c.renew.ensures.listed c.self.inside.program (apply_changes c.self.inside.store.plain c.args.changes) of ∙ ap (λ (l : List Invocation). cond c.in-Some.ready.found.falls (filter (λ w. not (names_any c.in-Some.ready.reshaped.items w) || is_enabled c.self.inside.program (apply_changes c.self.inside.store.plain c.args.changes) w) l) l ++ c.in-Some.ready.found.appended) c.make_ready.ensures.listed)
    (c.renew.ensures.held ∙ ap (λ (l : List (Option Invocation)). set l c.args.worker None) c.make_ready.ensures.held)
    (c.drop_touching.ensures ∙ ap (λ (l : List ℕ). failures_left l c.self.inside.failures.failures) c.as_slice.ensures.value)
    (c.push_in.ensures ∙ ap (λ (l : List Invocation). l ++ c.args.v ∷ []) c.reserve.ensures.items)
    ∙ sym (its_settled c.self.inside c.args.worker c.args.v c.args.changes c.resolve.new.changes (may c.self.inside c.args.self.now c.self.view_is c.self.invariant c.args.worker c.args.v c.args.changes c.requires.holds c.requires.enabled c.requires.exits c.requires.room) c.resolve.ensures.new c.resolve.ensures.same c.in-Some.ready.reshaped.items c.in-Some.ready.changed.items c.in-Some.ready.found.appended c.in-Some.ready.found.falls c.make_ready.new.params.kept r)

-- the event on the book
done : (g : _) (c : goal.After-drop-ready-3 g) → commit_to (apply_changes c.args.self.now.store c.args.changes) c.args.worker c.args.v c.args.self.now ≡ answers (ends.Committed (length c.args.self.now.history + 1)) (committed c.args.worker (apply_changes c.args.self.now.store c.args.changes) c.args.v c.args.self.now)
done g c =
    commit_done c.args.self.now (apply_changes c.args.self.now.store c.args.changes) c.args.worker c.args.v c.requires.left
    (subst (λ (x : BookState). is_crowded x.program (apply_changes x.store c.args.changes) ≡ false) c.self.view_is
    (roomy c.self.inside c.args.worker c.args.v c.args.changes c.resolve.new.changes (may c.self.inside c.args.self.now c.self.view_is c.self.invariant c.args.worker c.args.v c.args.changes c.requires.holds c.requires.enabled c.requires.exits c.requires.room) c.resolve.ensures.new c.resolve.ensures.same c.in-Some.ready.reshaped.items c.in-Some.ready.changed.items c.in-Some.ready.found.appended c.in-Some.ready.found.falls c.make_ready.new.params.kept (some_of c.make_ready.result c.in_ok-ready.ready c.in-Some.ready (WillBeReady c.args.v c.self.inside.store.plain c.self.inside.pending.listed c.self.inside.pending.held c.self.inside.failures.failures c.self.inside.params.kept c.resolve.new.changes c.make_ready.new.params.kept) c.in_ok-ready.was c.in-Some.is c.make_ready.ensures.ready (state_of c.self.inside) c.args.worker (its_parts c.self.inside c.args.worker c.args.v c.args.changes c.self.invariant (may c.self.inside c.args.self.now c.self.view_is c.self.invariant c.args.worker c.args.v c.args.changes c.requires.holds c.requires.enabled c.requires.exits c.requires.room)))))

pub invariant_of-self-2 : goal.invariant_of-self-2
invariant_of-self-2 g c =
    kept_behind_commit c.self.inside _ (committed c.args.worker (apply_changes c.self.inside.store.plain c.args.changes) c.args.v (state_of c.self.inside)) c.self.invariant (behind g c)
    (subst (λ (x : BookState). IsSoundBook (committed c.args.worker (apply_changes x.store c.args.changes) c.args.v x)) (sym c.self.view_is) (subst (λ (s : Step Commit). IsSoundBook s.book) (done g c) c.requires.sound))
    refl (length-set c.self.inside.pending.held c.args.worker None) refl
    (sets_of_T c.self.inside c.args.worker c.args.v c.args.changes c.resolve.new.changes (may c.self.inside c.args.self.now c.self.view_is c.self.invariant c.args.worker c.args.v c.args.changes c.requires.holds c.requires.enabled c.requires.exits c.requires.room) c.resolve.ensures.new c.resolve.ensures.same c.in-Some.ready.reshaped.items c.in-Some.ready.changed.items c.in-Some.ready.found.appended c.in-Some.ready.found.falls c.make_ready.new.params.kept (some_of c.make_ready.result c.in_ok-ready.ready c.in-Some.ready (WillBeReady c.args.v c.self.inside.store.plain c.self.inside.pending.listed c.self.inside.pending.held c.self.inside.failures.failures c.self.inside.params.kept c.resolve.new.changes c.make_ready.new.params.kept) c.in_ok-ready.was c.in-Some.is c.make_ready.ensures.ready (state_of c.self.inside) c.args.worker (its_parts c.self.inside c.args.worker c.args.v c.args.changes c.self.invariant (may c.self.inside c.args.self.now c.self.view_is c.self.invariant c.args.worker c.args.v c.args.changes c.requires.holds c.requires.enabled c.requires.exits c.requires.room))))

pub returns-clause-answer : goal.returns-clause-answer
returns-clause-answer g c = ap (λ (n : ℕ). ends.Committed n) (omega (arith, c.len.ensures, ap length c.push_in.ensures, length-append c.reserve.new.self.items (c.args.v ∷ []), ap length c.reserve.ensures.items, ap (λ (b : BookState). length b.history) c.self.view_is)) ∙ sym (ap (λ (s : Step Commit). s.answer) (done g c))

pub returns-clause-book : goal.returns-clause-book
returns-clause-book g c =
    behind g c
    ∙ (ap (λ (x : BookState). committed c.args.worker (apply_changes x.store c.args.changes) c.args.v x) c.self.view_is
    ∙ sym (ap (λ (s : Step Commit). s.book) (done g c)))

pub returns-clause-steps : goal.returns-clause-steps
returns-clause-steps g c =
    subst (λ (n : ℕ). c.make_ready.new.steps ≤ c.args.steps.now + n)
    (ap (guard_tests c.self.inside.program) c.resolve.ensures.new
    ∙ (same_tests c.self.inside.program c.self.inside.store.plain c.args.changes
    ∙ ap (λ (b : BookState). guard_tests b.program c.args.changes) c.self.view_is))
    (some_of c.make_ready.result c.in_ok-ready.ready c.in-Some.ready (TestsFew c.args.v c.self.inside.store.plain c.self.inside.pending.listed c.self.inside.pending.held c.self.inside.failures.failures c.self.inside.params.kept c.resolve.new.changes c.args.steps.now c.make_ready.new.steps) c.in_ok-ready.was c.in-Some.is c.make_ready.ensures.steps (state_of c.self.inside) c.args.worker (its_parts c.self.inside c.args.worker c.args.v c.args.changes c.self.invariant (may c.self.inside c.args.self.now c.self.view_is c.self.invariant c.args.worker c.args.v c.args.changes c.requires.holds c.requires.enabled c.requires.exits c.requires.room)))
