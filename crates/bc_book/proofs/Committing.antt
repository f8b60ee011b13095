-- A commit that is ready, and the book behind it.
use Rattle.std.proofs.Common.{◌≡◌, ℕ, ◌+◌, ◌<◌, ◌≤◌, Bool, true, false, cond, not, ◌&&◌, ◌||◌, ◌==◌, List, [], ◌∷◌, ◌++◌, filter, length, map, set, Option, None, get_or, refl, sym, ap, ap₂, subst, ◌∙◌, arith}
use Rattle.std.specs.Prelude.{IfSome, slice_get}
use Rattle.std.specs.List.{AllByRecursion, sum_by}
use Rattle.std.proofs.lemmas.Bool.{eq-eqb}
use Rattle.std.proofs.lemmas.Bool.Decides.{nat_tests}
use Rattle.std.proofs.lemmas.List.Elements.{All-from_recursion, recursion_from_All}
use Rattle.bc_data.specs.declared.run.Body.{Body}
use Rattle.bc_data.specs.declared.run.Changes.{Changes}
use Rattle.bc_data.specs.declared.run.FaultKind.{FaultKind}
use Rattle.bc_data.specs.declared.run.Invocation.{Invocation}
use Rattle.bc_data.specs.declared.run.Ran.{Ran}
use Rattle.bc_data.specs.declared.run.Ran.TheVariants as ran
use Rattle.bc_data.specs.declared.run.Stop.TheVariants as stop
use Rattle.bc_data.specs.declared.run.Written.{Written}
use Rattle.bc_mean.specs.declared.plain.Plain.{Plain}
use Rattle.bc_mean.specs.Changes.{apply_changes, body_in}
use Rattle.bc_mean.specs.Commit.{written_in}
use Rattle.bc_mean.specs.Enabled.{is_enabled}
use Rattle.bc_mean.specs.Outcome.{body_outcome, outcome, place_of, refused_room, with_room}
use Rattle.bc_mean.specs.Serial.{Failed, has_failure, is_crowded, listed, same_invocation}
use Rattle.bc_mean.specs.Store.{Fits}
use Rattle.bc_mean.proofs.Lists.{each_weaker}
use Rattle.bc_law_publishing.proofs.Published.{commits_can_be_published}
use Rattle.bc_pending.specs.Lists.{HasObjects}
use Rattle.bc_law_room.specs.Sizes.{HasLike}
use Rattle.bc_law_room.proofs.Growth.{keeps_kinds}
use Rattle.bc_law_core.proofs.Sound.{run_laws}
use Rattle.bc_store.specs.Resolved.{resolved}
use Rattle.bc_store.specs.Store.{CanPublish}
use Rattle.bc_book_reshaped.specs.Reshaped.{KindsStay, guard_tests}
use Rattle.bc_data.specs.Typed.{TypedProgram}
use Rattle.bc_params.specs.Look.{class_of}
use Rattle.std.proofs.lemmas.List.Sums.{sum_by-cons}
use Rattle.bc_book_events.specs.declared.answers.Commit.TheVariants as ends
use Rattle.bc_book_events.specs.Book.{BookState, is_running}
use Rattle.bc_book_events.specs.Events.{answers, commit_to, over}
use Rattle.bc_book_events.specs.Reshaped.{ReshapesOnly, failures_dropped, is_wanted, names_any}
use Rattle.bc_book_events.specs.Steps.{committed, failures_left}
use Rattle.bc_book_events.proofs.CommitFound.{commit_met}
use Rattle.bc_book_events.proofs.Exact.{each_itself}
use Rattle.bc_book_events.proofs.Named.{enabled_names}
use Rattle.bc_book_lists.specs.Search.{AreOf, IsFound, kept_behind}
use Rattle.bc_mean.specs.Work.{look_of}
use Rattle.bc_params_sets.specs.Kept.{AreSets}
use Rattle.bc_book_events.specs.Sound.{IsSoundBook}
use Rattle.std.specs.declared.alloc.Global.{Global}
use Rattle.std.proofs.Common.{Vec}
use Rattle.bc_failed.specs.Records.{Records}
use Rattle.bc_params.specs.Places.{ParamParts, params_of}
use Rattle.bc_pending.specs.Lists.{Lists}
use Rattle.bc_store.specs.Store.{StoreParts}
use Rattle.bc_book.specs.Commits.{ArePartsOf, MayAppend, MayCommit}
use Rattle.bc_book.specs.Kept.{IsKept, state_of}
use Rattle.bc_book.specs.declared.book.Book.TheInside.{Inside}

below_not : (m n : ℕ) → m < n → (m == n) ≡ false
below_not m n l = grind (arith, nat_tests, l)

-- what a commit answers, where a commit is left
pub commit_crowded : (b : BookState) (T : Plain) (worker : ℕ) (v : Invocation) → length b.history < b.limit → is_crowded b.program T ≡ true → commit_to T worker v b ≡ over worker v (stop.Crowded v) b
commit_crowded b T worker v left crowded =
    ap (λ (t : Bool). cond t (over worker v (stop.Spent v) b) (cond (is_crowded b.program T) (over worker v (stop.Crowded v) b) (answers (ends.Committed (length b.history + 1)) (committed worker T v b)))) (below_not (length b.history) b.limit left)
    ∙ ap (λ (t : Bool). cond t (over worker v (stop.Crowded v) b) (answers (ends.Committed (length b.history + 1)) (committed worker T v b))) crowded

pub commit_done : (b : BookState) (T : Plain) (worker : ℕ) (v : Invocation) → length b.history < b.limit → is_crowded b.program T ≡ false → commit_to T worker v b ≡ answers (ends.Committed (length b.history + 1)) (committed worker T v b)
commit_done b T worker v left roomy =
    ap (λ (t : Bool). cond t (over worker v (stop.Spent v) b) (cond (is_crowded b.program T) (over worker v (stop.Crowded v) b) (answers (ends.Committed (length b.history + 1)) (committed worker T v b)))) (below_not (length b.history) b.limit left)
    ∙ ap (λ (t : Bool). cond t (over worker v (stop.Crowded v) b) (answers (ends.Committed (length b.history + 1)) (committed worker T v b))) roomy

pub commit_spent : (b : BookState) (T : Plain) (worker : ℕ) (v : Invocation) → length b.history ≡ b.limit → commit_to T worker v b ≡ over worker v (stop.Spent v) b
commit_spent b T worker v none =
    ap (λ (t : Bool). cond t (over worker v (stop.Spent v) b) (cond (is_crowded b.program T) (over worker v (stop.Crowded v) b) (answers (ends.Committed (length b.history + 1)) (committed worker T v b)))) (eq-eqb (length b.history) b.limit none)

-- resolved bodies keep their kinds
like_kind : (S : Plain) (w : Written) → HasLike S w.id w.body → (o : Option Body) → o ≡ slice_get S.bodies w.id → IfSome o (λ b. (written_in S w).body.kind ≡ b.kind)
like_kind S w h o e = subst (λ (q : Option Body). IfSome q (λ b. (written_in S w).body.kind ≡ b.kind)) (sym (e ∙ h.1)) (sym h.2.kind)

kinds_each : (S : Plain) (ws : List Written) → AllByRecursion (λ w. HasLike S w.id w.body) ws → AllByRecursion (λ w. IfSome (slice_get S.bodies w.id) (λ b. w.body.kind ≡ b.kind)) (map (written_in S) ws)
kinds_each S [] a = tt
kinds_each S (w ∷ ws) a = (like_kind S w a.0 (slice_get S.bodies w.id) refl, kinds_each S ws a.1)

same_ids : (S : Plain) (ws : List Written) → map (λ (w : Written). w.id) (map (written_in S) ws) ≡ map (λ (w : Written). w.id) ws
same_ids S [] = refl
same_ids S (w ∷ ws) = ap (λ (l : List ℕ). w.id ∷ l) (same_ids S ws)

wanted_parts : (e2 m d s p r2 k : Bool) → (e2 && ((m || (d || s)) && (not p && (not r2 && not k)))) ≡ true → (e2 ≡ true) × (p ≡ false) × (r2 ≡ false)
wanted_parts e2 m d s p r2 k h = (grind (arith, h), grind (arith, h), grind (arith, h))

module _ (b : BookState) (worker : ℕ) (v : Invocation) (c : Changes) (m : MayCommit b worker v c) where
  pub fits : Fits b.program b.store
  fits = run_laws.fits b.program b.input b.history b.store m.sound.typed m.sound.bytes m.sound.short m.sound.replayed

  commits : (outcome b.program b.store v).ran ≡ ran.Commit c
  commits =
      let o = body_outcome b.program b.store v in
      let at = place_of (slice_get b.program.tasks v.task) in
      ap (λ (r : Ran). (with_room b.store at r o).ran) m.exits
      ∙ (ap (λ (k : Option FaultKind). (refused_room k at o).ran) m.room ∙ m.exits)

  pub can : CanPublish b.store c
  can = commits_can_be_published b.program b.store v c m.sound.typed fits m.enabled commits

  pub kinds : KindsStay b.store (resolved b.store c)
  kinds =
      All-from_recursion (λ w. IfSome (slice_get b.store.bodies w.id) (λ b. w.body.kind ≡ b.kind)) (map (written_in b.store) c.bodies)
      (kinds_each b.store c.bodies (recursion_from_All (λ w. HasLike b.store w.id w.body) c.bodies (keeps_kinds.body b.program b.store v c m.exits).changed))

  pub ids : map (λ (w : Written). w.id) (resolved b.store c).bodies ≡ map (λ (w : Written). w.id) c.bodies
  ids = same_ids b.store c.bodies

  module _ (reshaped changed : List ℕ) (found : List Invocation) (falls : Bool) (reshapes : ReshapesOnly reshaped b.store (apply_changes b.store c)) (writes : changed ≡ map (λ (w : Written). w.id) c.bodies) (is : IsFound b (apply_changes b.store c) worker v reshaped changed found falls) where
    few : length (apply_changes b.store c).bodies ≤ 65536
    few = omega (arith, (keeps_kinds.body b.program b.store v c m.exits).sums.objects, can.there.objects)

    each_wanted : AllByRecursion (λ w. (is_enabled b.program (apply_changes b.store c) w ≡ true) × (listed b.pending w ≡ false) × (is_running (set b.running worker None) w ≡ false)) found
    each_wanted =
        each_weaker (λ w. listed found w ≡ true) (λ w. (is_enabled b.program (apply_changes b.store c) w ≡ true) × (listed b.pending w ≡ false) × (is_running (set b.running worker None) w ≡ false))
        (λ w h.
        wanted_parts (is_enabled b.program (apply_changes b.store c) w) (names_any reshaped w) (has_failure (failures_dropped changed b.failures) w) (same_invocation w v) (listed b.pending w) (is_running (set b.running worker None) w) (has_failure (failures_left changed b.failures) w)
        (sym (is.appended.members w) ∙ h))
        found (each_itself found)

    its_objects : (w : Invocation) → is_enabled b.program (apply_changes b.store c) w ≡ true → HasObjects w
    its_objects w h =
        let named = enabled_names.enabled b.program (apply_changes b.store c) w m.sound.typed h in
        record {
          different = named.different;
          below = λ k d l. let one : get_or w.objects k d < length (apply_changes b.store c).bodies = named.objects k d l in omega (arith, one, few);
        }

    pub may_append : MayAppend b.pending b.running worker found
    may_append = record {
      ascending = is.appended.ascending;
      not_listed = All-from_recursion (λ w. listed b.pending w ≡ false) found (each_weaker _ (λ w. listed b.pending w ≡ false) (λ w h. h.1) found each_wanted);
      not_held = All-from_recursion (λ w. is_running (set b.running worker None) w ≡ false) found (each_weaker _ (λ w. is_running (set b.running worker None) w ≡ false) (λ w h. h.2) found each_wanted);
      objects = All-from_recursion HasObjects found (each_weaker _ HasObjects (λ w h. its_objects w h.0) found each_wanted);
    }

    its_pending : (f : Bool) → falls ≡ f → cond f (filter (λ w. not (names_any reshaped w) || is_enabled b.program (apply_changes b.store c) w) b.pending) b.pending ≡ kept_behind b (apply_changes b.store c) reshaped
    its_pending true e = refl
    its_pending false e = sym (is.stay e)

    pub settled :
        committed worker (apply_changes b.store c) v b
        ≡ record b {
          store = apply_changes b.store c;
          history = b.history ++ v ∷ [];
          pending = cond falls (filter (λ w. not (names_any reshaped w) || is_enabled b.program (apply_changes b.store c) w) b.pending) b.pending ++ found;
          running = set b.running worker None;
          failures = failures_left changed b.failures;
        }
    settled =
        commit_met b worker v c reshaped found m.sound m.held fits m.exits reshapes is.appended.ascending
        (λ w. is.appended.members w ∙ ap (λ (l : List ℕ). is_enabled b.program (apply_changes b.store c) w && is_wanted reshaped l worker v b w) writes)
        ∙ ap₂ (λ (front : List Invocation) (l : List ℕ). with_lists (front ++ found) (failures_left l b.failures)) (sym (its_pending falls refl)) (sym writes)
      where
        with_lists : List Invocation → List Failed → BookState
        with_lists pending failures = record b { store = apply_changes b.store c; history = b.history ++ v ∷ []; pending = pending; running = set b.running worker None; failures = failures }

-- another book's parts, of which only the sets may differ
pub kept_like :
    (i j : Inside) → IsKept i
    → state_of j ≡ state_of i
    → j.workers ≡ i.workers
    → AreOf (state_of i).program (state_of i).store j.params.kept
    → IsKept j
kept_like i j kept same size of = record {
  sound = subst IsSoundBook (sym same) kept.sound;
  sets = subst (λ (b : BookState). AreSets b.program (look_of b.store) b.store.tags j.params.kept) (sym same) of.sets;
  workers = size ∙ (kept.workers ∙ ap (λ (b : BookState). length b.running) (sym same));
  some = omega (arith, size, kept.some);
  few = omega (arith, size, kept.few);
  limit = subst (λ (b : BookState). b.limit ≤ 1000000) (sym same) kept.limit;
}

pub its_parts : (i : Inside) (worker : ℕ) (v : Invocation) (c : Changes) → IsKept i → MayCommit (state_of i) worker v c → ArePartsOf (state_of i) worker v i.store.plain i.pending.listed i.pending.held i.failures.failures i.params.kept
its_parts i worker v c kept m = record {
  sound = m.sound;
  has = m.held;
  fits = fits (state_of i) worker v c m;
  store = refl;
  lists = record { pending = refl; running = refl; failures = refl };
  sets = record { typed = m.sound.typed; sets = kept.sets };
}

-- the store, sets, lists and history stand where they stood
pub same_state :
    (i : Inside) (store : StoreParts) (params : ParamParts) (pending : Lists) (history : Vec Invocation Global)
    → store.plain ≡ i.store.plain
    → pending.listed ≡ i.pending.listed
    → pending.held ≡ i.pending.held
    → history.items ≡ i.history.items
    → state_of (record i { store = store; params = params; pending = pending; history = history }) ≡ state_of i
same_state i store params pending history a b c d = cc

-- the book behind a commit
pub kept_behind_commit :
    (i k : Inside) (d : BookState) → IsKept i
    → state_of k ≡ d
    → IsSoundBook d
    → k.workers ≡ i.workers
    → length d.running ≡ length i.pending.held
    → d.limit ≡ i.limit
    → AreOf d.program d.store k.params.kept
    → IsKept k
kept_behind_commit i k d kept same sound size held limit of = record {
  sound = subst IsSoundBook (sym same) sound;
  sets = subst (λ (b : BookState). AreSets b.program (look_of b.store) b.store.tags k.params.kept) (sym same) of.sets;
  workers = size ∙ (kept.workers ∙ (sym held ∙ ap (λ (b : BookState). length b.running) (sym same)));
  some = omega (arith, size, kept.some);
  few = omega (arith, size, kept.few);
  limit = subst (λ (b : BookState). b.limit ≤ 1000000) (sym same) (omega (arith, limit, kept.limit));
}

-- its parts, from those of the book before
pub state_behind :
    (i : Inside) (store : StoreParts) (params : ParamParts) (pending : Lists) (failures : Records) (history : Vec Invocation Global)
    (T : Plain) (vs : List Invocation) (held : List (Option Invocation)) (fs : List Failed) (hs : List Invocation)
    → store.plain ≡ T
    → pending.listed ≡ vs
    → pending.held ≡ held
    → failures.failures ≡ fs
    → history.items ≡ hs
    → state_of (record i { store = store; params = params; pending = pending; failures = failures; history = history })
    ≡ record (state_of i) { store = T; history = hs; pending = vs; running = held; failures = fs }
state_behind i store params pending failures history T vs held fs hs a b c d e = cc

-- numbers in bodies are no part of their kinds
sum_mapped : {X : Type 0} (f : X → ℕ) (m : X → X) → ((x : X) → f (m x) ≡ f x) → (xs : List X) → sum_by f (map m xs) ≡ sum_by f xs
sum_mapped f m h [] = refl
sum_mapped f m h (x ∷ xs) = sum_by-cons f (m x) (map m xs) ∙ (ap₂ (λ (a b : ℕ). a + b) (h x) (sum_mapped f m h xs) ∙ sym (sum_by-cons f x xs))

pub same_tests : (P : TypedProgram) (S : Plain) (c : Changes) → guard_tests P (resolved S c) ≡ guard_tests P c
same_tests P S c =
    ap₂ (λ (a b : ℕ). a + b)
    (sum_mapped (λ (w : Written). params_of (class_of w.body.kind) P.tasks) (written_in S) (λ w. refl) c.bodies)
    (sum_mapped (λ (b : Body). params_of (class_of b.kind) P.tasks) (body_in S) (λ b. refl) c.made)
