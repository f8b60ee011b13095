-- Laws over whole runs.
use Rattle.std.proofs.Common.{◌≡◌, ℕ, inl, inr, Bool, true, false, not, ◌==◌, List, [], ◌∷◌, ◌++◌, map, refl, sym, ap, ◌∙◌, subst, append-nil}
use Rattle.std.specs.Prelude.{slice_get, All, Option, Some, None, is_some, IsSome}
use Rattle.std.specs.List.{AllByRecursion}
use Rattle.std.proofs.lemmas.Bool.{eqb-true, false≢true, not_from_true, not-false, not-true, or_cases}
use Rattle.std.proofs.lemmas.List.Elements.{All-from_recursion, recursion_from_All}
use Rattle.bc_data.specs.Typed.{TypedStatements, TypedProgram, TypedTask}
use Rattle.bc_data.specs.declared.run.Body.{Body}
use Rattle.bc_data.specs.declared.run.Changes.{Changes}
use Rattle.bc_data.specs.declared.run.FaultKind.{FaultKind}
use Rattle.bc_data.specs.declared.run.Invocation.{Invocation}
use Rattle.bc_data.specs.declared.run.Outcome.{Outcome}
use Rattle.bc_data.specs.declared.run.Place.{Place}
use Rattle.bc_data.specs.declared.run.Ran.{Ran}
use Rattle.bc_data.specs.declared.run.Ran.TheVariants as ran
use Rattle.bc_data.specs.declared.run.Written.{Written}
use Rattle.bc_mean.specs.declared.plain.Plain.{Plain}
use Rattle.bc_mean.specs.Enabled.{are_different}
use Rattle.bc_mean.specs.Work.{Look, look_of, Work, Got, Gives, Stops, Faulted, Missing, Wrong}
use Rattle.bc_mean.specs.Evaluate.{World, Frame}
use Rattle.bc_mean.specs.Execute.{Flow, execute_all, calls, most_turns, task_frame}
use Rattle.bc_mean.specs.Changes.{changes_between, fault_of_room}
use Rattle.bc_mean.specs.Outcome.{body_outcome, body_run, ending, outcome, place_of, refused_room, with_room, work_at_start}
use Rattle.bc_law_locality.specs.Growth.{AreIn, AreWithin, Grows, has, work_of}
use Rattle.bc_law_locality.specs.Laws.{AgreeOn, AllKnown, Asks, ChangesAreTouched, Extends, RunsAreLocal, RunsSay, Says, TouchedFromTheParameters, WorkGrows, over}
use Rattle.bc_law_locality.proofs.Lists.{has_more, in_itself, one_of}
use Rattle.bc_law_locality.proofs.Commits.{changes_alike, changes_touched}
use Rattle.bc_law_locality.proofs.Statements.{statements_tied}
use Rattle.bc_law_locality.proofs.Tied.{Looks, Agrees, Apart, Ends, Known, Knows, Tied, tied_wrong}

-- where xs and more end in their one object that is not known, more is nothing
nothing_behind : (L : Look) (id last : ℕ) (xs more front : List ℕ) → xs ++ more ≡ front ++ last ∷ [] → has xs id ≡ true → Known L front → (IsSome (L id) → ⊥) → more ≡ []
nothing_behind L id last [] more front e h k u = absurd (false≢true h)
nothing_behind L id last (x ∷ []) more [] e h k u = cc
nothing_behind L id last (x ∷ y ∷ xs) more [] e h k u = absurd (cc)
nothing_behind L id last (x ∷ xs) more (f ∷ front) e h k u =
    let first : f ≡ x = cc in
    let later : xs ++ more ≡ front ++ last ∷ [] = cc in
    elim (or_cases (x == id) (has xs id) h) [
      | inl s ↦ absurd (u (subst (λ (n : ℕ). IsSome (L n)) (first ∙ eqb-true x id s) k.0))
      | inr m ↦ nothing_behind L id last xs more front later m k.1 u
    ]

never_open : (b : Bool) → not b ≡ true → b ≡ true → ⊥
never_open b e f = false≢true (sym (not-true b e) ∙ f)

closed_alike : (L M : Look) → Extends L M → (id : ℕ) (o : Option Body) → L id ≡ o → not (is_some o) ≡ false → L id ≡ M id
closed_alike L M x id None e f = absurd (cc)
closed_alike L M x id (Some b) e f = e ∙ sym (x id b e)

-- the look-up of a world and one that knows more
abbrev wider : (W : World) (M : Look) → Extends W.look M → Looks
wider W M x = record {
  left = W.look;
  right = M;
  is_open = λ id. not (is_some (W.look id));
  alike = λ id e. closed_alike W.look M x id (W.look id) refl e;
  objects = W.objects;
}

known_before : (L : Look) (xs more : List ℕ) (id : ℕ) → Known L (xs ++ more) → has xs id ≡ true → IsSome (L id)
known_before L xs more id k h = one_of (λ other. IsSome (L other)) (xs ++ more) id k (has_more xs more id h)

-- where the runs went apart, the one over fewer bodies did not end
ends_whole : (W : World) (M : Look) (x : Extends W.look M) (v u : Work) → Known W.look v.touched → Apart (wider W M x) v u → ⊥
ends_whole W M x v u k a =
    never_open (is_some (W.look a.id)) a.opens (known_before W.look a.fork.touched a.left.rest a.id (subst (Known W.look) a.left.touched k) a.touched)

asks_at : (W : World) (M : Look) (x : Extends W.look M) (id : ℕ) (v u : Work) → Ends W.look id v.touched → Apart (wider W M x) v u → Asks W.look id v.touched u.touched
asks_at W M x id v u e a =
    let none : a.left.rest ≡ [] = nothing_behind W.look a.id id a.fork.touched a.left.rest e.front (sym a.left.touched ∙ e.is) a.touched e.known (never_open (is_some (W.look a.id)) a.opens) in
    let all : v.touched ≡ a.fork.touched = a.left.touched ∙ ap (λ (l : List ℕ). a.fork.touched ++ l) none ∙ append-nil a.fork.touched in
    record {
      front = e.front;
      ends = e.is;
      known = All-from_recursion (λ other. IsSome (W.look other)) e.front e.known;
      unknown = e.unknown;
      rest = a.right.rest;
      begins = a.right.touched ∙ ap (λ (l : List ℕ). l ++ a.right.rest) (sym all);
    }

asks_alike : (L : Look) (id : ℕ) (own more : List ℕ) → Ends L id own → more ≡ own → Asks L id own more
asks_alike L id own more e same = record {
  front = e.front;
  ends = e.is;
  known = All-from_recursion (λ other. IsSome (L other)) e.front e.known;
  unknown = e.unknown;
  rest = [];
  begins = same ∙ sym (append-nil own);
}

says_of : (W : World) (M : Look) (x : Extends W.look M) (g h : Got Flow) → Agrees (wider W M x) g h → Knows W.look g → Says W.look g h
says_of W M x (Gives f v) h a k =
    (elim a [ inl e ↦ e | inr p ↦ absurd (ends_whole W M x v (work_of h) k p) ], All-from_recursion (λ other. IsSome (W.look other)) v.touched k)
says_of W M x (Stops (Faulted f) v) h a k =
    (elim a [ inl e ↦ e | inr p ↦ absurd (ends_whole W M x v (work_of h) k p) ], All-from_recursion (λ other. IsSome (W.look other)) v.touched k)
says_of W M x (Stops Wrong v) h a k =
    (elim a [ inl e ↦ e | inr p ↦ absurd (ends_whole W M x v (work_of h) k p) ], All-from_recursion (λ other. IsSome (W.look other)) v.touched k)
says_of W M x (Stops (Missing id) v) h a k =
    elim a [
      | inl e ↦ asks_alike W.look id v.touched (work_of h).touched k (ap (λ (g : Got Flow). (work_of g).touched) e)
      | inr p ↦ asks_at W M x id v (work_of h) k p
    ]

statements_say :
    (W : World) (M : Look) (n depth rounds : ℕ) (f : Frame) (s : TypedStatements) (w : Work)
    → Extends W.look M
    → AreIn W.objects w.touched
    → AllKnown W.look w.touched
    → Says W.look (execute_all W (calls W n depth) rounds f s w) (execute_all (over W M) (calls (over W M) n depth) rounds f s w)
statements_say W M n depth rounds f s w x p k =
    let t = statements_tied (wider W M x) W.classes n depth rounds f s w in
    says_of W M x (execute_all W (calls W n depth) rounds f s w) (execute_all (over W M) (calls (over W M) n depth) rounds f s w) (t.agrees p)
    (t.knows p (recursion_from_All (λ id. IsSome (W.look id)) w.touched k))

pub runs_say : RunsSay
runs_say = record {
  statements = statements_say;
  task = λ W M t v x e k.
      statements_say W M most_turns 0 most_turns (task_frame t v) t.body (work_at_start v) x (subst (λ (l : List ℕ). AreIn l v.objects) (sym e) (in_itself v.objects)) k;
}

-- the look-ups of two stores, and objects on which they agree
abbrev both : (S T : Plain) (is_open : ℕ → Bool) → ((id : ℕ) → is_open id ≡ false → slice_get S.bodies id ≡ slice_get T.bodies id) → List ℕ → Looks
both S T is_open alike objects = record { left = look_of S; right = look_of T; is_open = is_open; alike = alike; objects = objects }

body_tied :
    (P : TypedProgram) (S T : Plain) (o : Option TypedTask) (v : Invocation) (is_open : ℕ → Bool) (alike : (id : ℕ) → is_open id ≡ false → slice_get S.bodies id ≡ slice_get T.bodies id)
    → Tied (both S T is_open alike v.objects) (work_at_start v) (body_run P S o v) (body_run P T o v)
body_tied P S T None v is_open alike = tied_wrong (work_at_start v)
body_tied P S T (Some t) v is_open alike =
    statements_tied (both S T is_open alike v.objects) P.classes most_turns 0 most_turns (task_frame t v) t.body (work_at_start v)

abbrev own_run : TypedProgram → Plain → Invocation → Got Flow
own_run P S v = body_run P S (slice_get P.tasks v.task) v

-- a run over one store alone
pub run_grows : (P : TypedProgram) (S : Plain) (v : Invocation) → Grows v.objects (work_at_start v) (work_of (own_run P S v))
run_grows P S v = (body_tied P S S (slice_get P.tasks v.task) v (λ id. false) (λ id e. refl)).left

run_within : (P : TypedProgram) (S : Plain) (v : Invocation) → AreWithin (work_of (own_run P S v)).changed (work_of (own_run P S v)).touched
run_within P S v = (run_grows P S v).within (in_itself v.objects) tt

pub work_grows : WorkGrows
work_grows = record {
  statements = λ W n depth rounds f s w.
      let K : Looks = record { left = W.look; right = W.look; is_open = λ id. false; alike = λ id e. refl; objects = W.objects } in
      (statements_tied K W.classes n depth rounds f s w).left;
  invocation = run_grows;
}

ended_touched : (S : Plain) (g : Got Flow) → (ending S g).touched ≡ (work_of g).touched
ended_touched S (Gives f w) = refl
ended_touched S (Stops h w) = refl

not_apart : (K : Looks) (v w : Work) → ((id : ℕ) → has v.touched id ≡ true → K.is_open id ≡ false) → Apart K v w → ⊥
not_apart K v w h a =
    let there : has v.touched a.id ≡ true = subst (λ (l : List ℕ). has l a.id ≡ true) (sym a.left.touched) (has_more a.fork.touched a.left.rest a.id a.touched) in
    false≢true (sym (h a.id there) ∙ a.opens)

agree_at : (S T : Plain) (ids : List ℕ) (id : ℕ) → AgreeOn S T ids → has ids id ≡ true → slice_get S.bodies id ≡ slice_get T.bodies id
agree_at S T ids id a h =
    one_of (λ other. slice_get S.bodies other ≡ slice_get T.bodies other) ids id
    (recursion_from_All (λ other. slice_get S.bodies other ≡ slice_get T.bodies other) ids a) h

run_agrees : (P : TypedProgram) (S T : Plain) (v : Invocation) → AgreeOn S T (body_outcome P S v).touched → (id : ℕ) → has (work_of (own_run P S v)).touched id ≡ true → slice_get S.bodies id ≡ slice_get T.bodies id
run_agrees P S T v a id h =
    agree_at S T (work_of (own_run P S v)).touched id (subst (AgreeOn S T) (ended_touched S (own_run P S v)) a) h

local_run : (P : TypedProgram) (S T : Plain) (v : Invocation) → AgreeOn S T (body_outcome P S v).touched → own_run P S v ≡ own_run P T v
local_run P S T v a =
    let touched = (work_of (own_run P S v)).touched in
    let is_open : ℕ → Bool = λ id. not (has touched id) in
    let alike : (id : ℕ) → is_open id ≡ false → slice_get S.bodies id ≡ slice_get T.bodies id = λ id e. run_agrees P S T v a id (not-false (has touched id) e) in
    let t = body_tied P S T (slice_get P.tasks v.task) v is_open alike in
    elim (t.agrees (in_itself v.objects)) [
      | inl e ↦ sym e
      | inr p ↦ absurd (not_apart (both S T is_open alike v.objects) (work_of (own_run P S v)) (work_of (own_run P T v)) (λ id h. not_from_true (has touched id) h) p)
    ]

ends_alike : (S T : Plain) (g : Got Flow) → AreWithin (work_of g).changed (work_of g).touched → ((id : ℕ) → has (work_of g).touched id ≡ true → slice_get S.bodies id ≡ slice_get T.bodies id) → ending S g ≡ ending T g
ends_alike S T (Gives f w) a h = ap (λ (c : Changes). record { ran = ran.Commit c; touched = w.touched }) (changes_alike S T w a h)
ends_alike S T (Stops s w) a h = refl

pub runs_are_local : RunsAreLocal
runs_are_local = record {
  run = local_run;
  outcome = λ P S T v a. ends_alike S T (own_run P S v) (run_within P S v) (run_agrees P S T v a) ∙ ap (ending T) (local_run P S T v a);
}

written_touched : (S : Plain) (g : Got Flow) (c : Changes) → AreWithin (work_of g).changed (work_of g).touched → (ending S g).ran ≡ ran.Commit c → AllByRecursion (λ b. has (ending S g).touched b.id ≡ true) c.bodies
written_touched S (Gives f w) c a e =
    let same : changes_between S w ≡ c = cc in
    subst (λ (d : Changes). AllByRecursion (λ (b : Written). has w.touched b.id ≡ true) d.bodies) same (changes_touched S w a)
written_touched S (Stops s w) c a e = absurd (cc)

body_touched : (P : TypedProgram) (S : Plain) (v : Invocation) (c : Changes) → (body_outcome P S v).ran ≡ ran.Commit c → All (λ b. has (body_outcome P S v).touched b.id ≡ true) c.bodies
body_touched P S v c e =
    All-from_recursion (λ (b : Written). has (body_outcome P S v).touched b.id ≡ true) c.bodies (written_touched S (own_run P S v) c (run_within P S v) e)

refused_touched : (k : Option FaultKind) (at : Place) (o : Outcome) → (refused_room k at o).touched ≡ o.touched
refused_touched None at o = refl
refused_touched (Some k) at o = refl

room_touched : (S : Plain) (at : Place) (r : Ran) (o : Outcome) → (with_room S at r o).touched ≡ o.touched
room_touched S at (ran.Commit c) o = refused_touched (fault_of_room S c) at o
room_touched S at (ran.Faulted f) o = refl

-- what commits with room is what the body commits
refused_commits : (k : Option FaultKind) (at : Place) (o : Outcome) (c : Changes) → (refused_room k at o).ran ≡ ran.Commit c → o.ran ≡ ran.Commit c
refused_commits None at o c e = e
refused_commits (Some k) at o c e = absurd (cc)

room_commits : (S : Plain) (at : Place) (r : Ran) (o : Outcome) (c : Changes) → (with_room S at r o).ran ≡ ran.Commit c → o.ran ≡ ran.Commit c
room_commits S at (ran.Commit d) o c e = refused_commits (fault_of_room S d) at o c e
room_commits S at (ran.Faulted f) o c e = e

pub outcome_touched : (P : TypedProgram) (S : Plain) (v : Invocation) → (outcome P S v).touched ≡ (body_outcome P S v).touched
outcome_touched P S v = room_touched S (place_of (slice_get P.tasks v.task)) (body_outcome P S v).ran (body_outcome P S v)

pub outcome_commits : (P : TypedProgram) (S : Plain) (v : Invocation) (c : Changes) → (outcome P S v).ran ≡ ran.Commit c → (body_outcome P S v).ran ≡ ran.Commit c
outcome_commits P S v c e = room_commits S (place_of (slice_get P.tasks v.task)) (body_outcome P S v).ran (body_outcome P S v) c e

pub changes_are_touched : ChangesAreTouched
changes_are_touched = record {
  body = body_touched;
  commit = λ P S v c e.
      subst (λ (l : List ℕ). All (λ (b : Written). has l b.id ≡ true) c.bodies) (sym (outcome_touched P S v)) (body_touched P S v c (outcome_commits P S v c e));
}

pub touched_from_the_parameters : TouchedFromTheParameters
touched_from_the_parameters = record {
  begins = λ P S v. ((run_grows P S v).rest, ended_touched S (own_run P S v) ∙ (run_grows P S v).touched);
  once = λ P S v d. ap are_different (ended_touched S (own_run P S v)) ∙ (run_grows P S v).once d;
  with_room = outcome_touched;
}
