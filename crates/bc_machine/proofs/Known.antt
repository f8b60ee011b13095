-- Which objects the run of an enabled invocation touches.
use Rattle.std.proofs.Common.{◌≡◌, ℕ, ◌+◌, ◌<◌, ◌≤◌, inl, inr, Bool, true, false, ◌&&◌, ◌||◌, ◌==◌, eqb, List, [], ◌∷◌, ◌++◌, length, map, take, refl, sym, ◌∙◌, ap, ap₂, subst, arith}
use Rattle.std.specs.Prelude.{nat_lt, not, slice_get, slice_index_or, Option, Some, None, is_some, IsSome, All, Ok}
use Rattle.std.specs.List.{AllByRecursion, IsDistinct, list_all, list_any}
use Rattle.std.proofs.lemmas.Bool.{and_parts, eqb-false, eqb-true, false≢true, ne_eqb, not-true, or_parts}
use Rattle.std.proofs.lemmas.List.{length-append, length-map, map-append, take_more}
use Rattle.std.proofs.lemmas.List.Elements.{All-from_recursion, recursion_from_All}
use Rattle.std.proofs.lemmas.Map.Steps.{length-le_from_distinct_below}
use Rattle.std.proofs.lemmas.Option.{slice_get_cases, slice_get_read}
use Rattle.bc_data.specs.Typed.{TypedParam, TypedProgram, TypedTask}
use Rattle.bc_data.specs.declared.run.Body.{Body}
use Rattle.bc_data.specs.declared.run.Invocation.{Invocation}
use Rattle.bc_data.specs.declared.run.Written.{Written}
use Rattle.bc_mean.specs.declared.plain.Plain.{Plain}
use Rattle.bc_mean.specs.Enabled.{IsEnabled, are_different, is_some_and, take_all, takes}
use Rattle.bc_mean.specs.Execute.{Flow}
use Rattle.bc_mean.specs.Outcome.{body_outcome, body_run}
use Rattle.bc_mean.specs.Work.{Got, Gives, Stops, Faulted, Missing, Wrong, look_of}
use Rattle.bc_mean.proofs.Enabled.{inside}
use Rattle.bc_mean.proofs.Lists.{each_weaker}
use Rattle.bc_law_soundness.specs.Laws.{IsNotStuck}
use Rattle.bc_law_soundness.proofs.Stuck.{never_stuck}
use Rattle.bc_law_locality.specs.Growth.{has, work_of}
use Rattle.bc_law_locality.specs.Laws.{Says}
use Rattle.bc_law_locality.proofs.Lists.{has_here, one_of}
use Rattle.bc_law_locality.proofs.Runs.{touched_from_the_parameters}
use Rattle.bc_code.specs.declared.code.Code.{Code}
use Rattle.bc_code.specs.Given.{ids_of}
use Rattle.bc_law_code.proofs.Asked.{run_over_says}
use Rattle.bc_law_code.proofs.Lists.{not_given}
use Rattle.bc_step.specs.Area.{AgreesWith, AreaParts, Held, given_of}
use Rattle.bc_step.specs.State.{KeepsGiven}
use Rattle.bc_machine.specs.declared.machine.Machine.{Machine}
use Rattle.bc_machine.specs.declared.machine.Going.{Going}
use Rattle.bc_machine.specs.declared.machine.Going.TheVariants as going
use Rattle.bc_machine.specs.Running.{AreBodiesOf, IsInNeed, IsRunOf, IsRunning, Needs, Tells, runs_on}
use Rattle.bc_machine.proofs.Ends.{touched_in}
use Rattle.bc_machine.proofs.Gives.{objects_differ}
use Rattle.bc_machine.proofs.Stores.{run_is_body}

taken : (S : Plain) (t : TypedTask) (instances : List ℕ) (ps : List TypedParam) (ids : List ℕ) → take_all S t instances ps ids ≡ true → AllByRecursion (λ id. id < length S.bodies) ids
taken S t instances [] [] h = tt
taken S t instances [] (id ∷ ids) h = absurd (false≢true h)
taken S t instances (p ∷ ps) [] h = absurd (false≢true h)
taken S t instances (p ∷ ps) (id ∷ ids) h =
    let q = and_parts (takes S t instances p id) (take_all S t instances ps ids) h in
    (inside S.bodies id _ q.0, taken S t instances ps ids q.1)

-- the objects of an enabled invocation are there
there : (P : TypedProgram) (S : Plain) (v : Invocation) → IsEnabled P S v → AllByRecursion (λ id. id < length S.bodies) v.objects
there P S v e = at (slice_get P.tasks v.task) e
  where
    at :
        (o : Option TypedTask)
        → is_some_and o (λ t.
        (length v.tags == length t.variables) && take_all S t v.tags t.params v.objects && are_different v.objects
        && list_all (λ n. nat_lt n (length S.tags)) v.tags) ≡ true
        → AllByRecursion (λ id. id < length S.bodies) v.objects
    at None h = absurd (false≢true h)
    at (Some t) h =
        let long = length v.tags == length t.variables in
        let fits = take_all S t v.tags t.params v.objects in
        let front = and_parts (long && fits && are_different v.objects) (list_all (λ n. nat_lt n (length S.tags)) v.tags) h in
        let middle = and_parts (long && fits) (are_different v.objects) front.0 in
        taken S t v.tags t.params v.objects (and_parts long fits middle.0).1

pub objects_there : (P : TypedProgram) (S : Plain) (v : Invocation) → IsEnabled P S v → All (λ id. id < length S.bodies) v.objects
objects_there P S v e = All-from_recursion (λ id. id < length S.bodies) v.objects (there P S v e)

known_there : (S : Plain) (id : ℕ) → id < length S.bodies → IsSome (look_of S id)
known_there S id l = elim ((slice_get_cases S.bodies id).1) [
  | inl f ↦ ap is_some f.2
  | inr f ↦ absurd (omega (arith, l, f.0))
]

there_known : (S : Plain) (id : ℕ) → IsSome (look_of S id) → id < length S.bodies
there_known S id k = elim ((slice_get_cases S.bodies id).1) [
  | inl f ↦ f.1
  | inr f ↦ absurd (false≢true (sym (ap is_some f.1) ∙ k))
]

-- different numbers, each below n, are at most n
distinct : (ids : List ℕ) → are_different ids ≡ true → IsDistinct eqb ids
unfolding IsDistinct
distinct [] d = tt
distinct (id ∷ ids) d =
    let q = and_parts (not (has ids id)) (are_different ids) d in
    (apart ids (not-true (has ids id) q.0), distinct ids q.1)
  where
    apart : (others : List ℕ) → has others id ≡ false → AllByRecursion (λ other. eqb id other ≡ false) others
    apart [] h = tt
    apart (other ∷ others) h =
        let q = or_parts (other == id) (has others id) h in
        (ne_eqb id other (λ e. eqb-false other id q.0 (sym e)), apart others q.1)

one : (F : ℕ → Type 0) (ids : List ℕ) (id : ℕ) → AllByRecursion F ids → list_any (eqb id) ids ≡ true → F id
one F [] id a h = absurd (false≢true h)
one F (other ∷ others) id a h = at (eqb id other) refl (one F others id a.1) h
  where
    at : (b : Bool) → eqb id other ≡ b → (list_any (eqb id) others ≡ true → F id) → (b || list_any (eqb id) others) ≡ true → F id
    at true e later h = subst F (sym (eqb-true id other e)) a.0
    at false e later h = later h

module _ (P : TypedProgram) (S : Plain) (code : Code) (v : Invocation) (run : IsRunOf P S code v) where
  abbrev own : Got Flow
  own = body_run P S (slice_get P.tasks v.task) v

  says : Says (look_of S) own own
  says =
      subst (λ (g : Got Flow). Says (look_of S) g g) (run_is_body P S v)
      (run_over_says P (look_of S) (look_of S) v (λ id b e. e)
      (All-from_recursion (λ id. IsSome (look_of S id)) v.objects (each_weaker (λ id. id < length S.bodies) (λ id. IsSome (look_of S id)) (known_there S) v.objects (there P S v run.enabled))))

  known : (g : Got Flow) → IsNotStuck g → Says (look_of S) g g → All (λ id. IsSome (look_of S id)) (work_of g).touched
  known (Gives x w) n s = s.1
  known (Stops (Faulted f) w) n s = s.1
  known (Stops (Missing id) w) n s = absurd (n.known id w refl)
  known (Stops Wrong w) n s = s.1

  -- every object that the run touches is there
  touched_there : AllByRecursion (λ id. id < length S.bodies) (body_outcome P S v).touched
  touched_there =
      subst (AllByRecursion (λ id. id < length S.bodies)) (sym (touched_in S own))
      (each_weaker (λ id. IsSome (look_of S id)) (λ id. id < length S.bodies) (there_known S) (work_of own).touched (recursion_from_All (λ id. IsSome (look_of S id)) (work_of own).touched (known own (never_stuck P S v run.well_typed run.fits run.enabled) says)))

  touched_few : length (body_outcome P S v).touched ≤ length S.bodies
  touched_few =
      length-le_from_distinct_below (body_outcome P S v).touched (length S.bodies)
      (distinct (body_outcome P S v).touched (touched_from_the_parameters.once P S v (objects_differ P S v run.enabled)))
      (λ id h. one (λ other. other < length S.bodies) (body_outcome P S v).touched id touched_there h)

-- The object that a run needs is there and new, and there are more bodies than were given.
pub record Lacking (S : Plain) (a : AreaParts) (id : ℕ) : Type 0 where
  pub there : id < length S.bodies
  pub more : length a.held < length S.bodies
  pub new : has (ids_of (given_of a.held)) id ≡ false

pub need_there : (P : TypedProgram) (S : Plain) (code : Code) (a : AreaParts) (id : ℕ) → IsRunOf P S code a.invocation → AgreesWith S (given_of a.held) → IsInNeed P a id → Lacking S a id
need_there P S code a id run agrees need =
    let n = need.next S agrees in
    let gs = given_of a.held in
    let few : length (ids_of gs ++ id ∷ n.0) ≤ length S.bodies = subst (λ (l : List ℕ). length l ≤ length S.bodies) n.1 (touched_few P S code a.invocation run) in
    let long : length (ids_of gs ++ id ∷ n.0) ≡ length (ids_of gs) + length (id ∷ n.0) = length-append (ids_of gs) (id ∷ n.0) in
    let held : length (ids_of gs) ≡ length a.held = length-map gs (λ (g : Written). g.id) ∙ length-map a.held (λ (h : Held). record { id = h.id; body = h.body }) in
    record {
      there = one_of (λ other. other < length S.bodies) (ids_of gs ++ id ∷ n.0) id (subst (AllByRecursion (λ other. other < length S.bodies)) n.1 (touched_there P S code a.invocation run)) (has_here (ids_of gs) n.0 id);
      more = omega (arith, few, long, held);
      new = not_given gs id need.new;
    }

pub held_kept : (a b : AreaParts) → KeepsGiven a b → length b.held ≡ length a.held
held_kept a b k =
    let of : (hs : List Held) → length (given_of hs) ≡ length hs = λ hs. length-map hs (λ (h : Held). record { id = h.id; body = h.body }) in
    sym (of b.held) ∙ ap length k.given ∙ of a.held

-- a machine that answered a need, after it was on its way
module _ (P : TypedProgram) (S : Plain) (code : Code) (m : Machine) (id : ℕ) (g : Going) (is : g ≡ going.Need id) (on : runs_on (Ok g) (IsRunning P S code m)) (tells : Tells P m.area g) where
  in_need : IsInNeed P m.area id
  in_need = subst (Tells P m.area) is tells

  stands : IsRunning P S code m
  stands = subst (λ (h : Going). runs_on (Ok h) (IsRunning P S code m)) is on

  pub lacking : Lacking S m.area id
  lacking = need_there P S code m.area id stands.run stands.agrees in_need

  -- with room for the body it is on its way, and needs it
  pub needs_still : (n : Machine) → n.area ≡ record m.area { spare = n.area.spare } → (IsRunning P S code m → IsRunning P S code n) → IsRunning P S code n × Needs P n.area id
  needs_still n e runs = (runs stands, subst (λ (a : AreaParts). Needs P a id) (sym e) in_need.needs)

-- what a turn of the loop does to the objects that were given
pub one_more_given : (a b c d : AreaParts) (h : Held) → KeepsGiven a b → c ≡ record b { spare = c.spare } → d ≡ record c { held = c.held ++ h ∷ []; spare = d.spare } → length d.held ≡ length a.held + 1
one_more_given a b c d h k e f =
    ap (λ (x : AreaParts). length x.held) f ∙ length-append c.held (h ∷ []) ∙ ap (λ (n : ℕ). n + 1) (ap (λ (x : AreaParts). length x.held) e ∙ held_kept a b k)

pub same_invocation : (a b c d : AreaParts) (h : Held) → KeepsGiven a b → c ≡ record b { spare = c.spare } → d ≡ record c { held = c.held ++ h ∷ []; spare = d.spare } → d.invocation ≡ a.invocation
same_invocation a b c d h k e f = ap (λ (x : AreaParts). x.invocation) f ∙ ap (λ (x : AreaParts). x.invocation) e ∙ k.invocation

-- one body more, for one object more
pub bodies_more :
    (S : Plain) (ids : List ℕ) (i d : ℕ) (bodies more : List Body) (b c : Body)
    → All (λ id. id < length S.bodies) ids
    → i < length ids
    → b ≡ c
    → c ≡ slice_index_or S.bodies (slice_index_or ids i d) c
    → AreBodiesOf S (take i ids) bodies
    → more ≡ bodies ++ b ∷ []
    → AreBodiesOf S (take (i + 1) ids) more
bodies_more S ids i d bodies more b c there l e f are g =
    let is : slice_get S.bodies (slice_index_or ids i d) ≡ Some c = slice_get_read S.bodies (length S.bodies) (slice_index_or ids i d) c refl (there i d l) f in
    ap (map (slice_get S.bodies)) (take_more ids i d l)
    ∙ map-append (slice_get S.bodies) (take i ids) (slice_index_or ids i d ∷ [])
    ∙ ap₂ (λ (front : List (Option Body)) (o : Option Body). front ++ o ∷ []) are (is ∙ ap (λ (x : Body). Some x) (sym e))
    ∙ sym (map-append (λ (x : Body). Some x) bodies (b ∷ []))
    ∙ ap (map (λ (x : Body). Some x)) (sym g)
