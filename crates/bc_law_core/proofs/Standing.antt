-- Failures stand where nothing changed that they touched.
use Rattle.std.proofs.Common.{◌≡◌, ℕ, zero, suc, ◌+◌, ◌<◌, inl, inr, true, List, [], ◌∷◌, length, length-append, get_or, Option, Some, None, refl, sym, ap, ◌∙◌, subst, arith}
use Rattle.std.specs.Prelude.{All, IsSome, slice_get}
use Rattle.std.proofs.lemmas.Bool.{false≢true, lt-ltb, ltb-true}
use Rattle.std.proofs.lemmas.List.Elements.{All-from_recursion}
use Rattle.std.proofs.lemmas.Option.{slice_get-get_or, slice_get_within}
use Rattle.bc_data.specs.Typed.{TypedProgram, TypedTask}
use Rattle.bc_data.specs.WellTyped.{IsWellTyped}
use Rattle.bc_data.specs.declared.run.Body.{Body}
use Rattle.bc_data.specs.declared.run.Changes.{Changes}
use Rattle.bc_data.specs.declared.run.Fault.{Fault}
use Rattle.bc_data.specs.declared.run.FaultKind.{FaultKind}
use Rattle.bc_data.specs.declared.run.FaultKind.TheVariants as fault
use Rattle.bc_data.specs.declared.run.Invocation.{Invocation}
use Rattle.bc_data.specs.declared.run.Outcome.{Outcome}
use Rattle.bc_data.specs.declared.run.Place.{Place}
use Rattle.bc_data.specs.declared.run.Ran.{Ran}
use Rattle.bc_data.specs.declared.run.Ran.TheVariants as ran
use Rattle.bc_mean.specs.declared.plain.Plain.{Plain}
use Rattle.bc_mean.specs.Changes.{apply_changes, changed_objects, fault_of_room}
use Rattle.bc_mean.specs.Enabled.{IsEnabled}
use Rattle.bc_mean.specs.Execute.{Flow}
use Rattle.bc_mean.specs.Outcome.{body_outcome, body_run, ending, outcome, place_of, refused_room, with_room, world_of}
use Rattle.bc_mean.specs.Serial.{Failed, is_untouched}
use Rattle.bc_mean.specs.Store.{Fits, cells_in}
use Rattle.bc_mean.specs.Work.{Look, Got, Gives, Stops, Faulted, Missing, Wrong, look_of}
use Rattle.bc_law_locality.specs.Growth.{has}
use Rattle.bc_law_locality.specs.Laws.{AgreeOn, AllKnown, Says}
use Rattle.bc_law_locality.proofs.Lists.{has_more, in_itself}
use Rattle.bc_law_locality.proofs.Runs.{outcome_touched, runs_are_local, runs_say, touched_from_the_parameters}
use Rattle.bc_law_soundness.specs.Laws.{IsNotStuck}
use Rattle.bc_law_soundness.proofs.Stuck.{never_stuck}
use Rattle.bc_law_room.specs.Room.{Passes}
use Rattle.bc_law_room.specs.Sizes.{Outgrows}
use Rattle.bc_law_room.proofs.Growth.{keeps_kinds}
use Rattle.bc_law_room.proofs.Room.{room_is_of_sums}
use Rattle.bc_book_events.specs.Sound.{StillFails, passes}
use Rattle.bc_book_events.proofs.Kept.{untouched_keeps}
use Rattle.bc_book_events.proofs.Reshaped.{enabled_of}
use Rattle.bc_book_events.proofs.Named.{taken_there}

-- each object of a list is in it
pub each_in : (ids : List ℕ) → All (λ id. has ids id ≡ true) ids
each_in ids k d l = in_itself ids k (get_or ids k d) (slice_get-get_or ids k d l)

-- an object that is known in a store is there
known_there : (bodies : List Body) (id : ℕ) (o : Option Body) → slice_get bodies id ≡ o → IsSome o → id < length bodies
known_there bodies id None e k = absurd (false≢true k)
known_there bodies id (Some b) e k = slice_get_within bodies id b e

known_below : (bodies : List Body) (id : ℕ) → id < length bodies → IsSome (slice_get bodies id)
known_below [] id l = absurd (omega arith)
known_below (b ∷ bodies) zero l = refl
known_below (b ∷ bodies) (suc n) l = known_below bodies n (omega arith)

-- all that a run touched is known where it isn't stuck
known_at_end : (L : Look) (S : Plain) (g h : Got Flow) → IsNotStuck g → Says L g h → AllKnown L (ending S g).touched
known_at_end L S (Gives x w) h free says = says.1
known_at_end L S (Stops (Faulted f) w) h free says = says.1
known_at_end L S (Stops (Missing id) w) h free says = absurd (free.known id w refl)
known_at_end L S (Stops Wrong w) h free says = says.1

pub touched_known : (P : TypedProgram) (S : Plain) (v : Invocation) → IsWellTyped P → Fits P S → IsEnabled P S v → AllKnown (look_of S) (body_outcome P S v).touched
touched_known P S v well fits on =
    let e = enabled_of P S v on in
    let there = taken_there S e.task v.tags e.task.params v.objects e.taken in
    let objects : AllKnown (look_of S) v.objects =
    λ k d l. known_below S.bodies (get_or v.objects k d) (All-from_recursion (λ id. id < length S.bodies) v.objects there.1 k d l) in
    let own = body_run P S (slice_get P.tasks v.task) v in
    let says : Says (look_of S) own own =
    subst (λ (o : Option TypedTask). Says (look_of S) (body_run P S o v) (body_run P S o v)) (sym e.here) (runs_say.task (world_of P S v) (look_of S) e.task v (λ id b e. e) refl objects) in
    known_at_end (look_of S) S own own (never_stuck P S v well fits on) says

-- the two forms in which a sum passes its limit
passed : (S : Plain) (c : Changes) (k : FaultKind) → Passes S c k → passes S c k ≡ true
passed S c fault.Objects h = lt-ltb 65536 (length S.bodies + length c.made) h
passed S c fault.Cells h = lt-ltb 4194304 (cells_in S.bodies + cells_in c.made) h
passed S c fault.Tags h = lt-ltb 65536 (length S.tags + length c.tags) h
passed S c fault.Output h = lt-ltb 16777216 (length S.output + length c.text) h
passed S c _ h = absurd h

is_passed : (S : Plain) (c : Changes) (k : FaultKind) → passes S c k ≡ true → Passes S c k
is_passed S c fault.Objects h = ltb-true 65536 (length S.bodies + length c.made) h
is_passed S c fault.Cells h = ltb-true 4194304 (cells_in S.bodies + cells_in c.made) h
is_passed S c fault.Tags h = ltb-true 65536 (length S.tags + length c.tags) h
is_passed S c fault.Output h = ltb-true 16777216 (length S.output + length c.text) h
is_passed S c _ h = absurd (false≢true h)

-- a sum that passes its limit does so in a store that outgrows
passes_on : (S T : Plain) (c : Changes) (k : FaultKind) → Outgrows S T → Passes S c k → Passes T c k
passes_on S T c fault.Objects g h = omega (arith, g.objects, h)
passes_on S T c fault.Cells g h = omega (arith, g.cells, h)
passes_on S T c fault.Tags g h = omega (arith, g.instances, h)
passes_on S T c fault.Output g h =
    let e : length T.output ≡ length S.output + length g.more = ap length g.output ∙ length-append S.output g.more in
    omega (arith, e, h)
passes_on S T c _ g h = absurd h

-- what an invocation comes to by what its body comes to
body_faults : (P : TypedProgram) (S : Plain) (v : Invocation) (g : Fault) → (body_outcome P S v).ran ≡ ran.Faulted g → (outcome P S v).ran ≡ ran.Faulted g
body_faults P S v g e = ap (λ (r : Ran). (with_room S (place_of (slice_get P.tasks v.task)) r (body_outcome P S v)).ran) e ∙ e

abbrev at_task : TypedProgram → Invocation → FaultKind → Fault
at_task P v k = record { kind = k; at = place_of (slice_get P.tasks v.task) }

body_exits : (P : TypedProgram) (S : Plain) (v : Invocation) (c : Changes) (o : Option FaultKind) → (body_outcome P S v).ran ≡ ran.Commit c → fault_of_room S c ≡ o → outcome P S v ≡ refused_room o (place_of (slice_get P.tasks v.task)) (body_outcome P S v)
body_exits P S v c o e f =
    ap (λ (r : Ran). with_room S (place_of (slice_get P.tasks v.task)) r (body_outcome P S v)) e
    ∙ ap (λ (o : Option FaultKind). refused_room o (place_of (slice_get P.tasks v.task)) (body_outcome P S v)) f

module _
    (P : TypedProgram) (S : Plain) (v : Invocation) (c : Changes) (f : Failed)
    (well : IsWellTyped P) (fits : Fits P S)
    (exits : (body_outcome P S v).ran ≡ ran.Commit c)
    (still : StillFails P S f)
    (untouched : is_untouched (changed_objects S (apply_changes S c)) f ≡ true)
  where
    abbrev T : Plain
    T = apply_changes S c

    abbrev place : Place
    place = place_of (slice_get P.tasks f.v.task)

    grown : Outgrows S T
    grown = (keeps_kinds.body P S v c exits).outgrown

    touched : f.touched ≡ (body_outcome P S f.v).touched
    touched = sym still.touched ∙ outcome_touched P S f.v

    named : All (λ id. has f.touched id ≡ true) f.v.objects
    named k d l =
        let id = get_or f.v.objects k d in
        let b = touched_from_the_parameters.begins P S f.v in
        subst (λ (ids : List ℕ). has ids id ≡ true) (sym (touched ∙ b.1)) (has_more f.v.objects b.0 id (each_in f.v.objects k d l))

    enabled : IsEnabled P T f.v
    enabled = untouched_keeps.enabled P S c f still.enabled named untouched

    agree : AgreeOn S T (body_outcome P S f.v).touched
    agree k d l =
        let ids = (body_outcome P S f.v).touched in
        let id = get_or ids k d in
        untouched_keeps.body S c f id untouched (subst (λ (ts : List ℕ). has ts id ≡ true) (sym touched) (each_in ids k d l))
        (known_there S.bodies id (slice_get S.bodies id) refl (touched_known P S f.v well fits still.enabled k d l))

    alike : body_outcome P S f.v ≡ body_outcome P T f.v
    alike = runs_are_local.outcome P S T f.v agree

    touched_there : (outcome P T f.v).touched ≡ f.touched
    touched_there = outcome_touched P T f.v ∙ ap (λ (o : Outcome). o.touched) (sym alike) ∙ sym touched

    ran_there : (r : Ran) → (body_outcome P S f.v).ran ≡ r → (body_outcome P T f.v).ran ≡ r
    ran_there r e = ap (λ (o : Outcome). o.ran) (sym alike) ∙ e

    -- a fault of the body is the same one
    by_body : (g : Fault) → (body_outcome P S f.v).ran ≡ ran.Faulted g → StillFails P T f
    by_body g e =
        let here = body_faults P S f.v g e in
        let own = still.faults in
        let same : still.fault ≡ g = cc in
        record {
          enabled = enabled;
          fault = g;
          faults = body_faults P T f.v g (ran_there (ran.Faulted g) e);
          touched = touched_there;
          alike = elim still.alike [ inl h ↦ inl (sym same ∙ h) | inr h ↦ let x = h.1.exits in absurd (cc) ];
        }

    -- the recorded fault is at the task, and its sum has no room
    module _ (d : Changes) (e : (body_outcome P S f.v).ran ≡ ran.Commit d) where
      recorded : (k : FaultKind) → fault_of_room S d ≡ Some k → (f.fault.at ≡ place) × Passes S d f.fault.kind
      recorded k room =
          let here : (outcome P S f.v).ran ≡ ran.Faulted (at_task P f.v k) = ap (λ (o : Outcome). o.ran) (body_exits P S f.v d (Some k) e room) in
          let own = still.faults in
          let same : still.fault ≡ at_task P f.v k = cc in
          elim still.alike [
            | inl h ↦ let is : at_task P f.v k ≡ f.fault = sym same ∙ h in
                (ap (λ (x : Fault). x.at) (sym is), subst (λ (x : Fault). Passes S d x.kind) is (room_is_of_sums.passes S d k room))
            | inr h ↦ let x = h.1.exits in
                let its : h.1.changes ≡ d = cc in
                (sym h.0 ∙ ap (λ (x : Fault). x.at) same, is_passed S d f.fault.kind (subst (λ (x : Changes). passes S x f.fault.kind ≡ true) its h.1.full))
          ]

      lacks_there : (o : Option FaultKind) → fault_of_room T d ≡ o → IsSome o → f.fault.at ≡ place → Passes T d f.fault.kind → StillFails P T f
      lacks_there None room some at full = absurd (false≢true some)
      lacks_there (Some k) room some at full = record {
        enabled = enabled;
        fault = at_task P f.v k;
        faults = ap (λ (o : Outcome). o.ran) (body_exits P T f.v d (Some k) (ran_there (ran.Commit d) e) room);
        touched = touched_there;
        alike = inr (sym at, record { changes = d; exits = ran_there (ran.Commit d) e; full = passed T d f.fault.kind full });
      }

      by_room : (o : Option FaultKind) → fault_of_room S d ≡ o → StillFails P T f
      by_room None room =
          let here : (outcome P S f.v).ran ≡ (body_outcome P S f.v).ran = ap (λ (o : Outcome). o.ran) (body_exits P S f.v d None e room) in
          let own = still.faults in
          absurd (cc)
      by_room (Some k) room =
          let r = recorded k room in
          let full : Passes T d f.fault.kind = passes_on S T d f.fault.kind grown r.1 in
          lacks_there (fault_of_room T d) refl (room_is_of_sums.lacks T d f.fault.kind full) r.0 full

    by_ran : (r : Ran) → (body_outcome P S f.v).ran ≡ r → StillFails P T f
    by_ran (ran.Commit d) e = by_room d e (fault_of_room S d) refl
    by_ran (ran.Faulted g) e = by_body g e

    pub stands : StillFails P T f
    stands = by_ran (body_outcome P S f.v).ran refl
