-- Room that is used stays used.
use Rattle.std.proofs.Common.{◌≡◌, ℕ, inl, inr, ◌+◌, ◌<◌, ◌≤◌, Bool, true, false, cond, length, refl, sym, ap, ◌∙◌, subst, arith, length-append}
use Rattle.std.proofs.lemmas.Bool.{false≢true, lt-ltb, ltb-true}
use Rattle.std.proofs.lemmas.Option.{same_Some}
use Rattle.std.specs.Prelude.{nat_lt, slice_get, Option, Some, None, IsSome}
use Rattle.bc_data.specs.Typed.{TypedProgram}
use Rattle.bc_data.specs.declared.run.Changes.{Changes}
use Rattle.bc_data.specs.declared.run.Fault.{Fault}
use Rattle.bc_data.specs.declared.run.FaultKind.{FaultKind}
use Rattle.bc_data.specs.declared.run.FaultKind.TheVariants as fault
use Rattle.bc_data.specs.declared.run.Invocation.{Invocation}
use Rattle.bc_data.specs.declared.run.Outcome.{Outcome}
use Rattle.bc_data.specs.declared.run.Ran.{Ran}
use Rattle.bc_data.specs.declared.run.Ran.TheVariants as ran
use Rattle.bc_mean.specs.declared.plain.Plain.{Plain}
use Rattle.bc_mean.specs.Changes.{apply_changes, fault_of_room}
use Rattle.bc_mean.specs.Outcome.{body_outcome, outcome, place_of, refused_room, with_room}
use Rattle.bc_mean.specs.Serial.{IsFault}
use Rattle.bc_mean.specs.Store.{cells_in}
use Rattle.bc_law_locality.specs.Laws.{AgreeOn}
use Rattle.bc_law_locality.proofs.Runs.{outcome_commits, outcome_touched, runs_are_local}
use Rattle.bc_law_room.specs.Laws.{FailuresStay, IsFaultLike, LacksRoom, RoomIsOfSums, RoomStaysUsed}
use Rattle.bc_law_room.specs.Room.{HasRoom, Passes, is_of_room}
use Rattle.bc_law_room.specs.Sizes.{AddsUp, Outgrows}
use Rattle.bc_law_room.proofs.Growth.{history_grows, keeps_kinds}

-- the first of four that are so
abbrev first : Bool → Bool → Bool → Bool → Option FaultKind
first a b c d = cond a (Some fault.Objects) (cond b (Some fault.Cells) (cond c (Some fault.Tags) (cond d (Some fault.Output) None)))

abbrev Is : Bool → Bool → Bool → Bool → FaultKind → Type 0
Is a b c d fault.Objects = a ≡ true
Is a b c d fault.Cells = b ≡ true
Is a b c d fault.Tags = c ≡ true
Is a b c d fault.Output = d ≡ true
Is a b c d _ = ⊥

first_is : (a b c d : Bool) (k : FaultKind) → first a b c d ≡ Some k → Is a b c d k
first_is true b c d k e = subst (Is true b c d) (same_Some fault.Objects k e) refl
first_is false true c d k e = subst (Is false true c d) (same_Some fault.Cells k e) refl
first_is false false true d k e = subst (Is false false true d) (same_Some fault.Tags k e) refl
first_is false false false true k e = subst (Is false false false true) (same_Some fault.Output k e) refl
first_is false false false false k e = absurd (cc)

past : (limit n : ℕ) → nat_lt limit n ≡ true → limit < n
past limit n e = ltb-true limit n e

within : (limit n : ℕ) → nat_lt limit n ≡ false → n ≤ limit
within limit n e = grind (arith, e)

passes_of :
    (S : Plain) (c : Changes) (k : FaultKind)
    → Is (nat_lt 65536 (length S.bodies + length c.made)) (nat_lt 4194304 (cells_in S.bodies + cells_in c.made)) (nat_lt 65536 (length S.tags + length c.tags)) (nat_lt 16777216 (length S.output + length c.text)) k
    → Passes S c k
passes_of S c fault.Objects e = past 65536 (length S.bodies + length c.made) e
passes_of S c fault.Cells e = past 4194304 (cells_in S.bodies + cells_in c.made) e
passes_of S c fault.Tags e = past 65536 (length S.tags + length c.tags) e
passes_of S c fault.Output e = past 16777216 (length S.output + length c.text) e
passes_of S c fault.Null e = e
passes_of S c fault.Bounds e = e
passes_of S c fault.Zero e = e
passes_of S c fault.Assert e = e
passes_of S c fault.Size e = e
passes_of S c fault.Turns e = e
passes_of S c fault.Depth e = e
passes_of S c fault.Text e = e
passes_of S c fault.TagSlots e = e

room_passes : (S : Plain) (c : Changes) (k : FaultKind) → fault_of_room S c ≡ Some k → Passes S c k
room_passes S c k e =
    passes_of S c k
    (first_is (nat_lt 65536 (length S.bodies + length c.made)) (nat_lt 4194304 (cells_in S.bodies + cells_in c.made)) (nat_lt 65536 (length S.tags + length c.tags)) (nat_lt 16777216 (length S.output + length c.text)) k e)

some_here : (b : Bool) (k : FaultKind) (o : Option FaultKind) → b ≡ true → IsSome (cond b (Some k) o)
some_here b k o e = subst (λ (x : Bool). IsSome (cond x (Some k) o)) (sym e) refl

some_later : (b : Bool) (k : FaultKind) (o : Option FaultKind) → IsSome o → IsSome (cond b (Some k) o)
some_later true k o s = refl
some_later false k o s = s

lacks_room : (S : Plain) (c : Changes) (k : FaultKind) → Passes S c k → IsSome (fault_of_room S c)
lacks_room S c fault.Objects h =
    some_here (nat_lt 65536 (length S.bodies + length c.made)) fault.Objects _ (lt-ltb 65536 (length S.bodies + length c.made) h)
lacks_room S c fault.Cells h =
    some_later (nat_lt 65536 (length S.bodies + length c.made)) fault.Objects _
    (some_here (nat_lt 4194304 (cells_in S.bodies + cells_in c.made)) fault.Cells _ (lt-ltb 4194304 (cells_in S.bodies + cells_in c.made) h))
lacks_room S c fault.Tags h =
    some_later (nat_lt 65536 (length S.bodies + length c.made)) fault.Objects _
    (some_later (nat_lt 4194304 (cells_in S.bodies + cells_in c.made)) fault.Cells _
    (some_here (nat_lt 65536 (length S.tags + length c.tags)) fault.Tags _ (lt-ltb 65536 (length S.tags + length c.tags) h)))
lacks_room S c fault.Output h =
    some_later (nat_lt 65536 (length S.bodies + length c.made)) fault.Objects _
    (some_later (nat_lt 4194304 (cells_in S.bodies + cells_in c.made)) fault.Cells _
    (some_later (nat_lt 65536 (length S.tags + length c.tags)) fault.Tags _
    (some_here (nat_lt 16777216 (length S.output + length c.text)) fault.Output _ (lt-ltb 16777216 (length S.output + length c.text) h))))
lacks_room S c fault.Null h = absurd h
lacks_room S c fault.Bounds h = absurd h
lacks_room S c fault.Zero h = absurd h
lacks_room S c fault.Assert h = absurd h
lacks_room S c fault.Size h = absurd h
lacks_room S c fault.Turns h = absurd h
lacks_room S c fault.Depth h = absurd h
lacks_room S c fault.Text h = absurd h
lacks_room S c fault.TagSlots h = absurd h

room_kind : (S : Plain) (c : Changes) (k : FaultKind) → Passes S c k → is_of_room k ≡ true
room_kind S c fault.Objects h = refl
room_kind S c fault.Cells h = refl
room_kind S c fault.Tags h = refl
room_kind S c fault.Output h = refl
room_kind S c fault.Null h = absurd h
room_kind S c fault.Bounds h = absurd h
room_kind S c fault.Zero h = absurd h
room_kind S c fault.Assert h = absurd h
room_kind S c fault.Size h = absurd h
room_kind S c fault.Turns h = absurd h
room_kind S c fault.Depth h = absurd h
room_kind S c fault.Text h = absurd h
room_kind S c fault.TagSlots h = absurd h

-- a sum that passes its limit does so in a store that outgrows
passes_on : (S T : Plain) (c : Changes) (k : FaultKind) → Outgrows S T → Passes S c k → Passes T c k
passes_on S T c fault.Objects g h = omega (arith, g.objects, h)
passes_on S T c fault.Cells g h = omega (arith, g.cells, h)
passes_on S T c fault.Tags g h = omega (arith, g.instances, h)
passes_on S T c fault.Output g h =
    let e : length T.output ≡ length S.output + length g.more = ap length g.output ∙ length-append S.output g.more in
    omega (arith, e, h)
passes_on S T c fault.Null g h = h
passes_on S T c fault.Bounds g h = h
passes_on S T c fault.Zero g h = h
passes_on S T c fault.Assert g h = h
passes_on S T c fault.Size g h = h
passes_on S T c fault.Turns g h = h
passes_on S T c fault.Depth g h = h
passes_on S T c fault.Text g h = h
passes_on S T c fault.TagSlots g h = h

-- an exit with these changes is a fault, unless there is room
exits : (P : TypedProgram) (S : Plain) (v : Invocation) (c : Changes) → (body_outcome P S v).ran ≡ ran.Commit c → outcome P S v ≡ refused_room (fault_of_room S c) (place_of (slice_get P.tasks v.task)) (body_outcome P S v)
exits P S v c e = ap (λ (r : Ran). with_room S (place_of (slice_get P.tasks v.task)) r (body_outcome P S v)) e

abbrev at_task : TypedProgram → Invocation → FaultKind → Fault
at_task P v k = record { kind = k; at = place_of (slice_get P.tasks v.task) }

refused : (P : TypedProgram) (S : Plain) (v : Invocation) (c : Changes) (k : FaultKind) → (body_outcome P S v).ran ≡ ran.Commit c → fault_of_room S c ≡ Some k → (outcome P S v).ran ≡ ran.Faulted (at_task P v k)
refused P S v c k e f =
    ap (λ (o : Outcome). o.ran)
    (exits P S v c e ∙ ap (λ (o : Option FaultKind). refused_room o (place_of (slice_get P.tasks v.task)) (body_outcome P S v)) f)

-- a fault of the body is that of the invocation
faulted : (P : TypedProgram) (S : Plain) (v : Invocation) (f : Fault) → (body_outcome P S v).ran ≡ ran.Faulted f → (outcome P S v).ran ≡ ran.Faulted f
faulted P S v f e =
    ap (λ (r : Ran). (with_room S (place_of (slice_get P.tasks v.task)) r (body_outcome P S v)).ran) e ∙ e

lacks_at : (P : TypedProgram) (S : Plain) (v : Invocation) (c : Changes) (o : Option FaultKind) → fault_of_room S c ≡ o → IsSome o → (body_outcome P S v).ran ≡ ran.Commit c → LacksRoom P S v c
lacks_at P S v c None f s e = absurd (false≢true s)
lacks_at P S v c (Some k) f s e = record { kind = k; passes = room_passes S c k f; ran = refused P S v c k e f }

lacks : (P : TypedProgram) (S : Plain) (v : Invocation) (c : Changes) (k : FaultKind) → (body_outcome P S v).ran ≡ ran.Commit c → Passes S c k → LacksRoom P S v c
lacks P S v c k e h = lacks_at P S v c (fault_of_room S c) refl (lacks_room S c k h) e

-- where two stores agree on the touched objects, the exit is the same
same_body_ran : (P : TypedProgram) (S T : Plain) (v : Invocation) (r : Ran) → AgreeOn S T (body_outcome P S v).touched → (body_outcome P S v).ran ≡ r → (body_outcome P T v).ran ≡ r
same_body_ran P S T v r a e = ap (λ (o : Outcome). o.ran) (sym (runs_are_local.outcome P S T v a)) ∙ e

room_left : (S : Plain) (c : Changes) → AddsUp S c (apply_changes S c) → fault_of_room S c ≡ None → HasRoom (apply_changes S c)
room_left S c s e =
    let n = none_is (nat_lt 65536 (length S.bodies + length c.made)) (nat_lt 4194304 (cells_in S.bodies + cells_in c.made)) (nat_lt 65536 (length S.tags + length c.tags)) (nat_lt 16777216 (length S.output + length c.text)) e in
    record {
      objects = subst (λ (m : ℕ). m ≤ 65536) (sym s.objects) (within 65536 (length S.bodies + length c.made) n.0);
      cells = subst (λ (m : ℕ). m ≤ 4194304) (sym s.cells) (within 4194304 (cells_in S.bodies + cells_in c.made) n.1);
      instances = subst (λ (m : ℕ). m ≤ 65536) (sym s.instances) (within 65536 (length S.tags + length c.tags) n.2);
      output = subst (λ (m : ℕ). m ≤ 16777216) (sym s.output) (within 16777216 (length S.output + length c.text) n.3);
    }
  where
    none_is : (a b c d : Bool) → first a b c d ≡ None → (a ≡ false) × (b ≡ false) × (c ≡ false) × (d ≡ false)
    none_is true b c d e = absurd (cc)
    none_is false true c d e = absurd (cc)
    none_is false false true d e = absurd (cc)
    none_is false false false true e = absurd (cc)
    none_is false false false false e = (refl, refl, refl, refl)

commit_room : (P : TypedProgram) (S : Plain) (v : Invocation) (c : Changes) (o : Option FaultKind) → fault_of_room S c ≡ o → (outcome P S v).ran ≡ ran.Commit c → o ≡ None
commit_room P S v c None f e = refl
commit_room P S v c (Some k) f e = let r = refused P S v c k (outcome_commits P S v c e) f in absurd (cc (r, e))

pub room_is_of_sums : RoomIsOfSums
room_is_of_sums = record {
  passes = room_passes;
  lacks = lacks_room;
  kinds = room_kind;
  left = λ P S v c e. room_left S c (keeps_kinds.commit P S v c e).sums (commit_room P S v c (fault_of_room S c) refl e);
}

-- how an invocation that faults does so in a store that outgrows, where what it touched is as it was
abbrev StillFaults : TypedProgram → Plain → Invocation → Fault → Type 0
StillFaults P T v f = (g : Fault) × IsFaultLike f g × ((outcome P T v).ran ≡ ran.Faulted g)

without_room :
    (P : TypedProgram) (S T : Plain) (v : Invocation) (f : Fault) (c : Changes) (o : Option FaultKind)
    → Outgrows S T
    → AgreeOn S T (body_outcome P S v).touched
    → (body_outcome P S v).ran ≡ ran.Commit c
    → fault_of_room S c ≡ o
    → (outcome P S v).ran ≡ ran.Faulted f
    → StillFaults P T v f
without_room P S T v f c None g a e n h =
    let r = ap (λ (o : Outcome). o.ran) (exits P S v c e ∙ ap (λ (o : Option FaultKind). refused_room o (place_of (slice_get P.tasks v.task)) (body_outcome P S v)) n) in
    absurd (cc (r, e, h))
without_room P S T v f c (Some k) g a e n h =
    let p : Passes S c k = room_passes S c k n in
    let l : LacksRoom P T v c = lacks P T v c k (same_body_ran P S T v (ran.Commit c) a e) (passes_on S T c k g p) in
    let r = refused P S v c k e n in
    let same : at_task P v k ≡ f = cc (r, h) in
    (at_task P v l.kind, inr (subst (λ (x : Fault). is_of_room x.kind ≡ true) same (room_kind S c k p), room_kind T c l.kind l.passes, ap (λ (x : Fault). x.at) same), l.ran)

fault_stays : (P : TypedProgram) (S T : Plain) (v : Invocation) (f : Fault) (r : Ran) → Outgrows S T → AgreeOn S T (body_outcome P S v).touched → (body_outcome P S v).ran ≡ r → (outcome P S v).ran ≡ ran.Faulted f → StillFaults P T v f
fault_stays P S T v f (ran.Commit c) g a e h = without_room P S T v f c (fault_of_room S c) g a e refl h
fault_stays P S T v f (ran.Faulted b) g a e h =
    let own = faulted P S v b e in
    let same : b ≡ f = cc (own, h) in
    (f, inl refl, faulted P T v b (same_body_ran P S T v (ran.Faulted b) a e) ∙ ap ran.Faulted same)

is_fault : (r : Ran) → IsFault r → (f : Fault) × (r ≡ ran.Faulted f)
is_fault (ran.Commit c) h = absurd h
is_fault (ran.Faulted f) h = (f, refl)

pub room_stays_used : RoomStaysUsed
room_stays_used = record {
  sums = λ P S T history v c k h a e p.
      let q : Passes T c k = passes_on S T c k (history_grows P S T history h) p in
      let s : (body_outcome P T v).ran ≡ ran.Commit c = same_body_ran P S T v (ran.Commit c) a e in
      (s, q, lacks P T v c k s q);
  faults = λ P S T history v h a i.
      let f : (f : Fault) × ((outcome P S v).ran ≡ ran.Faulted f) = is_fault (outcome P S v).ran i in
      let s : StillFaults P T v f.0 = fault_stays P S T v f.0 (body_outcome P S v).ran (history_grows P S T history h) a refl f.1 in
      subst IsFault (sym s.2) tt;
}

same_touched : (P : TypedProgram) (S T : Plain) (v : Invocation) → AgreeOn S T (body_outcome P S v).touched → (outcome P T v).touched ≡ (outcome P S v).touched
same_touched P S T v a =
    outcome_touched P T v ∙ ap (λ (o : Outcome). o.touched) (sym (runs_are_local.outcome P S T v a)) ∙ sym (outcome_touched P S v)

pub failures_stay : FailuresStay
failures_stay P S T history f h fails enabled agree =
    let a : AgreeOn S T (body_outcome P S f.v).touched = subst (AgreeOn S T) (sym fails.touched ∙ outcome_touched P S f.v) agree in
    let s : StillFaults P T f.v f.fault = fault_stays P S T f.v f.fault (body_outcome P S f.v).ran (history_grows P S T history h) a refl fails.ran in
    (s.0, s.1, record { enabled = enabled; ran = s.2; touched = same_touched P S T f.v a ∙ fails.touched })
