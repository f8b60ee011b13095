-- What a part of an instruction comes to, against the meaning's step.
use Rattle.std.specs.Prelude.{◌≡◌, ℕ, ◌+◌, Bool, true, false, List, [], ◌∷◌, length, pos, slice_get, slice_set}
use Rattle.bc_data.specs.declared.run.Body.{Body}
use Rattle.bc_data.specs.declared.run.FaultKind.TheVariants as fault
use Rattle.bc_data.specs.declared.run.Place.{Place}
use Rattle.bc_data.specs.declared.run.TagRef.{TagRef}
use Rattle.bc_data.specs.declared.run.Written.{Written}
use Rattle.bc_data.specs.declared.run.Value.{Value}
use Rattle.bc_data.specs.declared.run.Value.TheVariants as value
use Rattle.bc_mean.specs.Evaluate.{index_in}
use Rattle.bc_mean.specs.Work.{Work, Look, Got, Gives, Stops, Faulted, Missing, Wrong, Halt as Stop, ObjectRef as Reference, OldObject, NewObject, Reached, and_then, bind, known, parameter, reach}
use Rattle.bc_code.specs.Instructions.{Did, Reads, goes}
use Rattle.bc_code.specs.Instructions as rules
use Rattle.bc_step.specs.declared.answer.Halt.{Halt}
use Rattle.bc_step.specs.declared.answer.Halt.TheVariants as halt
use Rattle.bc_step.specs.declared.area.ObjectRef.{ObjectRef}
use Rattle.bc_step.specs.declared.area.ObjectRef.TheVariants as object
use Rattle.bc_step.specs.declared.state.Call.{Call}
use Rattle.bc_step.specs.declared.state.State.{State}
use Rattle.bc_step.specs.Area.{AreaParts, AreCopies, work_with}

-- why the meaning stops
abbrev pub halt_of : Halt → Stop
halt_of (halt.Fault f) = Faulted f
halt_of (halt.Need id) = Missing id
halt_of halt.Wrong = Wrong

abbrev pub reference_of : ObjectRef → Reference
reference_of (object.Old id) = OldObject id
reference_of (object.New n) = NewObject n

-- an object with the body that the invocation sees
abbrev pub reached_at : ObjectRef → Body → Reached
reached_at o b = record { object = reference_of o; body = b }

-- The meaning gives this, and its work is the area's.
pub record GivesIn {A : Type 0} (x : A) (a : AreaParts) (turns : ℕ) (g : Got A) : Type 0 where
  pub copies : List Written
  pub touched : List ℕ
  pub are : AreCopies copies a.held
  pub is : g ≡ Gives x (work_with a turns copies touched)

-- A step of the meaning gives this, and leads from the work of one area to that of another.
abbrev pub Does : {A : Type 0} → A → AreaParts → AreaParts → (Work → Got A) → Type 0
Does x a b step =
    (turns : ℕ) (cs : List Written) (ts : List ℕ)
    → AreCopies cs a.held → GivesIn x b turns (step (work_with a turns cs ts))

-- a step of the meaning stops so
abbrev pub Halts : {A : Type 0} → Halt → AreaParts → (Work → Got A) → Type 0
Halts h a step =
    (turns : ℕ) (cs : List Written) (ts : List ℕ)
    → AreCopies cs a.held → (w : Work) × (step (work_with a turns cs ts) ≡ Stops (halt_of h) w)

-- the object of a parameter
abbrev pub parameter_in : Reads → ℕ → Work → Got Reached
parameter_in R p w = parameter R.look (slice_get R.objects p) w

-- a field of the object of a value, the number of its elements, and the element at an index
abbrev pub field_at : Look → Place → Value → ℕ → Work → Got Value
field_at L at x n w = and_then (reach L at x w) (λ o v. known (slice_get o.body.cells n) v)

abbrev pub length_at : Look → Place → Value → Work → Got Value
length_at L at x w = and_then (reach L at x w) (λ o v. Gives (value.Int (pos (length o.body.cells))) v)

abbrev pub element_at : Look → Place → Value → Value → Work → Got Value
element_at L at x i w =
    and_then (reach L at x w) (λ o v. and_then (index_in at o.body i v) (λ n u. known (slice_get o.body.cells n) u))

-- to bind the instance of a tag variable to the object that is found so, and to go on
abbrev pub binds_next : Place → ℕ → (Work → Got Reached) → rules.State → Did
binds_next at variable find s =
    goes
    (and_then (find s.work)
    (λ o w. and_then (known (slice_get s.current.frame.tags variable) w) (λ t v. bind at o t v)))
    (λ _ u. rules.next s s.stack u)

-- The state goes on behind its instruction. Of its stack nothing is said.
pub record GoesBehind (s t : State) : Type 0 where
  pub current : t.current ≡ record s.current { next = s.current.next + 1 }
  pub callers : t.callers.items ≡ s.callers.items
  pub slots : t.slots.items ≡ s.slots.items
  pub tags : t.tags.items ≡ s.tags.items
  pub turns : t.turns ≡ s.turns

-- The instance is bound, or was before, or the object has too many.
abbrev pub Binds : Bool → Place → ObjectRef → Body → TagRef → AreaParts → AreaParts → Type 0
Binds true p o b t old new = Does (tt {0}) old new (λ w. bind p (reached_at o b) t w)
Binds false p o b t old new =
    Halts (halt.Fault (record { kind = fault.TagSlots; at = p })) old (λ w. bind p (reached_at o b) t w) × (new ≡ old)

-- the task's tag variables, of which one is set where no call is within it
abbrev pub tags_set : List Call → ℕ → TagRef → List TagRef → List TagRef
tags_set [] variable t tags = slice_set tags variable t
tags_set (c ∷ cs) variable t tags = tags
