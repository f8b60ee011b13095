-- The work of one invocation, and the small steps on it.
use Rattle.std.specs.Prelude.{ℕ, zero, suc, ◌+◌, ◌-◌, ◌^◌, Bool, true, false, not, if◌then◌else◌, ◌&&◌, ◌==◌, nat_le, nat_lt, List, [], ◌∷◌, ◌++◌, filter, length, slice_get, slice_set, Option, Some, None, bit_and, bit_or}
use Rattle.std.specs.List.{list_any}
use Rattle.bc_data.specs.Limits.{most_cells, most_instances, most_objects, most_text}
use Rattle.bc_data.specs.declared.run.Body.{Body}
use Rattle.bc_data.specs.declared.run.Written.{Written}
use Rattle.bc_data.specs.declared.run.Fault.{Fault}
use Rattle.bc_data.specs.declared.run.FaultKind.{FaultKind}
use Rattle.bc_data.specs.declared.run.FaultKind.TheVariants as fault
use Rattle.bc_data.specs.declared.run.Place.{Place}
use Rattle.bc_data.specs.declared.run.TagRef.{TagRef}
use Rattle.bc_data.specs.declared.run.Value.{Value}
use Rattle.bc_data.specs.declared.run.Value.TheVariants as value
use Rattle.bc_mean.specs.declared.plain.Plain.{Plain}
use Rattle.bc_mean.specs.Store.{cells_in}
use Rattle.bc_mean.specs.Values.{same_tag}

-- the bodies that are known, by number: those of a whole store, or those given so far
abbrev pub Look : Type 0
Look = ℕ → Option Body

abbrev pub look_of : Plain → Look
look_of S = slice_get S.bodies

-- What an invocation has done so far, over bodies that stay as they were: its newest copies of objects, its new
-- objects, the types of its new tag instances, its text, how many turns it has left, and the objects of the store that it
-- touched, each once.
pub record Work : Type 0 where
  pub changed : List Written
  pub made : List Body
  pub instances : List ℕ
  pub text : List ℕ
  pub turns : ℕ
  pub touched : List ℕ

-- Why a run stops before its end: a fault; or, which never comes in a run of an accepted program over a store that
-- fits, an object whose body is not known, or a form that has no meaning where it stands.
pub data Halt : Type 0 where
  Faulted : (f : Fault) → Halt
  Missing : (id : ℕ) → Halt
  Wrong : Halt

-- what something comes to: a value and the work after it, or a halt and the work up to it
pub data Got (A : Type 0) : Type 0 where
  Gives : (x : A) (w : Work) → Got A
  Stops : (h : Halt) (w : Work) → Got A

abbrev pub and_then : {A B : Type 0} → Got A → (A → Work → Got B) → Got B
and_then (Gives x w) go = go x w
and_then (Stops h w) go = Stops h w

abbrev pub faults : {A : Type 0} → FaultKind → Place → Work → Got A
faults k at w = Stops (Faulted (record { kind = k; at = at })) w

-- what is there wherever an accepted program asks for it
abbrev pub known : {A : Type 0} → Option A → Work → Got A
known None w = Stops Wrong w
known (Some x) w = Gives x w

-- by a truth value, the one or the other
abbrev pub choose : {A : Type 0} → Value → (Work → Got A) → (Work → Got A) → Work → Got A
choose (value.Bool b) one other w = if b then one w else other w
choose (value.Int n) one other w = Stops Wrong w
choose value.Null one other w = Stops Wrong w
choose (value.Old id) one other w = Stops Wrong w
choose (value.New n) one other w = Stops Wrong w

-- the newest copy of an object, or the body that it had
abbrev pub newest : List Written → ℕ → Body → Body
newest [] id b = b
newest (c ∷ cs) id b = if c.id == id then c.body else newest cs id b

-- an object's copy takes the place of the one before, or stands at the end
abbrev pub put : ℕ → Body → List Written → List Written
put id b [] = record { id = id; body = b } ∷ []
put id b (c ∷ cs) = if c.id == id then record { id = id; body = b } ∷ cs else c ∷ put id b cs

-- an object: one of the store, or one that the invocation made
pub data ObjectRef : Type 0 where
  OldObject : (id : ℕ) → ObjectRef
  NewObject : (n : ℕ) → ObjectRef

-- an object, and its body as the invocation sees it
pub record Reached : Type 0 where
  pub object : ObjectRef
  pub body : Body

-- an object of the store that is touched joins the list at its end, unless it is there
abbrev pub touch : ℕ → Work → Work
touch id w = if list_any (λ other. other == id) w.touched then w else record w { touched = w.touched ++ id ∷ [] }

abbrev pub seen : ℕ → Option Body → Work → Got Reached
seen id None w = Stops (Missing id) w
seen id (Some b) w = Gives (record { object = OldObject id; body = newest w.changed id b }) w

abbrev pub made_one : ℕ → Option Body → Work → Got Reached
made_one n None w = Stops Wrong w
made_one n (Some b) w = Gives (record { object = NewObject n; body = b }) w

-- The object of a reference: the test for `null`, then the touch. Only objects of the store are touched.
abbrev pub reach : Look → Place → Value → Work → Got Reached
reach L at value.Null w = faults fault.Null at w
reach L at (value.Old id) w = seen id (L id) (touch id w)
reach L at (value.New n) w = made_one n (slice_get w.made n) w
reach L at (value.Int n) w = Stops Wrong w
reach L at (value.Bool b) w = Stops Wrong w

-- a parameter's object, which is touched from the start
abbrev pub parameter : Look → Option ℕ → Work → Got Reached
parameter L None w = Stops Wrong w
parameter L (Some id) w = seen id (L id) w

abbrev pub with_body : ObjectRef → Body → Work → Work
with_body (OldObject id) b w = record w { changed = put id b w.changed }
with_body (NewObject n) b w = record w { made = slice_set w.made n b }

-- an object gets this body
abbrev pub write : ObjectRef → Body → Work → Got (Unit {0})
write o b w = Gives tt (with_body o b w)

-- the text of an invocation has at most 65,536 bytes
abbrev pub say : Place → List ℕ → Work → Got (Unit {0})
say at bytes w =
    if nat_le (length w.text + length bytes) most_text then Gives tt (record w { text = w.text ++ bytes }) else faults fault.Text at w

abbrev pub take_turn : Place → ℕ → Work → Got (Unit {0})
take_turn at zero w = faults fault.Turns at w
take_turn at (suc n) w = Gives tt (record w { turns = n })

-- one turn more, if one is left
abbrev pub turn : Place → Work → Got (Unit {0})
turn at w = take_turn at w.turns w

-- a call within so many others: one turn, and then at most 100 calls are nested
abbrev pub enter : Place → ℕ → Work → Got (Unit {0})
enter at depth w = and_then (turn at w) (λ _ v. if nat_lt depth 100 then Gives tt v else faults fault.Depth at v)

-- a mask with the bit of a flag set or cleared
abbrev pub with_flag : ℕ → ℕ → Bool → ℕ
with_flag mask f true = bit_or mask (2 ^ f)
with_flag mask f false = mask - bit_and mask (2 ^ f)

abbrev pub set_flag : Reached → ℕ → Bool → Work → Got (Unit {0})
set_flag o f b w = write o.object (record o.body { flags = with_flag o.body.flags f b }) w

-- An instance is bound behind those that the object has, unless it has it. An object has at most 16.
abbrev pub bind : Place → Reached → TagRef → Work → Got (Unit {0})
bind at o t w =
    if list_any (same_tag t) o.body.tags then Gives tt w
    else if nat_lt (length o.body.tags) 16 then write o.object (record o.body { tags = o.body.tags ++ t ∷ [] }) w
    else faults fault.TagSlots at w

-- the instances behind one that is cleared close up
abbrev pub unbind : Reached → TagRef → Work → Got (Unit {0})
unbind o t w = write o.object (record o.body { tags = filter (λ s. not (same_tag t s)) o.body.tags }) w

-- a new object, within the sizes that an invocation has: 65,536 new objects, and 4,194,304 cells in them
abbrev pub make : Place → Body → Work → Got ℕ
make at b w =
    if nat_lt (length w.made) most_objects && nat_le (cells_in w.made + length b.cells) most_cells
    then Gives (length w.made) (record w { made = w.made ++ b ∷ [] })
    else faults fault.Size at w

-- a new tag instance of this type, of at most 65,536
abbrev pub make_instance : Place → ℕ → Work → Got ℕ
make_instance at tag_type w =
    if nat_lt (length w.instances) most_instances then Gives (length w.instances) (record w { instances = w.instances ++ tag_type ∷ [] })
    else faults fault.Size at w
