-- What an invocation was given and what it has done, as contracts see it.
use Rattle.std.specs.Prelude.{◌≡◌, ◌<◌, ◌≤◌, ℕ, Bool, true, false, not, ◌&&◌, nat_lt, nat_le, ◌+◌, List, [], ◌∷◌, ◌++◌, filter, length, map, slice_get, slice_set, Option, Some, None, option_map, All}
use Rattle.bc_data.specs.declared.run.Body.{Body}
use Rattle.bc_data.specs.declared.run.Invocation.{Invocation}
use Rattle.bc_data.specs.declared.run.Written.{Written}
use Rattle.bc_mean.specs.declared.plain.Plain.{Plain}
use Rattle.bc_mean.specs.Store.{cells_in}
use Rattle.bc_mean.specs.Values.{same_tag}
use Rattle.bc_mean.specs.Work.{Work, newest, put, with_flag}
use Rattle.bc_code.specs.Given.{given_look}
use Rattle.bc_code.specs.Instructions.{Reads}
use Rattle.bc_step.specs.declared.area.End.{End}
use Rattle.bc_step.specs.declared.area.ObjectRef.{ObjectRef}
use Rattle.bc_step.specs.declared.area.ObjectRef.TheVariants as object
use Rattle.bc_step.specs.declared.body.Edit.{Edit}
use Rattle.bc_step.specs.declared.body.Edit.TheVariants as edit

-- an object that was given: its body, and its private copy from the first write on
pub record Held : Type 0 where
  pub id : ℕ
  pub body : Body
  pub copy : Option Body

-- An invocation, the objects that it was given, in order, the objects and the types of the instances that it made,
-- its text, and how it ended. There is room for so many more objects.
pub record AreaParts : Type 0 where
  pub invocation : Invocation
  pub held : List Held
  pub made : List Body
  pub instances : List ℕ
  pub text : List ℕ
  pub end : Option End
  pub spare : ℕ

abbrev pub given_of : List Held → List Written
given_of hs = map (λ (h : Held). record { id = h.id; body = h.body }) hs

abbrev pub copied : ℕ → Option Body → List Written → List Written
copied id None cs = cs
copied id (Some b) cs = record { id = id; body = b } ∷ cs

-- the private copies
abbrev pub copies_of : List Held → List Written
copies_of [] = []
copies_of (h ∷ hs) = copied h.id h.copy (copies_of hs)

-- These copies are the private ones, in some order.
abbrev pub AreCopies : List Written → List Held → Type 0
AreCopies cs hs = (id : ℕ) (b : Body) → newest cs id b ≡ newest (copies_of hs) id b

-- the body of an object as the invocation sees it
abbrev pub body_in : AreaParts → ObjectRef → Option Body
body_in a (object.Old id) = option_map (λ b. newest (copies_of a.held) id b) (given_look (given_of a.held) id)
body_in a (object.New n) = slice_get a.made n

-- what an edit makes of a body
abbrev pub edited : Edit → Body → Body
edited (edit.Cell n x) b = record b { cells = slice_set b.cells n x }
edited (edit.Flag f on) b = record b { flags = with_flag b.flags f on }
edited (edit.Bind t) b = record b { tags = b.tags ++ t ∷ [] }
edited (edit.Unbind t) b = record b { tags = filter (λ s. not (same_tag t s)) b.tags }

-- a mask has 32 flags
abbrev pub FitsMask : Edit → Type 0
FitsMask (edit.Cell n x) = Unit {0}
FitsMask (edit.Flag f on) = f < 32
FitsMask (edit.Bind t) = Unit {0}
FitsMask (edit.Unbind t) = Unit {0}

abbrev pub copies_with : ObjectRef → Body → List Written → List Written
copies_with (object.Old id) b cs = put id b cs
copies_with (object.New n) b cs = cs

abbrev pub made_with : ObjectRef → Body → List Body → List Body
made_with (object.Old id) b made = made
made_with (object.New n) b made = slice_set made n b

-- the object has this body now, and all else is as it was
pub record HasNow (old new : AreaParts) (o : ObjectRef) (b : Body) : Type 0 where
  pub copies : (cs : List Written) → AreCopies cs old.held → AreCopies (copies_with o b cs) new.held
  pub made : new.made ≡ made_with o b old.made
  pub invocation : new.invocation ≡ old.invocation
  pub given : given_of new.held ≡ given_of old.held
  pub instances : new.instances ≡ old.instances
  pub text : new.text ≡ old.text
  pub end : new.end ≡ old.end
  pub spare : new.spare ≡ old.spare

-- nothing changed that the invocation sees, and there is as much room
pub record IsSame (old new : AreaParts) : Type 0 where
  pub copies : (cs : List Written) → AreCopies cs old.held → AreCopies cs new.held
  pub made : new.made ≡ old.made
  pub invocation : new.invocation ≡ old.invocation
  pub given : given_of new.held ≡ given_of old.held
  pub instances : new.instances ≡ old.instances
  pub text : new.text ≡ old.text
  pub end : new.end ≡ old.end
  pub spare : old.spare ≤ new.spare

-- an object with this body may be made
abbrev pub has_room_for : AreaParts → Body → Bool
has_room_for a b = nat_lt (length a.made) 65536 && nat_le (cells_in a.made + length b.cells) 4194304

-- The object was made and has this number, or there was no room for it.
abbrev pub MakesObject : Option ℕ → Body → AreaParts → AreaParts → Type 0
MakesObject None b old new = (has_room_for old b ≡ false) × (new ≡ old)
MakesObject (Some n) b old new =
    (has_room_for old b ≡ true) × (n ≡ length old.made) × (new ≡ record old { made = old.made ++ b ∷ [] })

-- The same of an instance of this type.
abbrev pub MakesInstance : Option ℕ → ℕ → AreaParts → AreaParts → Type 0
MakesInstance None tag_type old new = (nat_lt (length old.instances) 65536 ≡ false) × (new ≡ old)
MakesInstance (Some n) tag_type old new =
    (nat_lt (length old.instances) 65536 ≡ true)
    × (n ≡ length old.instances)
    × (new ≡ record old { instances = old.instances ++ tag_type ∷ [] })

-- The text was appended, or it was too long.
abbrev pub SaysText : Bool → List ℕ → AreaParts → AreaParts → Type 0
SaysText true bytes old new =
    (nat_le (length old.text + length bytes) 65536 ≡ true) × (new ≡ record old { text = old.text ++ bytes })
SaysText false bytes old new = (nat_le (length old.text + length bytes) 65536 ≡ false) × (new ≡ old)

abbrev pub with_id : List ℕ → List Body → List Held
with_id (id ∷ ids) (b ∷ bodies) = record { id = id; body = b; copy = None } ∷ with_id ids bodies
with_id _ _ = []

-- before the first instruction: the objects of the parameters are given, and nothing is done
pub record IsFresh (v : Invocation) (bodies : List Body) (a : AreaParts) : Type 0 where
  pub invocation : a.invocation ≡ v
  pub held : a.held ≡ with_id v.objects bodies
  pub made : a.made ≡ []
  pub instances : a.instances ≡ []
  pub text : a.text ≡ []
  pub end : a.end ≡ None

-- how many objects were given and can be given in the memory that there is
abbrev pub room_of : AreaParts → ℕ
room_of a = length a.held + a.spare

-- nothing is given or done, and there is so much room
abbrev pub emptied : AreaParts → ℕ → AreaParts
emptied a spare = record {
  invocation = a.invocation;
  held = [];
  made = [];
  instances = [];
  text = [];
  end = None;
  spare = spare;
}

-- what was done, with so many turns left, these copies and these touched objects
abbrev pub work_with : AreaParts → ℕ → List Written → List ℕ → Work
work_with a turns cs ts =
    record { changed = cs; made = a.made; instances = a.instances; text = a.text; turns = turns; touched = ts }

-- what the machine reads of it
abbrev pub reads_of : AreaParts → Reads
reads_of a = record { look = given_look (given_of a.held); objects = a.invocation.objects }

-- The store has the bodies that were given.
abbrev pub AgreesWith : Plain → List Written → Type 0
AgreesWith S gs = All (λ (g : Written). slice_get S.bodies g.id ≡ Some g.body) gs
