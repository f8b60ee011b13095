-- Objects that were given, as their numbers beside their bodies and private copies.
use Rattle.std.specs.Prelude.{◌≡◌, ℕ, ◌==◌, Bool, if◌then◌else◌, List, [], ◌∷◌, Option, Some, None, option_and_then, option_map}
use Rattle.std.specs.List.{list_any}
use Rattle.bc_data.specs.declared.run.Body.{Body}
use Rattle.bc_data.specs.declared.run.Written.{Written}
use Rattle.bc_mean.specs.Changes.{same_body}
use Rattle.bc_mean.specs.Work.{newest, put}
use Rattle.bc_code.specs.Given.{given_look, ids_of}
use Rattle.bc_step.specs.Area.{AreCopies, Held, copies_of, given_of}
use Rattle.bc_step.specs.declared.held.Given.{Given}

-- the objects, in order, and for how many more there is room
pub record HeldParts : Type 0 where
  pub held : List Held
  pub spare : ℕ

abbrev pub held_of : List ℕ → List Given → List Held
held_of (id ∷ ids) (g ∷ gs) = record { id = id; body = g.body; copy = g.copy } ∷ held_of ids gs
held_of _ _ = []

-- the one of this number
abbrev pub look_in : List ℕ → List Given → ℕ → Option Given
look_in (k ∷ ks) (g ∷ gs) id = if k == id then Some g else look_in ks gs id
look_in _ _ id = None

-- the one of this number gets this private copy
abbrev pub write_in : List ℕ → List Given → ℕ → Body → List Given
write_in (k ∷ ks) (g ∷ gs) id b = if k == id then record g { copy = Some b } ∷ gs else g ∷ write_in ks gs id b
write_in _ gs id b = gs

-- before its first write
abbrev pub unwritten : Body → Given
unwritten b = record { body = b; copy = None }

-- the private copy, or the body where there is none yet
abbrev pub latest : Option Body → Body → Body
latest None b = b
latest (Some c) b = c

-- whether the object was given
abbrev pub is_given : ℕ → List Held → Bool
is_given id hs = list_any (λ other. other == id) (ids_of (given_of hs))

-- the body of an object of the store, as the invocation sees it
abbrev pub held_body : List Held → ℕ → Option Body
held_body hs id = option_map (λ b. newest (copies_of hs) id b) (given_look (given_of hs) id)

-- the object has this body now, and all else is as it was
pub record HoldsNow (old new : HeldParts) (id : ℕ) (b : Body) : Type 0 where
  pub copies : (cs : List Written) → AreCopies cs old.held → AreCopies (put id b cs) new.held
  pub given : given_of new.held ≡ given_of old.held
  pub spare : new.spare ≡ old.spare

-- the private copy, where it differs from the body
abbrev pub written_copy : ℕ → Body → Option Body → Option Written
written_copy id b None = None
written_copy id b (Some c) = if same_body b c then None else Some (record { id = id; body = c })

abbrev pub written_one : ℕ → Given → Option Written
written_one id g = written_copy id g.body g.copy

abbrev pub written_at : List ℕ → List Given → ℕ → Option Written
written_at ks gs id = option_and_then (written_one id) (look_in ks gs id)
