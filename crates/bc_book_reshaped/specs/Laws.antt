-- Laws of reshaped objects.
use Rattle.std.specs.Prelude.{◌≡◌, ℕ, List, map, option_map, Option}
use Rattle.bc_data.specs.Typed.{TypedProgram}
use Rattle.bc_data.specs.declared.run.Body.{Body}
use Rattle.bc_data.specs.declared.run.Changes.{Changes}
use Rattle.bc_mean.specs.declared.plain.Plain.{Plain}
use Rattle.bc_mean.specs.Changes.{apply_changes}
use Rattle.bc_store.specs.Resolved.{IsResolved}
use Rattle.bc_store.specs.Store.{CanPublish}
use Rattle.bc_params_sets.specs.Kept.{Kept, AreSets}
use Rattle.bc_book_events.specs.Reshaped.{bare, ReshapesOnly}
use Rattle.bc_book_reshaped.specs.Reshaped.{id_of, reshaped_in}

-- no other objects change their kind, flags or tags
abbrev pub ReshapedAreAll : Type 0
ReshapedAreAll = (S : Plain) (c : Changes) → CanPublish S c → IsResolved c → ReshapesOnly (map id_of (reshaped_in S c)) S (apply_changes S c)

-- the sets are of any look-up that finds bodies of the same kinds, flags and tags
abbrev pub SameShape : Type 0
SameShape = (P : TypedProgram) (look other : ℕ → Option Body) (types : List ℕ) (k : Kept) → ((x : ℕ) → option_map bare (other x) ≡ option_map bare (look x)) → AreSets P look types k → AreSets P other types k
