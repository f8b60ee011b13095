-- Changes whose new objects and instances got their numbers.
use Rattle.std.proofs.Common.{◌≡◌, ℕ, ◌+◌, ◌<◌, ◌≤◌, cond, List, [], ◌∷◌, ◌++◌, length, map, refl, sym, ap, ap₂, subst, ◌∙◌, Option, Some, None, arith}
use Rattle.std.specs.Prelude.{All, AllPairs, nat_lt, slice_set, slice_get}
use Rattle.std.specs.List.{AllByRecursion}
use Rattle.std.proofs.lemmas.List.{length-map}
use Rattle.std.proofs.lemmas.List.Elements.{All-from_recursion, recursion_from_All}
use Rattle.std.proofs.lemmas.List.Sums.{sum_by-cons}
use Rattle.std.proofs.lemmas.Option.{IfSome_then}
use Rattle.bc_data.specs.declared.run.Value.{Value}
use Rattle.bc_data.specs.declared.run.Value.TheVariants as value
use Rattle.bc_data.specs.declared.run.TagRef.{TagRef}
use Rattle.bc_data.specs.declared.run.TagRef.TheVariants as tag
use Rattle.bc_data.specs.declared.run.Body.{Body}
use Rattle.bc_data.specs.declared.run.Written.{Written}
use Rattle.bc_data.specs.declared.run.Changes.{Changes}
use Rattle.bc_data.specs.declared.run.FaultKind.{FaultKind}
use Rattle.bc_data.specs.declared.run.FaultKind.TheVariants as fault
use Rattle.bc_mean.specs.declared.plain.Plain.{Plain}
use Rattle.bc_mean.specs.Changes.{value_in, tag_in, body_in, put_bodies, apply_changes, fault_of_room}
use Rattle.bc_mean.specs.Commit.{IsMadeValue, IsMadeTag, IsMadeBody, HasRoom, written_in, placed}
use Rattle.bc_mean.specs.Store.{cells_in}
use Rattle.bc_mean.proofs.Lists.{each_map}
use Rattle.bc_mean.proofs.Placed.{written_there}
use Rattle.bc_store.specs.Resolved.{resolved, HasNumber, HasTagNumber, HasNumbers, IsOldValue, IsOldTag, IsOldBody, IsResolved, put_in}
use Rattle.bc_store.specs.Store.{KeepsSize, CanPublish}

-- what the changes make has numbers in the store
value_number : (S : Plain) (made : ℕ) (v : Value) → length S.bodies + made ≤ 65536 → IsMadeValue made v → HasNumber S v
value_number S made (value.New n) room h = omega arith
value_number S made (value.Int n) room h = tt
value_number S made (value.Bool b) room h = tt
value_number S made value.Null room h = tt
value_number S made (value.Old n) room h = tt

tag_number : (S : Plain) (made : ℕ) (t : TagRef) → length S.tags + made ≤ 65536 → IsMadeTag made t → HasTagNumber S t
tag_number S made (tag.New n) room h = omega arith
tag_number S made (tag.Old n) room h = tt

pub body_numbers : (S : Plain) (c : Changes) (b : Body) → HasRoom S c → IsMadeBody c b → HasNumbers S b
body_numbers S c b room made = record {
  cells = λ k d within. value_number S (length c.made) _ room.objects (made.cells k d within);
  tags = λ k d within. tag_number S (length c.tags) _ room.instances (made.tags k d within);
}

-- what a map makes has P
all_map : {X Y : Type 0} (P : Y → Type 0) (f : X → Y) (xs : List X) → ((x : X) → P (f x)) → All P (map f xs)
all_map P f xs h = All-from_recursion P (map f xs) (each_map P f h xs)

-- a number that is given stays
value_twice : (S : Plain) (v : Value) → value_in S (value_in S v) ≡ value_in S v
value_twice S (value.New n) = refl
value_twice S (value.Int n) = refl
value_twice S (value.Bool b) = refl
value_twice S value.Null = refl
value_twice S (value.Old n) = refl

tag_twice : (S : Plain) (t : TagRef) → tag_in S (tag_in S t) ≡ tag_in S t
tag_twice S (tag.New n) = refl
tag_twice S (tag.Old n) = refl

map_twice : {X : Type 0} (f : X → X) → ((x : X) → f (f x) ≡ f x) → (xs : List X) → map f (map f xs) ≡ map f xs
map_twice f h [] = refl
map_twice f h (x ∷ xs) = ap₂ (λ y ys. y ∷ ys) (h x) (map_twice f h xs)

abbrev with_parts : Body → List Value → List TagRef → Body
with_parts b cells tags = record b { cells = cells; tags = tags }

body_twice : (S : Plain) (b : Body) → body_in S (body_in S b) ≡ body_in S b
body_twice S b = ap₂ (with_parts b) (map_twice (value_in S) (value_twice S) b.cells) (map_twice (tag_in S) (tag_twice S) b.tags)

put_twice : (S : Plain) (ws : List Written) (bodies : List Body) → put_bodies S (map (written_in S) ws) bodies ≡ put_bodies S ws bodies
put_twice S [] bodies = refl
put_twice S (w ∷ ws) bodies =
    put_twice S ws (slice_set bodies w.id (body_in S (body_in S w.body)))
    ∙ ap (λ (b : Body). put_bodies S ws (slice_set bodies w.id b)) (body_twice S w.body)

abbrev with_bodies : Plain → Changes → List Body → Plain
with_bodies S c bodies = record { bodies = bodies; tags = S.tags ++ c.tags; output = S.output ++ c.text }

pub resolved_same : (S : Plain) (c : Changes) → apply_changes S (resolved S c) ≡ apply_changes S c
resolved_same S c =
    ap (with_bodies S c) (ap₂ (λ a b. a ++ b) (put_twice S c.bodies S.bodies) (map_twice (body_in S) (body_twice S) c.made))

-- bodies with their numbers, in their places
placed_written : (S : Plain) (ws : List Written) (bodies : List Body) → placed (map (written_in S) ws) bodies ≡ put_bodies S ws bodies
placed_written S [] bodies = refl
placed_written S (w ∷ ws) bodies = placed_written S ws (slice_set bodies w.id (body_in S w.body))

pub put_resolved : (S : Plain) (c : Changes) → put_in S (resolved S c) ≡ apply_changes S c
put_resolved S c = ap (λ (bodies : List Body). with_bodies S c (bodies ++ map (body_in S) c.made)) (placed_written S c.bodies S.bodies)

-- sums, numbers of objects and sizes are as they were
cells_numbered : (S : Plain) (bodies : List Body) → cells_in (map (body_in S) bodies) ≡ cells_in bodies
cells_numbered S [] = refl
cells_numbered S (b ∷ bodies) =
    sum_by-cons (λ (a : Body). length a.cells) (body_in S b) (map (body_in S) bodies)
    ∙ ap₂ (λ m n. m + n) (length-map b.cells (value_in S)) (cells_numbered S bodies)
    ∙ sym (sum_by-cons (λ (a : Body). length a.cells) b bodies)

ids_numbered : (S : Plain) (ws : List Written) → map (λ (w : Written). w.id) (map (written_in S) ws) ≡ map (λ (w : Written). w.id) ws
ids_numbered S [] = refl
ids_numbered S (w ∷ ws) = ap (λ ids. w.id ∷ ids) (ids_numbered S ws)

sizes_numbered : (S : Plain) (ws : List Written) → AllByRecursion (KeepsSize S) ws → AllByRecursion (KeepsSize S) (map (written_in S) ws)
sizes_numbered S [] h = tt
sizes_numbered S (w ∷ ws) h = (
  IfSome_then (slice_get S.bodies w.id) h.0 (λ b e. length-map w.body.cells (value_in S) ∙ e),
  sizes_numbered S ws h.1,
)

-- the first of four sums that passes its limit
abbrev first_fault : Plain → Changes → ℕ → ℕ → Option FaultKind
first_fault S c objects cells =
    cond (nat_lt 65536 (length S.bodies + objects)) (Some fault.Objects) (cond (nat_lt 4194304 (cells_in S.bodies + cells)) (Some fault.Cells) (cond (nat_lt 65536 (length S.tags + length c.tags)) (Some fault.Tags) (cond (nat_lt 16777216 (length S.output + length c.text)) (Some fault.Output) None)))

room_numbered : (S : Plain) (c : Changes) → fault_of_room S (resolved S c) ≡ fault_of_room S c
room_numbered S c = ap₂ (first_fault S c) (length-map c.made (body_in S)) (cells_numbered S c.made)

value_made : (S : Plain) (made : ℕ) (v : Value) → IsMadeValue made (value_in S v)
value_made S made (value.New n) = tt
value_made S made (value.Int n) = tt
value_made S made (value.Bool b) = tt
value_made S made value.Null = tt
value_made S made (value.Old n) = tt

tag_made : (S : Plain) (made : ℕ) (t : TagRef) → IsMadeTag made (tag_in S t)
tag_made S made (tag.New n) = tt
tag_made S made (tag.Old n) = tt

body_made : (S : Plain) (c : Changes) (b : Body) → IsMadeBody c (body_in S b)
body_made S c b = record {
  cells = all_map (IsMadeValue (length c.made)) (value_in S) b.cells (value_made S (length c.made));
  tags = all_map (IsMadeTag (length c.tags)) (tag_in S) b.tags (tag_made S (length c.tags));
}

pub resolved_still : (S : Plain) (c : Changes) → CanPublish S c → CanPublish S (resolved S c)
resolved_still S c h = record {
  room = room_numbered S c ∙ h.room;
  there = record {
    objects = subst (λ (n : ℕ). length S.bodies + n ≤ 65536) (sym (length-map c.made (body_in S))) h.there.objects;
    instances = h.there.instances;
    present = written_there S (length S.bodies) c.bodies h.there.present;
    changed = all_map (λ (w : Written). IsMadeBody (resolved S c) w.body) (written_in S) c.bodies (λ w. body_made S (resolved S c) w.body);
    made = all_map (IsMadeBody (resolved S c)) (body_in S) c.made (body_made S (resolved S c));
  };
  ascending = subst (AllPairs (λ (i j : ℕ). i < j)) (sym (ids_numbered S c.bodies)) h.ascending;
  sizes = All-from_recursion (KeepsSize S) (map (written_in S) c.bodies) (sizes_numbered S c.bodies (recursion_from_All (KeepsSize S) c.bodies h.sizes));
}

value_old : (S : Plain) (v : Value) → IsOldValue (value_in S v)
value_old S (value.New n) = tt
value_old S (value.Int n) = tt
value_old S (value.Bool b) = tt
value_old S value.Null = tt
value_old S (value.Old n) = tt

tag_old : (S : Plain) (t : TagRef) → IsOldTag (tag_in S t)
tag_old S (tag.New n) = tt
tag_old S (tag.Old n) = tt

body_old : (S : Plain) (b : Body) → IsOldBody (body_in S b)
body_old S b = record {
  cells = all_map IsOldValue (value_in S) b.cells (value_old S);
  tags = all_map IsOldTag (tag_in S) b.tags (tag_old S);
}

pub resolved_old : (S : Plain) (c : Changes) → IsResolved (resolved S c)
resolved_old S c = record {
  bodies = all_map (λ (w : Written). IsOldBody w.body) (written_in S) c.bodies (λ w. body_old S w.body);
  made = all_map IsOldBody (body_in S) c.made (body_old S);
}
