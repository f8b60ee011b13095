-- The changes of a run, and applying them to a store.
use Rattle.std.specs.Prelude.{ℕ, ◌+◌, Bool, true, false, not, if◌then◌else◌, ◌&&◌, ◌==◌, nat_lt, List, [], ◌∷◌, ◌++◌, length, map, filter, slice_get, slice_set, Option, Some, None}
use Rattle.std.specs.List.{range_with_len, filter_map}
use Rattle.std.specs.Cmp.Lexicographic.{pointwise}
use Rattle.bc_data.specs.Limits.{most_cells, most_instances, most_objects, most_output}
use Rattle.bc_data.specs.declared.run.Value.{Value}
use Rattle.bc_data.specs.declared.run.Value.TheVariants as value
use Rattle.bc_data.specs.declared.run.TagRef.{TagRef}
use Rattle.bc_data.specs.declared.run.TagRef.TheVariants as tag
use Rattle.bc_data.specs.declared.run.Kind.{Kind}
use Rattle.bc_data.specs.declared.run.Kind.TheVariants as kind
use Rattle.bc_data.specs.declared.run.Body.{Body}
use Rattle.bc_data.specs.declared.run.Written.{Written}
use Rattle.bc_data.specs.declared.run.Changes.{Changes}
use Rattle.bc_data.specs.declared.run.FaultKind.{FaultKind}
use Rattle.bc_data.specs.declared.run.FaultKind.TheVariants as fault
use Rattle.bc_mean.specs.declared.plain.Plain.{Plain}
use Rattle.bc_mean.specs.Store.{cells_in}
use Rattle.bc_mean.specs.Values.{same_tag, same_value}
use Rattle.bc_mean.specs.Work.{Work, newest}

abbrev pub same_kind : Kind → Kind → Bool
same_kind (kind.Class c) (kind.Class d) = c == d
same_kind kind.Ints kind.Ints = true
same_kind kind.Bools kind.Bools = true
same_kind (kind.Objects c) (kind.Objects d) = c == d
same_kind _ _ = false

abbrev pub same_body : Body → Body → Bool
same_body a b = same_kind a.kind b.kind && pointwise same_value a.cells b.cells && (a.flags == b.flags) && pointwise same_tag a.tags b.tags

-- an object of the store whose newest copy differs from its body
abbrev pub written_of : Work → ℕ → Option Body → Option Written
written_of w id None = None
written_of w id (Some b) = if same_body b (newest w.changed id b) then None else Some (record { id = id; body = newest w.changed id b })

-- The changes of a run in a store: the bodies that now differ, ascending, the new bodies, the types of the new
-- instances, and the text.
abbrev pub changes_between : Plain → Work → Changes
changes_between S w = record {
  bodies = filter_map (λ id. written_of w id (slice_get S.bodies id)) (range_with_len 0 (length S.bodies));
  made = w.made;
  tags = w.instances;
  text = w.text;
}

-- new objects and instances get the next numbers, in the order in which they were made
abbrev pub value_in : Plain → Value → Value
value_in S (value.New n) = value.Old (length S.bodies + n)
value_in S (value.Int n) = value.Int n
value_in S (value.Bool b) = value.Bool b
value_in S value.Null = value.Null
value_in S (value.Old n) = value.Old n

abbrev pub tag_in : Plain → TagRef → TagRef
tag_in S (tag.New n) = tag.Old (length S.tags + n)
tag_in S (tag.Old n) = tag.Old n

abbrev pub body_in : Plain → Body → Body
body_in S b = record b { cells = map (value_in S) b.cells; tags = map (tag_in S) b.tags }

-- each changed body in its object's place
abbrev pub put_bodies : Plain → List Written → List Body → List Body
put_bodies S [] bodies = bodies
put_bodies S (c ∷ cs) bodies = put_bodies S cs (slice_set bodies c.id (body_in S c.body))

abbrev pub apply_changes : Plain → Changes → Plain
apply_changes S c = record {
  bodies = put_bodies S c.bodies S.bodies ++ map (body_in S) c.made;
  tags = S.tags ++ c.tags;
  output = S.output ++ c.text;
}

-- the objects of a store whose bodies differ in another, ascending
abbrev pub changed_objects : Plain → Plain → List ℕ
changed_objects S T = filter (λ id. differs (slice_get S.bodies id) (slice_get T.bodies id)) (range_with_len 0 (length S.bodies))
  where
    differs : Option Body → Option Body → Bool
    differs (Some a) (Some b) = not (same_body a b)
    differs _ _ = false

-- the first sum that would pass its limit
abbrev pub fault_of_room : Plain → Changes → Option FaultKind
fault_of_room S c =
    if nat_lt most_objects (length S.bodies + length c.made) then Some fault.Objects
    else if nat_lt most_cells (cells_in S.bodies + cells_in c.made) then Some fault.Cells
    else if nat_lt most_instances (length S.tags + length c.tags) then Some fault.Tags
    else if nat_lt most_output (length S.output + length c.text) then Some fault.Output
    else None
