-- The store has room for what an enabled invocation commits.
use Rattle.std.proofs.Common.{◌≡◌, ℕ, ◌<◌, List, [], ◌∷◌, length, Some, None, All, slice_get, sym, subst}
use Rattle.std.specs.List.{AllByRecursion, range_with_len}
use Rattle.std.proofs.lemmas.List.Elements.{All-cons, All-nil, All-weaker}
use Rattle.std.proofs.lemmas.Option.{slice_get_within}
use Rattle.bc_data.specs.declared.program.Shape.{Shape}
use Rattle.bc_data.specs.declared.program.Shape.TheVariants as shape
use Rattle.bc_data.specs.declared.run.Body.{Body}
use Rattle.bc_data.specs.declared.run.Kind.{Kind}
use Rattle.bc_data.specs.declared.run.Kind.TheVariants as kind
use Rattle.bc_data.specs.declared.run.TagRef.{TagRef}
use Rattle.bc_data.specs.declared.run.TagRef.TheVariants as tag
use Rattle.bc_data.specs.declared.run.Value.{Value}
use Rattle.bc_data.specs.declared.run.Value.TheVariants as value
use Rattle.bc_data.specs.declared.run.Written.{Written}
use Rattle.bc_data.specs.Typed.{TypedClass, TypedProgram}
use Rattle.bc_mean.specs.declared.plain.Plain.{Plain}
use Rattle.bc_mean.specs.Changes.{written_of, changes_between, fault_of_room}
use Rattle.bc_mean.specs.Commit.{IsMadeValue, IsMadeTag, IsMadeBody, HasRoom}
use Rattle.bc_mean.specs.Outcome.{body_run, place_of, work_at_start}
use Rattle.bc_mean.specs.Store.{IsBool, IsInt}
use Rattle.bc_mean.specs.Work.{Work, newest}
use Rattle.bc_law_soundness.specs.Fitting.{Refers, Shaped, Fill, IsPresent, field_shapes, FitsArray, FitsBody, FitsWork}
use Rattle.bc_law_soundness.specs.Laws.{CommitsHaveRoom}
use Rattle.bc_law_soundness.proofs.Keeping.{committed, room}
use Rattle.bc_law_soundness.proofs.Renewed.{all_from, each_filter_map, written_is}
use Rattle.bc_law_soundness.proofs.Tasks.{body_well}

all_each : {A : Type 0} (P : A → Type 0) (xs : List A) → AllByRecursion P xs → All P xs
all_each P [] h = All-nil P
all_each P (x ∷ xs) h = All-cons P x xs h.0 (all_each P xs h.1)

module _ (S : Plain) (w : Work) where
  abbrev IsMade : Value → Type 0
  IsMade = IsMadeValue (length w.made)

  refers_made : (k : Kind) (x : Value) → Refers S w k x → IsMade x
  refers_made k value.Null h = tt
  refers_made k (value.Old id) h = tt
  refers_made k (value.New n) h = slice_get_within w.made n h.0 h.1
  refers_made k (value.Int n) h = tt
  refers_made k (value.Bool b) h = tt

  int_made : (x : Value) → IsInt x → IsMade x
  int_made (value.Int n) h = tt
  int_made (value.Bool b) h = tt
  int_made value.Null h = tt
  int_made (value.Old id) h = tt
  int_made (value.New n) h = absurd h

  bool_made : (x : Value) → IsBool x → IsMade x
  bool_made (value.Int n) h = tt
  bool_made (value.Bool b) h = tt
  bool_made value.Null h = tt
  bool_made (value.Old id) h = tt
  bool_made (value.New n) h = absurd h

  null_made : (x : Value) → x ≡ value.Null → IsMade x
  null_made (value.Int n) h = tt
  null_made (value.Bool b) h = tt
  null_made value.Null h = tt
  null_made (value.Old id) h = tt
  null_made (value.New n) h = cc

  shaped_made : (sh : Shape) (x : Value) → Shaped S w sh x → IsMade x
  shaped_made shape.Int x h = int_made x h
  shaped_made shape.Bool x h = bool_made x h
  shaped_made shape.Null x h = null_made x h
  shaped_made (shape.Class c) x h = refers_made (kind.Class c) x h
  shaped_made shape.Ints x h = refers_made kind.Ints x h
  shaped_made shape.Bools x h = refers_made kind.Bools x h
  shaped_made (shape.Objects c) x h = refers_made (kind.Objects c) x h

  fill_made : (shs : List Shape) (xs : List Value) → Fill S w shs xs → All IsMade xs
  fill_made [] [] h = All-nil IsMade
  fill_made (sh ∷ shs) (x ∷ xs) h = All-cons IsMade x xs (shaped_made sh x h.0) (fill_made shs xs h.1)
  fill_made [] (x ∷ xs) h = absurd h
  fill_made (sh ∷ shs) [] h = absurd h

  present_made : (t : TagRef) → IsPresent S w t → IsMadeTag (length w.instances) t
  present_made (tag.Old n) h = tt
  present_made (tag.New n) h = h

  array_made : (element : Shape) (b : Body) → FitsArray S w element b → IsMadeBody (changes_between S w) b
  array_made element b h = record {
    cells = All-weaker (Shaped S w element) IsMade (shaped_made element) b.cells h.cells;
    tags = subst (All (IsMadeTag (length w.instances))) (sym h.tags) (All-nil (IsMadeTag (length w.instances)));
  }

  body_made : (K : List TypedClass) (k : Kind) (b : Body) → FitsBody K S w k b → IsMadeBody (changes_between S w) b
  body_made K (kind.Class c) b h = record {
    cells = fill_made (field_shapes h.class) b.cells h.cells;
    tags = All-weaker (IsPresent S w) (IsMadeTag (length w.instances)) present_made b.tags h.present_tags;
  }
  body_made K kind.Ints b h = array_made shape.Int b h
  body_made K kind.Bools b h = array_made shape.Bool b h
  body_made K (kind.Objects c) b h = array_made (shape.Class c) b h.1

  -- what holds of the newest copy of each object of the store holds of each body that is written
  written_all :
      (Q : ℕ → Body → Type 0) → ((id : ℕ) (b : Body) → slice_get S.bodies id ≡ Some b → Q id (newest w.changed id b))
      → All (λ (y : Written). Q y.id y.body) (changes_between S w).bodies
  written_all Q q =
      all_each (λ (y : Written). Q y.id y.body) (changes_between S w).bodies
      (each_filter_map (λ id. written_of w id (slice_get S.bodies id)) (λ (y : Written). Q y.id y.body)
      (λ id y e. one id y (written_is w id (slice_get S.bodies id) y e)) (range_with_len 0 (length S.bodies)))
    where
      one : (id : ℕ) (y : Written) → (b : Body) × (slice_get S.bodies id ≡ Some b) × (record { id = id; body = newest w.changed id b } ≡ y) → Q y.id y.body
      one id y b = subst (λ (y : Written). Q y.id y.body) b.2 (q id b.0 b.1)

  changes_room : (P : TypedProgram) → FitsWork P S w → fault_of_room S (changes_between S w) ≡ None → HasRoom S (changes_between S w)
  changes_room P h none =
      let sums = room S (changes_between S w) none in
      record {
        objects = sums.objects;
        instances = sums.instances;
        present = written_all (λ id b. id < length S.bodies) (λ id b at. slice_get_within S.bodies id b at);
        changed = written_all (λ id b. IsMadeBody (changes_between S w) b) (λ id b at. body_made P.classes b.kind (newest w.changed id b) (h.changed id b at).fits);
        made = all_from (IsMadeBody (changes_between S w)) w.made (λ n b at. body_made P.classes b.kind b (h.made n b at));
      }

pub commits_have_room : CommitsHaveRoom
commits_have_room P S v c well fits enabled commit =
    let g = body_run P S (slice_get P.tasks v.task) v in
    let w = committed P S (work_at_start v) (place_of (slice_get P.tasks v.task)) g c (body_well P S v well fits enabled) commit in
    subst (HasRoom S) w.2 (changes_room S w.0 P w.1 w.3)
