-- The work of an invocation fits at its start, over a store that fits.
use Rattle.std.proofs.Common.{arith, ◌≡◌, ℕ, ◌<◌, List, [], ◌∷◌, length, map, Some, slice_get, refl, ap, sym, subst, ◌∙◌}
use Rattle.std.specs.Prelude.{option_map}
use Rattle.std.proofs.lemmas.List.{length-map}
use Rattle.std.proofs.lemmas.List.Elements.{All-weaker, All-nil}
use Rattle.std.proofs.lemmas.Option.{slice_get-map}
use Rattle.bc_data.specs.Typed.{TypedProgram}
use Rattle.bc_data.specs.declared.program.Field.{Field}
use Rattle.bc_data.specs.declared.program.Shape.{Shape}
use Rattle.bc_data.specs.declared.program.Shape.TheVariants as shape
use Rattle.bc_data.specs.declared.run.Body.{Body}
use Rattle.bc_data.specs.declared.run.Invocation.{Invocation}
use Rattle.bc_data.specs.declared.run.Kind.{Kind}
use Rattle.bc_data.specs.declared.run.Kind.TheVariants as kind
use Rattle.bc_data.specs.declared.run.TagRef.{TagRef}
use Rattle.bc_data.specs.declared.run.TagRef.TheVariants as tag
use Rattle.bc_data.specs.declared.run.Value.{Value}
use Rattle.bc_data.specs.declared.run.Value.TheVariants as value
use Rattle.bc_mean.specs.declared.plain.Plain.{Plain}
use Rattle.bc_mean.specs.Outcome.{work_at_start}
use Rattle.bc_mean.specs.Store.{IsReference, HasShape, HaveShapes, IsPresentTag, IsObject, IsArray, FitsAs, Fits}
use Rattle.bc_mean.specs.Work.{Work}
use Rattle.bc_law_soundness.specs.Fitting.{Refers, Shaped, Fill, IsPresent, FitsObject, FitsArray, FitsBody, FitsWork}
use Rattle.bc_law_soundness.proofs.Lists.{holds_at}

-- an element of a list under a function
pub map_at : {A B : Type 0} (g : A → B) (xs : List A) (i : ℕ) (x : A) → slice_get xs i ≡ Some x → slice_get (map g xs) i ≡ Some (g x)
map_at g xs i x h = slice_get-map g xs i ∙ ap (option_map g) h

module _ (S : Plain) (w : Work) where
  refers_from : (k : Kind) (x : Value) → IsReference S k x → Refers S w k x
  refers_from k value.Null h = tt
  refers_from k (value.Old id) h = h
  refers_from k (value.New n) h = absurd h
  refers_from k (value.Int n) h = h
  refers_from k (value.Bool b) h = h

  shaped_from : (sh : Shape) (x : Value) → HasShape S sh x → Shaped S w sh x
  shaped_from shape.Int x h = h
  shaped_from shape.Bool x h = h
  shaped_from shape.Null x h = h
  shaped_from (shape.Class c) x h = refers_from (kind.Class c) x h
  shaped_from shape.Ints x h = refers_from kind.Ints x h
  shaped_from shape.Bools x h = refers_from kind.Bools x h
  shaped_from (shape.Objects c) x h = refers_from (kind.Objects c) x h

  fill_from : (fields : List Field) (xs : List Value) → HaveShapes S fields xs → Fill S w (map (λ (x : Field). x.shape) fields) xs
  fill_from [] [] h = tt
  fill_from (f ∷ fields) (x ∷ xs) h = (shaped_from f.shape x h.0, fill_from fields xs h.1)
  fill_from [] (x ∷ xs) h = absurd h
  fill_from (f ∷ fields) [] h = absurd h

  present_from : (t : TagRef) → IsPresentTag S t → IsPresent S w t
  present_from (tag.Old n) h = h
  present_from (tag.New n) h = absurd h

  object_from : (P : TypedProgram) (c : ℕ) (b : Body) → IsObject P S c b → FitsObject P.classes S w c b
  object_from P c b h = record {
    class = h.class;
    declared = h.declared;
    cells = fill_from h.class.fields b.cells h.cells;
    flags = h.flags;
    few_tags = h.few_tags;
    present_tags = All-weaker (IsPresentTag S) (IsPresent S w) present_from b.tags h.present_tags;
    different_tags = h.different_tags;
  }

  array_from : (element : Shape) (b : Body) → IsArray S element b → FitsArray S w element b
  array_from element b h = record {
    cells = All-weaker (HasShape S element) (Shaped S w element) (shaped_from element) b.cells h.cells;
    short = h.short;
    flags = h.flags;
    tags = h.tags;
  }

  body_from : (P : TypedProgram) (k : Kind) (b : Body) → FitsAs P S k b → FitsBody P.classes S w k b
  body_from P (kind.Class c) b h = object_from P c b h
  body_from P kind.Ints b h = array_from shape.Int b h
  body_from P kind.Bools b h = array_from shape.Bool b h
  body_from P (kind.Objects c) b h = (h.0, array_from (shape.Class c) b h.1)

pub start_fits : (P : TypedProgram) (S : Plain) (v : Invocation) → Fits P S → FitsWork P S (work_at_start v)
start_fits P S v h = record {
  changed = λ id b at. record { kind = refl; size = refl; fits = body_from S (work_at_start v) P b.kind b (holds_at (λ b. FitsAs P S b.kind b) S.bodies id b h.bodies at) };
  made = λ n b at. cc;
  instances = All-nil (λ t. t < length P.tag_types);
  limits = record { objects = omega arith; cells = omega arith; instances = omega arith; text = omega arith };
}
