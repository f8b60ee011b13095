-- What fits a work fits one that has grown.
use Rattle.std.proofs.Common.{length, ℕ, ◌≤◌, List, [], ◌∷◌, Option, Some, None, arith}
use Rattle.std.proofs.lemmas.List.Elements.{All-weaker}
use Rattle.bc_data.specs.declared.program.Shape.{Shape}
use Rattle.bc_data.specs.declared.program.Shape.TheVariants as shape
use Rattle.bc_data.specs.declared.run.Body.{Body}
use Rattle.bc_data.specs.declared.run.Kind.{Kind}
use Rattle.bc_data.specs.declared.run.Kind.TheVariants as kind
use Rattle.bc_data.specs.declared.run.TagRef.{TagRef}
use Rattle.bc_data.specs.declared.run.TagRef.TheVariants as tag
use Rattle.bc_data.specs.declared.run.Value.{Value}
use Rattle.bc_data.specs.declared.run.Value.TheVariants as value
use Rattle.bc_data.specs.Typed.{TypedClass, TypedProgram}
use Rattle.bc_data.specs.TypedBodies.{Assigned}
use Rattle.bc_mean.specs.declared.plain.Plain.{Plain}
use Rattle.bc_mean.specs.Work.{Work}
use Rattle.bc_mean.specs.Evaluate.{Frame}
use Rattle.bc_law_soundness.specs.Fitting.{Refers, Shaped, Fill, IsPresent, field_shapes, FitsObject, FitsArray, FitsBody, IsVersion, FitsWork, Grows, Follows, Ready}
use Rattle.bc_law_soundness.specs.Frames.{FitsFrame, FitsResult}

pub grows_refl : (w : Work) → Grows w w
grows_refl w = record { made = λ k n h. h; instances = omega arith }

pub grows_trans : (w v u : Work) → Grows w v → Grows v u → Grows w u
grows_trans w v u g h = record { made = λ k n at. h.made k n (g.made k n at); instances = omega arith }

module _ (S : Plain) (w v : Work) (g : Grows w v) where
  pub refers_grows : (k : Kind) (x : Value) → Refers S w k x → Refers S v k x
  refers_grows k value.Null h = tt
  refers_grows k (value.Old id) h = h
  refers_grows k (value.New n) h = g.made k n h
  refers_grows k (value.Int n) h = h
  refers_grows k (value.Bool b) h = h

  pub shaped_grows : (sh : Shape) (x : Value) → Shaped S w sh x → Shaped S v sh x
  shaped_grows shape.Int x h = h
  shaped_grows shape.Bool x h = h
  shaped_grows shape.Null x h = h
  shaped_grows (shape.Class c) x h = refers_grows (kind.Class c) x h
  shaped_grows shape.Ints x h = refers_grows kind.Ints x h
  shaped_grows shape.Bools x h = refers_grows kind.Bools x h
  shaped_grows (shape.Objects c) x h = refers_grows (kind.Objects c) x h

  pub fill_grows : (shs : List Shape) (xs : List Value) → Fill S w shs xs → Fill S v shs xs
  fill_grows [] [] h = tt
  fill_grows (sh ∷ shs) (x ∷ xs) h = (shaped_grows sh x h.0, fill_grows shs xs h.1)
  fill_grows [] (x ∷ xs) h = h
  fill_grows (sh ∷ shs) [] h = h

  pub present_grows : (t : TagRef) → IsPresent S w t → IsPresent S v t
  present_grows (tag.Old n) h = h
  present_grows (tag.New n) h = let more = g.instances in omega arith

  object_grows : (K : List TypedClass) (c : ℕ) (b : Body) → FitsObject K S w c b → FitsObject K S v c b
  object_grows K c b h = record {
    class = h.class;
    declared = h.declared;
    cells = fill_grows (field_shapes h.class) b.cells h.cells;
    flags = h.flags;
    few_tags = h.few_tags;
    present_tags = All-weaker (IsPresent S w) (IsPresent S v) present_grows b.tags h.present_tags;
    different_tags = h.different_tags;
  }

  array_grows : (element : Shape) (b : Body) → FitsArray S w element b → FitsArray S v element b
  array_grows element b h = record {
    cells = All-weaker (Shaped S w element) (Shaped S v element) (shaped_grows element) b.cells h.cells;
    short = h.short;
    flags = h.flags;
    tags = h.tags;
  }

  pub body_grows : (K : List TypedClass) (k : Kind) (b : Body) → FitsBody K S w k b → FitsBody K S v k b
  body_grows K (kind.Class c) b h = object_grows K c b h
  body_grows K kind.Ints b h = array_grows shape.Int b h
  body_grows K kind.Bools b h = array_grows shape.Bool b h
  body_grows K (kind.Objects c) b h = (h.0, array_grows (shape.Class c) b h.1)

  pub version_grows : (K : List TypedClass) (b c : Body) → IsVersion K S w b c → IsVersion K S v b c
  version_grows K b c h = record { kind = h.kind; size = h.size; fits = body_grows K b.kind c h.fits }

  pub frame_grows : (locals variables : ℕ) (a : Assigned) (f : Frame) → FitsFrame S w locals variables a f → FitsFrame S v locals variables a f
  frame_grows locals variables a f h = record {
    slots = λ slot sh at. let x = h.slots slot sh at in (x.0, x.1, shaped_grows sh x.0 x.2);
    tags = λ n at. let t = h.tags n at in (t.0, t.1, present_grows t.0 t.2);
    all_slots = h.all_slots;
    all_tags = h.all_tags;
  }

  pub result_grows : (o : Option Shape) (r : Option Value) → FitsResult S w o r → FitsResult S v o r
  result_grows (Some sh) (Some x) h = shaped_grows sh x h
  result_grows (Some sh) None h = h
  result_grows None (Some x) h = h
  result_grows None None h = tt

module _ (P : TypedProgram) (S : Plain) where
  pub follows_refl : (w : Work) → FitsWork P S w → Follows P S w w
  follows_refl w h = record { fits = h; grows = grows_refl w; turns = omega arith }

  pub follows_trans : (w v u : Work) → Follows P S w v → Follows P S v u → Follows P S w u
  follows_trans w v u f h = record { fits = h.fits; grows = grows_trans w v u f.grows h.grows; turns = omega arith }

  pub ready_follows : (n : ℕ) (w v : Work) → Ready P S n w → Follows P S w v → Ready P S n v
  ready_follows n w v r f = record { fits = f.fits; turns = omega arith }

  -- a work with the same objects and instances
  pub idle : (w : Work) (text : List ℕ) (turns : ℕ) (touched : List ℕ) → FitsWork P S w → length text ≤ 65536 → turns ≤ w.turns → Follows P S w (record w { text = text; turns = turns; touched = touched })
  idle w text turns touched h short fewer =
      let v : Work = record w { text = text; turns = turns; touched = touched } in
      let g : Grows w v = record { made = λ k n at. at; instances = omega arith } in
      record {
        fits = record {
          changed = λ id b at. version_grows S w v g P.classes b _ (h.changed id b at);
          made = λ n b at. body_grows S w v g P.classes b.kind b (h.made n b at);
          instances = h.instances;
          limits = record { objects = h.limits.objects; cells = h.limits.cells; instances = h.limits.instances; text = short };
        };
        grows = g;
        turns = fewer;
      }
