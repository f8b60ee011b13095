-- Calls of methods, and new objects of classes with their braces and constructors.
use Rattle.std.proofs.Common.{◌≡◌, ℕ, List, [], ◌∷◌, Option, Some, None, All, slice_get, refl, ap, ◌∙◌}
use Rattle.std.specs.Prelude.{option_and_then}
use Rattle.std.proofs.lemmas.List.Elements.{All-head, All-tail}
use Rattle.bc_data.specs.declared.program.Shape.TheVariants as shape
use Rattle.bc_data.specs.declared.program.Tweak.{Tweak}
use Rattle.bc_data.specs.declared.program.Tweak.TheVariants as tweak
use Rattle.bc_data.specs.declared.run.Kind.TheVariants as kind
use Rattle.bc_data.specs.declared.run.Place.{Place}
use Rattle.bc_data.specs.declared.run.Value.{Value}
use Rattle.bc_data.specs.declared.run.Value.TheVariants as value
use Rattle.bc_data.specs.Typed.{TypedMethod, TypedClass, TypedProgram}
use Rattle.bc_data.specs.TypedBodies.{Assigned, IsMethodOf, IsTweak, maker_shapes}
use Rattle.bc_data.specs.WellTyped.{IsWellTyped, IsMaker, IsMethod}
use Rattle.bc_mean.specs.declared.plain.Plain.{Plain}
use Rattle.bc_mean.specs.Work.{Work, look_of, and_then, known, made_one, reach, bind, make}
use Rattle.bc_mean.specs.Evaluate.{World, Frame, Calls, tweak_one, tweak_all, zero_object, construct, method_in, call_on}
use Rattle.bc_law_soundness.specs.Fitting.{IsKindAt, Shaped, Fill, FitsWork, Ready, Well}
use Rattle.bc_law_soundness.specs.Frames.{FitsFrame, FitsResult, CallsFit}
use Rattle.bc_law_soundness.proofs.Arrays.{zero_object_fits}
use Rattle.bc_law_soundness.proofs.Changing.{set_flag_well, bind_well}
use Rattle.bc_law_soundness.proofs.Growing.{fill_grows, frame_grows, ready_follows, refers_grows}
use Rattle.bc_law_soundness.proofs.Lists.{holds_at}
use Rattle.bc_law_soundness.proofs.Objects.{IsReached, made_well, make_well, reach_well}
use Rattle.bc_law_soundness.proofs.Operators.{IsOf}
use Rattle.bc_law_soundness.proofs.Steps.{stays_here, and_well, known_then}

-- where an invocation runs
abbrev pub world : TypedProgram → Plain → List ℕ → World
world P S objects = record { look = look_of S; classes = P.classes; objects = objects }

module _ (P : TypedProgram) (well : IsWellTyped P) (S : Plain) (objects : List ℕ) (n : ℕ) (C : Calls) (fit : CallsFit P S n C) where
  method_there : (c i : ℕ) (m : TypedMethod) → IsMethodOf P.classes c i m → method_in (world P S objects) c i ≡ Some m
  method_there c i m h = ap (λ (o : Option TypedClass). option_and_then (λ (k : TypedClass). slice_get k.methods i) o) h.1 ∙ h.2

  method_typed : (c i : ℕ) (m : TypedMethod) → IsMethodOf P.classes c i m → IsMethod P c m
  method_typed c i m h = holds_at (IsMethod P c) h.0.methods i m (well.classes c h.0 h.1).methods h.2

  pub call_well :
      (w : Work) (at : Place) (c i : ℕ) (m : TypedMethod) (x : Value) (xs : List Value) → Ready P S n w → IsMethodOf P.classes c i m
      → Shaped S w (shape.Class c) x → Fill S w m.formals xs → Well P S w (λ v r. FitsResult S v m.result r) (call_on (world P S objects) C at c i x xs w)
  call_well w at c i m x xs r h q fill =
      and_well P S w (IsReached P S (kind.Class c)) (λ v r. FitsResult S v m.result r) (reach (look_of S) at x w) _ (reach_well P S w (kind.Class c) at x r.fits q) (λ o v f reached.
      known_then P S v (λ v r. FitsResult S v m.result r) (method_in (world P S objects) c i) m (λ m u. C at m (x ∷ xs) u) (method_there c i m h)
      (fit at m (x ∷ xs) v (ready_follows P S n w v r f)
      (record {
        me = c;
        method = method_typed c i m h;
        values = (refers_grows S w v f.grows (kind.Class c) x q, fill_grows S w v f.grows m.formals xs fill);
      })))

  tweak_well :
      (w : Work) (locals variables : ℕ) (a : Assigned) (f : Frame) (c : ℕ) (k : TypedClass) (i : ℕ) (t : Tweak) → FitsWork P S w → FitsFrame S w locals variables a f
      → slice_get P.classes c ≡ Some k → IsKindAt w.made (kind.Class c) i → IsTweak a k t → Well P S w (λ v u. Unit {0}) (tweak_one f i t w)
  tweak_well w locals variables a f c k i (tweak.Flag flag on) h fits declared there q =
      and_well P S w (IsReached P S (kind.Class c)) (λ v u. Unit {0}) (made_one i (slice_get w.made i) w) _ (made_well P S w (kind.Class c) i h there)
      (λ o v g r. set_flag_well P S v c k o flag on g.fits r declared q)
  tweak_well w locals variables a f c k i (tweak.Add at variable) h fits declared there q =
      let t = fits.tags variable q in
      and_well P S w (IsReached P S (kind.Class c)) (λ v u. Unit {0}) (made_one i (slice_get w.made i) w) _ (made_well P S w (kind.Class c) i h there)
      (λ o v g r.
      let later = (frame_grows S w v g.grows locals variables a f fits).tags variable q in
      known_then P S v (λ v u. Unit {0}) (slice_get f.tags variable) later.0 (λ t u. bind at o t u) later.1 (bind_well P S v at c o later.0 g.fits r later.2))

  tweaks_well :
      (ts : List Tweak) (w : Work) (locals variables : ℕ) (a : Assigned) (f : Frame) (c : ℕ) (k : TypedClass) (i : ℕ) → FitsWork P S w → FitsFrame S w locals variables a f
      → slice_get P.classes c ≡ Some k → IsKindAt w.made (kind.Class c) i → All (IsTweak a k) ts → Well P S w (λ v u. Unit {0}) (tweak_all f i ts w)
  tweaks_well [] w locals variables a f c k i h fits declared there q = stays_here P S w (λ v u. Unit {0}) tt h tt
  tweaks_well (t ∷ ts) w locals variables a f c k i h fits declared there q =
      and_well P S w (λ v u. Unit {0}) (λ v u. Unit {0}) (tweak_one f i t w) _
      (tweak_well w locals variables a f c k i t h fits declared there (All-head (IsTweak a k) t ts q))
      (λ x v g r. tweaks_well ts v locals variables a f c k i g.fits (frame_grows S w v g.grows locals variables a f fits) declared (g.grows.made (kind.Class c) i there) (All-tail (IsTweak a k) t ts q))

  construct_well :
      (w : Work) (at : Place) (c : ℕ) (o : Option TypedMethod) (i : ℕ) (xs : List Value) → Ready P S n w → ((m : TypedMethod) → o ≡ Some m → IsMaker P c m)
      → IsKindAt w.made (kind.Class c) i → Fill S w (maker_shapes o) xs → Well P S w (IsOf S (shape.Class c)) (construct C at o i xs w)
  construct_well w at c None i xs r typed there fill = stays_here P S w (IsOf S (shape.Class c)) (value.New i) r.fits there
  construct_well w at c (Some m) i xs r typed there fill =
      and_well P S w (λ v r. FitsResult S v m.result r) (IsOf S (shape.Class c)) (C at m (value.New i ∷ xs) w) _
      (fit at m (value.New i ∷ xs) w r (record { me = c; method = (typed m refl).method; values = (there, fill) }))
      (λ x v f q. stays_here P S v (IsOf S (shape.Class c)) (value.New i) f.fits (f.grows.made (kind.Class c) i there))

  -- a `new` from its arguments' values on
  pub new_well :
      (w : Work) (locals variables : ℕ) (a : Assigned) (f : Frame) (at : Place) (c : ℕ) (k : TypedClass) (ts : List Tweak) (xs : List Value) → Ready P S n w → FitsFrame S w locals variables a f
      → slice_get P.classes c ≡ Some k → All (IsTweak a k) ts → Fill S w (maker_shapes k.maker) xs
      → Well P S w (IsOf S (shape.Class c)) (and_then (known (slice_get P.classes c) w) (λ k u. and_then (make at (zero_object c k) u) (λ i t. and_then (tweak_all f i ts t) (λ _ s. construct C at k.maker i xs s))))
  new_well w locals variables a f at c k ts xs r fits declared q fill =
      known_then P S w (IsOf S (shape.Class c)) (slice_get P.classes c) k _ declared
      (and_well P S w (λ v i. IsKindAt v.made (kind.Class c) i) (IsOf S (shape.Class c)) (make at (zero_object c k) w) _ (make_well P S w at (zero_object c k) r.fits (zero_object_fits P S w c k declared)) (λ i v g there.
      and_well P S v (λ v u. Unit {0}) (IsOf S (shape.Class c)) (tweak_all f i ts v) _
      (tweaks_well ts v locals variables a f c k i g.fits (frame_grows S w v g.grows locals variables a f fits) declared there q) (λ x u e t.
      construct_well u at c k.maker i xs (ready_follows P S n v u (ready_follows P S n w v r g) e) (well.classes c k declared).maker (e.grows.made (kind.Class c) i there)
      (fill_grows S v u e.grows (maker_shapes k.maker) xs (fill_grows S w v g.grows (maker_shapes k.maker) xs fill)))))
