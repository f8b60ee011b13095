-- Expressions of a shape come to values of that shape.
use Rattle.std.proofs.Common.{◌≡◌, ℕ, List, [], ◌∷◌, ◌++◌, Option, Some, None, slice_get, refl, sym, subst}
use Rattle.std.specs.Int.{w32, int_wrap}
use Rattle.std.proofs.lemmas.Int.{SFits-int_wrap}
use Rattle.bc_data.specs.declared.program.Shape.{Shape}
use Rattle.bc_data.specs.declared.program.Shape.TheVariants as shape
use Rattle.bc_data.specs.declared.run.Kind.TheVariants as kind
use Rattle.bc_data.specs.declared.run.Value.{Value}
use Rattle.bc_data.specs.declared.run.Value.TheVariants as value
use Rattle.bc_data.specs.Shapes.{result_shape, shape_of_kind}
use Rattle.bc_data.specs.Typed.{TypedExpression, Int, Truth, Null, Local, Neg, Not, Two, FieldOf, Length, Elem, Call, Make, Array, TypedExpressions, NoArg, Arg, TypedProgram}
use Rattle.bc_data.specs.TypedBodies.{Assigned, HasType, HaveTypes, maker_shapes}
use Rattle.bc_data.specs.WellTyped.{IsWellTyped}
use Rattle.bc_mean.specs.declared.plain.Plain.{Plain}
use Rattle.bc_mean.specs.Work.{Work, look_of, known, reach}
use Rattle.bc_mean.specs.Evaluate.{Frame, Calls, call_on, evaluate, evaluate_all}
use Rattle.bc_law_soundness.specs.Fitting.{Shaped, Fill, Ready, Well}
use Rattle.bc_law_soundness.specs.Frames.{FitsFrame, FitsResult, CallsFit}
use Rattle.bc_law_soundness.proofs.Arrays.{field_well, length_well, element_well, make_array_well}
use Rattle.bc_law_soundness.proofs.Calling.{world, call_well, new_well}
use Rattle.bc_law_soundness.proofs.Cells.{fill_fits, fill_push, refers_to}
use Rattle.bc_law_soundness.proofs.Growing.{fill_grows, frame_grows, ready_follows, refers_grows}
use Rattle.bc_law_soundness.proofs.Objects.{IsReached, reach_well}
use Rattle.bc_law_soundness.proofs.Operators.{IsOf, index_then, invert_well, negate_well, operate_well}
use Rattle.bc_law_soundness.proofs.Steps.{and_well, known_well, stays_here}

-- values of these shapes
abbrev pub AreOf : Plain → List Shape → Work → List Value → Type 0
AreOf S shs w xs = Fill S w shs xs

module _ (P : TypedProgram) (well : IsWellTyped P) (S : Plain) (objects : List ℕ) (n : ℕ) (C : Calls) (fit : CallsFit P S n C) (locals variables : ℕ) where
  -- a result that is asked for
  result_well : (w : Work) (o : Option Shape) (sh : Shape) (r : Option Value) → Ready P S n w → o ≡ Some sh → FitsResult S w o r → Well P S w (IsOf S sh) (known r w)
  result_well w (Some u) sh (Some x) r e h = stays_here P S w (IsOf S sh) x r.fits (subst (λ u. Shaped S w u x) (let same : u ≡ sh = cc in same) h)
  result_well w (Some u) sh None r e h = absurd h
  result_well w None sh o r e h = cc

  mutual
    pub evaluate_well :
        (e : TypedExpression) (w : Work) (a : Assigned) (f : Frame) (sh : Shape) → Ready P S n w → FitsFrame S w locals variables a f → HasType P.classes a e sh
        → Well P S w (IsOf S sh) (evaluate (world P S objects) C f e w)
    evaluate_well (Int i) w a f sh r fits h = stays_here P S w (IsOf S sh) (value.Int (int_wrap w32 i)) r.fits (subst (λ sh. Shaped S w sh (value.Int (int_wrap w32 i))) (sym h) (SFits-int_wrap w32 i))
    evaluate_well (Truth b) w a f sh r fits h = stays_here P S w (IsOf S sh) (value.Bool b) r.fits (subst (λ sh. Shaped S w sh (value.Bool b)) (sym h) tt)
    evaluate_well Null w a f sh r fits h = stays_here P S w (IsOf S sh) value.Null r.fits (subst (λ sh. Shaped S w sh value.Null) (sym h) refl)
    evaluate_well (Local slot) w a f sh r fits h = let x = fits.slots slot sh h in known_well P S w (IsOf S sh) (slice_get f.slots slot) x.0 r.fits x.1 x.2
    evaluate_well (Neg e) w a f sh r fits h =
        subst (λ sh. Well P S w (IsOf S sh) (evaluate (world P S objects) C f (Neg e) w)) (sym h.1)
        (and_well P S w (IsOf S shape.Int) (IsOf S shape.Int) (evaluate (world P S objects) C f e w) _ (evaluate_well e w a f shape.Int r fits h.0) (λ x v g q. negate_well P S v x g.fits q))
    evaluate_well (Not e) w a f sh r fits h =
        subst (λ sh. Well P S w (IsOf S sh) (evaluate (world P S objects) C f (Not e) w)) (sym h.1)
        (and_well P S w (IsOf S shape.Bool) (IsOf S shape.Bool) (evaluate (world P S objects) C f e w) _ (evaluate_well e w a f shape.Bool r fits h.0) (λ x v g q. invert_well P S v x g.fits q))
    evaluate_well (Two at o x y) w a f sh r fits h =
        subst (λ sh. Well P S w (IsOf S sh) (evaluate (world P S objects) C f (Two at o x y) w)) (sym h.5)
        (and_well P S w (IsOf S h.0) (IsOf S (result_shape o)) (evaluate (world P S objects) C f x w) _ (evaluate_well x w a f h.0 r fits h.2) (λ p v g q.
        operate_well P S v at o h.0 h.1 p (evaluate (world P S objects) C f y) g.fits h.4 q
        (evaluate_well y v a f h.1 (ready_follows P S n w v r g) (frame_grows S w v g.grows locals variables a f fits) h.3)))
    evaluate_well (FieldOf at object i) w a f sh r fits h =
        and_well P S w (IsOf S (shape.Class h.0)) (IsOf S sh) (evaluate (world P S objects) C f object w) _ (evaluate_well object w a f (shape.Class h.0) r fits h.1) (λ x v g q.
        and_well P S v (IsReached P S (kind.Class h.0)) (IsOf S sh) (reach (look_of S) at x v) _ (reach_well P S v (kind.Class h.0) at x g.fits q) (λ o u e reached.
        field_well P S u h.0 o i sh e.fits reached h.2))
    evaluate_well (Length at array) w a f sh r fits h =
        subst (λ sh. Well P S w (IsOf S sh) (evaluate (world P S objects) C f (Length at array) w)) (sym h.4)
        (and_well P S w (IsOf S h.0) (IsOf S shape.Int) (evaluate (world P S objects) C f array w) _ (evaluate_well array w a f h.0 r fits h.2) (λ x v g q.
        let k = refers_to S v h.0 h.1 h.3 in
        and_well P S v (IsReached P S k.0) (IsOf S shape.Int) (reach (look_of S) at x v) _ (reach_well P S v k.0 at x g.fits (k.1 x q)) (λ o u e reached.
        length_well P S u k.0 o h.1 e.fits reached k.2)))
    evaluate_well (Elem at array index) w a f sh r fits h =
        and_well P S w (IsOf S h.0) (IsOf S sh) (evaluate (world P S objects) C f array w) _ (evaluate_well array w a f h.0 r fits h.1) (λ x v g q.
        let k = refers_to S v h.0 sh h.3 in
        and_well P S v (IsOf S shape.Int) (IsOf S sh) (evaluate (world P S objects) C f index v) _
        (evaluate_well index v a f shape.Int (ready_follows P S n w v r g) (frame_grows S w v g.grows locals variables a f fits) h.2) (λ i u e number.
        and_well P S u (IsReached P S k.0) (IsOf S sh) (reach (look_of S) at x u) _ (reach_well P S u k.0 at x e.fits (refers_grows S v u e.grows k.0 x (k.1 x q))) (λ o t d reached.
        index_then P S t (IsOf S sh) at o.body i (λ j s. known (slice_get o.body.cells j) s) number (λ j y there.
        element_well P S t k.0 o sh j y d.fits reached k.2 there))))
    evaluate_well (Call at object c i args) w a f sh r fits h =
        and_well P S w (IsOf S (shape.Class c)) (IsOf S sh) (evaluate (world P S objects) C f object w) _ (evaluate_well object w a f (shape.Class c) r fits h.2) (λ x v g q.
        let ready = ready_follows P S n w v r g in
        and_well P S v (AreOf S h.1) (IsOf S sh) (evaluate_all (world P S objects) C f args v) _
        (evaluate_all_well args v a f h.1 ready (frame_grows S w v g.grows locals variables a f fits) h.4) (λ xs u e fill.
        let later = ready_follows P S n v u ready e in
        and_well P S u (λ v r. FitsResult S v h.0.result r) (IsOf S sh) (call_on (world P S objects) C at c i x xs u) _
        (call_well P well S objects n C fit u at c i h.0 x xs later h.3 (refers_grows S v u e.grows (kind.Class c) x q) (fill_fits S u h.1 h.0.formals xs fill h.5))
        (λ o t d result. result_well t h.0.result sh o (ready_follows P S n u t later d) h.6 result)))
    evaluate_well (Make at c args tweaks) w a f sh r fits h =
        subst (λ sh. Well P S w (IsOf S sh) (evaluate (world P S objects) C f (Make at c args tweaks) w)) (sym h.6)
        (and_well P S w (AreOf S h.1) (IsOf S (shape.Class c)) (evaluate_all (world P S objects) C f args w) _ (evaluate_all_well args w a f h.1 r fits h.3) (λ xs v g fill.
        new_well P well S objects n C fit v locals variables a f at c h.0 tweaks xs (ready_follows P S n w v r g) (frame_grows S w v g.grows locals variables a f fits) h.2 h.5
        (fill_fits S v h.1 (maker_shapes h.0.maker) xs fill h.4)))
    evaluate_well (Array at k size) w a f sh r fits h =
        subst (λ sh. Well P S w (IsOf S sh) (evaluate (world P S objects) C f (Array at k size) w)) (sym h.2)
        (and_well P S w (IsOf S shape.Int) (IsOf S (shape_of_kind k)) (evaluate (world P S objects) C f size w) _ (evaluate_well size w a f shape.Int r fits h.1)
        (λ x v g q. make_array_well P S v at k x g.fits h.0 q))

    pub evaluate_all_well :
        (es : TypedExpressions) (w : Work) (a : Assigned) (f : Frame) (shs : List Shape) → Ready P S n w → FitsFrame S w locals variables a f → HaveTypes P.classes a es shs
        → Well P S w (AreOf S shs) (evaluate_all (world P S objects) C f es w)
    evaluate_all_well NoArg w a f shs r fits h = stays_here P S w (AreOf S shs) [] r.fits (subst (λ shs. Fill S w shs []) (sym h) tt)
    evaluate_all_well (Arg front last) w a f shs r fits h =
        subst (λ shs. Well P S w (AreOf S shs) (evaluate_all (world P S objects) C f (Arg front last) w)) (sym h.4)
        (and_well P S w (AreOf S h.0) (AreOf S (h.0 ++ h.1 ∷ [])) (evaluate_all (world P S objects) C f front w) _ (evaluate_all_well front w a f h.0 r fits h.2) (λ xs v g fill.
        and_well P S v (IsOf S h.1) (AreOf S (h.0 ++ h.1 ∷ [])) (evaluate (world P S objects) C f last v) _
        (evaluate_well last v a f h.1 (ready_follows P S n w v r g) (frame_grows S w v g.grows locals variables a f fits) h.3) (λ x u e q.
        stays_here P S u (AreOf S (h.0 ++ h.1 ∷ [])) (xs ++ x ∷ []) e.fits (fill_push S u h.0 xs h.1 x (fill_grows S v u e.grows h.0 xs fill) q))))
