-- What a `print` writes, and the actions of a `taskexit`.
use Rattle.std.proofs.Common.{ℕ, List, [], ◌∷◌, None, All, slice_get, subst}
use Rattle.std.specs.Fmt.{signed_decimal}
use Rattle.std.proofs.lemmas.List.Elements.{All-head, All-tail}
use Rattle.bc_data.specs.declared.program.Change.{Change}
use Rattle.bc_data.specs.declared.program.Change.TheVariants as change
use Rattle.bc_data.specs.declared.program.Shape.TheVariants as shape
use Rattle.bc_data.specs.declared.run.FaultKind.TheVariants as fault
use Rattle.bc_data.specs.declared.run.Kind.TheVariants as kind
use Rattle.bc_data.specs.declared.run.Place.{Place}
use Rattle.bc_data.specs.declared.run.Value.{Value}
use Rattle.bc_data.specs.declared.run.Value.TheVariants as value
use Rattle.bc_data.specs.Typed.{TypedExpression, Call, TypedPart, TextPart, NumberPart, TruthPart, TypedProgram}
use Rattle.bc_data.specs.TypedBodies.{Assigned, InTask, IsPerformed, IsPart, IsAction}
use Rattle.bc_data.specs.WellTyped.{IsWellTyped}
use Rattle.bc_mean.specs.declared.plain.Plain.{Plain}
use Rattle.bc_mean.specs.Store.{IsInt, IsBool}
use Rattle.bc_mean.specs.Work.{Work, Gives, look_of, parameter, bind, unbind}
use Rattle.bc_mean.specs.Evaluate.{Frame, Calls, call_on, evaluate, evaluate_all}
use Rattle.bc_mean.specs.Execute.{text_of_truth, say_number, say_truth, print_part, print_parts, act, act_all, perform, assert_true}
use Rattle.bc_law_soundness.specs.Fitting.{FitsWork, Ready, Well}
use Rattle.bc_law_soundness.specs.Frames.{FitsFrame, FitsResult, CallsFit, AreParameters}
use Rattle.bc_law_soundness.proofs.Calling.{world, call_well}
use Rattle.bc_law_soundness.proofs.Cells.{fill_fits}
use Rattle.bc_law_soundness.proofs.Changing.{set_flag_well, bind_well, unbind_well}
use Rattle.bc_law_soundness.proofs.Expressions.{AreOf, evaluate_well, evaluate_all_well}
use Rattle.bc_law_soundness.proofs.Growing.{frame_grows, ready_follows, refers_grows}
use Rattle.bc_law_soundness.proofs.Lists.{element_within}
use Rattle.bc_law_soundness.proofs.Objects.{IsReached, parameter_well}
use Rattle.bc_law_soundness.proofs.Operators.{IsOf}
use Rattle.bc_law_soundness.proofs.Steps.{and_well, choose_well, faulted, known_then, say_well, stays_here}

-- nothing more than a later work
abbrev pub Done : Work → Unit {0} → Type 0
Done w u = Unit {0}

module _ (P : TypedProgram) (S : Plain) where
  say_number_well : (w : Work) (at : Place) (x : Value) → FitsWork P S w → IsInt x → Well P S w Done (say_number at x w)
  say_number_well w at (value.Int n) h q = say_well P S w at (signed_decimal n) h
  say_number_well w at (value.Bool b) h q = absurd q
  say_number_well w at value.Null h q = absurd q
  say_number_well w at (value.Old id) h q = absurd q
  say_number_well w at (value.New n) h q = absurd q

  say_truth_well : (w : Work) (at : Place) (x : Value) → FitsWork P S w → IsBool x → Well P S w Done (say_truth at x w)
  say_truth_well w at (value.Bool b) h q = say_well P S w at (text_of_truth b) h
  say_truth_well w at (value.Int n) h q = absurd q
  say_truth_well w at value.Null h q = absurd q
  say_truth_well w at (value.Old id) h q = absurd q
  say_truth_well w at (value.New n) h q = absurd q

  pub assert_well : (w : Work) (at : Place) (x : Value) → FitsWork P S w → IsBool x → Well P S w Done (assert_true at x w)
  assert_well w at x h q = choose_well P S w Done x (Gives tt) _ q (stays_here P S w Done tt h tt) (faulted P S w Done fault.Assert at w)

module _ (P : TypedProgram) (well : IsWellTyped P) (S : Plain) (objects : List ℕ) (n : ℕ) (C : Calls) (fit : CallsFit P S n C) (locals variables : ℕ) where
  print_part_well : (w : Work) (a : Assigned) (f : Frame) (at : Place) (p : TypedPart) → Ready P S n w → FitsFrame S w locals variables a f → IsPart P.classes a p → Well P S w Done (print_part (world P S objects) C f at p w)
  print_part_well w a f at (TextPart bytes) r fits h = say_well P S w at bytes r.fits
  print_part_well w a f at (NumberPart e) r fits h =
      and_well P S w (IsOf S shape.Int) Done (evaluate (world P S objects) C f e w) _ (evaluate_well P well S objects n C fit locals variables e w a f shape.Int r fits h)
      (λ x v g q. say_number_well P S v at x g.fits q)
  print_part_well w a f at (TruthPart e) r fits h =
      and_well P S w (IsOf S shape.Bool) Done (evaluate (world P S objects) C f e w) _ (evaluate_well P well S objects n C fit locals variables e w a f shape.Bool r fits h)
      (λ x v g q. say_truth_well P S v at x g.fits q)

  pub print_well : (ps : List TypedPart) (w : Work) (a : Assigned) (f : Frame) (at : Place) → Ready P S n w → FitsFrame S w locals variables a f → All (IsPart P.classes a) ps → Well P S w Done (print_parts (world P S objects) C f at ps w)
  print_well [] w a f at r fits h = stays_here P S w Done tt r.fits tt
  print_well (p ∷ ps) w a f at r fits h =
      and_well P S w Done Done (print_part (world P S objects) C f at p w) _ (print_part_well w a f at p r fits (All-head (IsPart P.classes a) p ps h))
      (λ x v g q. print_well ps v a f at (ready_follows P S n w v r g) (frame_grows S w v g.grows locals variables a f fits) (All-tail (IsPart P.classes a) p ps h))

  act_well :
      (w : Work) (params : List ℕ) (a : Assigned) (f : Frame) (c : Change) → FitsWork P S w → FitsFrame S w locals variables a f → AreParameters S objects (InTask params)
      → IsAction P.classes params a c → Well P S w Done (act (world P S objects) f c w)
  act_well w params a f (change.Flag p flag on) h fits there q =
      let id = there p q.0 q.2 in
      and_well P S w (IsReached P S (kind.Class q.0)) Done (parameter (look_of S) (slice_get objects p) w) _ (parameter_well P S w (kind.Class q.0) (slice_get objects p) id.0 h id.1 id.2)
      (λ o v g r. set_flag_well P S v q.0 q.1 o flag on g.fits r q.3 q.4)
  act_well w params a f (change.Add at p variable) h fits there q =
      let c = element_within params p q.0 in
      let id = there p c.0 c.1 in
      and_well P S w (IsReached P S (kind.Class c.0)) Done (parameter (look_of S) (slice_get objects p) w) _ (parameter_well P S w (kind.Class c.0) (slice_get objects p) id.0 h id.1 id.2)
      (λ o v g r.
      let t = (frame_grows S w v g.grows locals variables a f fits).tags variable q.1 in
      known_then P S v Done (slice_get f.tags variable) t.0 (λ t u. bind at o t u) t.1 (bind_well P S v at c.0 o t.0 g.fits r t.2))
  act_well w params a f (change.Clear p variable) h fits there q =
      let c = element_within params p q.0 in
      let id = there p c.0 c.1 in
      and_well P S w (IsReached P S (kind.Class c.0)) Done (parameter (look_of S) (slice_get objects p) w) _ (parameter_well P S w (kind.Class c.0) (slice_get objects p) id.0 h id.1 id.2)
      (λ o v g r.
      let t = (frame_grows S w v g.grows locals variables a f fits).tags variable q.1 in
      known_then P S v Done (slice_get f.tags variable) t.0 (λ t u. unbind o t u) t.1 (unbind_well P S v c.0 o t.0 g.fits r))

  pub act_all_well :
      (cs : List Change) (w : Work) (params : List ℕ) (a : Assigned) (f : Frame) → FitsWork P S w → FitsFrame S w locals variables a f → AreParameters S objects (InTask params)
      → All (IsAction P.classes params a) cs → Well P S w Done (act_all (world P S objects) f cs w)
  act_all_well [] w params a f h fits there q = stays_here P S w Done tt h tt
  act_all_well (c ∷ cs) w params a f h fits there q =
      and_well P S w Done Done (act (world P S objects) f c w) _ (act_well w params a f c h fits there (All-head (IsAction P.classes params a) c cs q))
      (λ x v g r. act_all_well cs v params a f g.fits (frame_grows S w v g.grows locals variables a f fits) there (All-tail (IsAction P.classes params a) c cs q))

  -- a call as a statement comes to some result
  pub perform_well : (e : TypedExpression) (w : Work) (a : Assigned) (f : Frame) → Ready P S n w → FitsFrame S w locals variables a f → IsPerformed P.classes a e → Well P S w (λ v r. FitsResult S v None r) (perform (world P S objects) C f e w)
  perform_well (Call at object c i args) w a f r fits h =
      and_well P S w (IsOf S (shape.Class c)) (λ v r. FitsResult S v None r) (evaluate (world P S objects) C f object w) _
      (evaluate_well P well S objects n C fit locals variables object w a f (shape.Class c) r fits h.2) (λ x v g q.
      let ready = ready_follows P S n w v r g in
      and_well P S v (AreOf S h.1) (λ v r. FitsResult S v None r) (evaluate_all (world P S objects) C f args v) _
      (evaluate_all_well P well S objects n C fit locals variables args v a f h.1 ready (frame_grows S w v g.grows locals variables a f fits) h.4) (λ xs u e fill.
      subst (λ o. Well P S u (λ v r. FitsResult S v o r) (call_on (world P S objects) C at c i x xs u)) h.6
      (call_well P well S objects n C fit u at c i h.0 x xs (ready_follows P S n v u ready e) h.3 (refers_grows S v u e.grows (kind.Class c) x q) (fill_fits S u h.1 h.0.formals xs fill h.5))))
  perform_well e w a f r fits h = absurd h
