-- Statements that are typed end as they may, in a frame that fits what has been set behind them.
use Rattle.std.proofs.Common.{◌≡◌, ℕ, zero, suc, ◌<◌, ◌≤◌, ◌&&◌, Bool, true, false, List, length, Some, None, refl, sym, subst, arith}
use Rattle.std.proofs.lemmas.Bool.{and_left, and_right}
use Rattle.bc_data.specs.declared.program.Shape.TheVariants as shape
use Rattle.bc_data.specs.declared.run.Kind.TheVariants as kind
use Rattle.bc_data.specs.declared.run.Place.{Place}
use Rattle.bc_data.specs.declared.run.TagRef.TheVariants as tag
use Rattle.bc_data.specs.declared.run.Value.{Value}
use Rattle.bc_data.specs.Typed.{TypedStatement, Set, NewTag, SetField, SetElem, Drop, Perform, If, While, Return, Print, Assert, Exit, Block, TypedStatements, Nothing, Then, TypedProgram}
use Rattle.bc_data.specs.TypedBodies.{Assigned, Around, Setting, IsTyped, AreTyped, surely_leaves, surely_leave, assign_tag}
use Rattle.bc_data.specs.WellTyped.{IsWellTyped}
use Rattle.bc_mean.specs.declared.plain.Plain.{Plain}
use Rattle.bc_mean.specs.Work.{Work, Got, Gives, Stops, Wrong, look_of, reach, turn, make_instance}
use Rattle.bc_mean.specs.Evaluate.{Frame, Calls, evaluate}
use Rattle.bc_mean.specs.Execute.{Flow, Goes, Returns, Leaves, print_parts, act_all, perform, goes_on, if_goes, round, loop, set_slot, set_tag, write_cell, assert_true, execute, execute_all}
use Rattle.bc_law_soundness.specs.Fitting.{FitsWork, Ready, Well}
use Rattle.bc_law_soundness.specs.Frames.{FitsFrame, FitsFlow, FitsResult, CallsFit, AreParameters}
use Rattle.bc_law_soundness.proofs.Acting.{Done, assert_well, print_well, act_all_well, perform_well}
use Rattle.bc_law_soundness.proofs.Arrays.{set_field_well, set_element_well}
use Rattle.bc_law_soundness.proofs.Assigning.{Extends, statements_extend, frame_narrows, set_slot_fits, set_tag_fits}
use Rattle.bc_law_soundness.proofs.Calling.{world}
use Rattle.bc_law_soundness.proofs.Cells.{shaped_fits, refers_to}
use Rattle.bc_law_soundness.proofs.Expressions.{evaluate_well}
use Rattle.bc_law_soundness.proofs.Growing.{frame_grows, ready_follows, refers_grows, shaped_grows}
use Rattle.bc_law_soundness.proofs.Objects.{IsReached, make_instance_well, reach_well}
use Rattle.bc_law_soundness.proofs.Operators.{IsOf, index_then}
use Rattle.bc_law_soundness.proofs.Steps.{and_well, choose_well, stays_here, turn_well, weaker}

-- where a body stands in a program
abbrev pub setting : TypedProgram → Around → ℕ → ℕ → Setting
setting P around locals variables = record { classes = P.classes; tag_types = length P.tag_types; around = around; locals = locals; tags = variables }

module _ (P : TypedProgram) (S : Plain) (around : Around) (locals variables : ℕ) where
  -- the end of a statement of a block is one of the block
  pub flow_narrows :
      (w : Work) (a b : Assigned) (leaves left : Bool) (fl : Flow) → Extends a b → (leaves ≡ false → left ≡ false)
      → FitsFlow S (setting P around locals variables) b leaves w fl → FitsFlow S (setting P around locals variables) a left w fl
  flow_narrows w a b leaves left (Goes f) e h q = (h q.0, frame_narrows S w locals variables a b f e q.1)
  flow_narrows w a b leaves left (Returns r) e h q = q
  flow_narrows w a b leaves left Leaves e h q = q

  pub goes_well : {A : Type 0} (w : Work) (Q : Work → A → Type 0) (a : Assigned) (f : Frame) (g : Got A) → FitsFrame S w locals variables a f → Well P S w Q g → Well P S w (FitsFlow S (setting P around locals variables) a false) (goes_on f g)
  goes_well w Q a f g fits h =
      and_well P S w Q (FitsFlow S (setting P around locals variables) a false) g _ h
      (λ x v e q. stays_here P S v (FitsFlow S (setting P around locals variables) a false) (Goes f) e.fits (refl, frame_grows S w v e.grows locals variables a f fits))

  if_goes_well :
      (w : Work) (c b : Assigned) (leaves left : Bool) (go : Frame → Work → Got Flow) (fl : Flow) → FitsWork P S w → FitsFlow S (setting P around locals variables) c leaves w fl
      → ((g : Frame) → FitsFrame S w locals variables c g → Well P S w (FitsFlow S (setting P around locals variables) b left) (go g w))
      → Well P S w (FitsFlow S (setting P around locals variables) b left) (if_goes go fl w)
  if_goes_well w c b leaves left go (Goes f) h q k = k f q.1
  if_goes_well w c b leaves left go (Returns r) h q k = stays_here P S w (FitsFlow S (setting P around locals variables) b left) (Returns r) h q
  if_goes_well w c b leaves left go Leaves h q k = stays_here P S w (FitsFlow S (setting P around locals variables) b left) Leaves h q

  module _ (n : ℕ) (at : Place) (a c : Assigned) (leaves : Bool) (extends : Extends a c) (test : Frame → Work → Got Value) (body : Frame → Work → Got Flow)
      (tests : (f : Frame) (w : Work) → Ready P S n w → FitsFrame S w locals variables a f → Well P S w (IsOf S shape.Bool) (test f w))
      (runs : (f : Frame) (w : Work) → Ready P S n w → FitsFrame S w locals variables a f → Well P S w (FitsFlow S (setting P around locals variables) c leaves) (body f w)) where
    round_well :
        (again : Frame → Work → Got Flow) (f : Frame) (w : Work) → Ready P S n w → FitsFrame S w locals variables a f
        → ((g : Frame) (v : Work) → Ready P S n v → suc v.turns ≤ w.turns → FitsFrame S v locals variables a g → Well P S v (FitsFlow S (setting P around locals variables) a false) (again g v))
        → Well P S w (FitsFlow S (setting P around locals variables) a false) (round at test body again f w)
    round_well again f w r fits k =
        and_well P S w (IsOf S shape.Bool) (FitsFlow S (setting P around locals variables) a false) (test f w) _ (tests f w r fits) (λ x v g truth.
        let ready = ready_follows P S n w v r g in
        let there = frame_grows S w v g.grows locals variables a f fits in
        choose_well P S v (FitsFlow S (setting P around locals variables) a false) x _ (Gives (Goes f)) truth
        (and_well P S v (λ u x. suc u.turns ≤ v.turns) (FitsFlow S (setting P around locals variables) a false) (turn at v) _ (turn_well P S v at g.fits) (λ y u e fewer.
        let later = ready_follows P S n v u ready e in
        and_well P S u (FitsFlow S (setting P around locals variables) c leaves) (FitsFlow S (setting P around locals variables) a false) (body f u) _
        (runs f u later (frame_grows S v u e.grows locals variables a f there)) (λ fl t d q.
        if_goes_well t c a leaves false again fl d.fits q (λ h inner.
        let less : suc t.turns ≤ w.turns = let one = d.turns in let two = fewer in let three = g.turns in omega arith in
        k h t (ready_follows P S n u t later d) less (frame_narrows S t locals variables a c h extends inner)))))
        (stays_here P S v (FitsFlow S (setting P around locals variables) a false) (Goes f) g.fits (refl, there)))

    pub loop_well :
        (k : ℕ) (f : Frame) (w : Work) → w.turns ≤ k → Ready P S n w → FitsFrame S w locals variables a f
        → Well P S w (FitsFlow S (setting P around locals variables) a false) (loop k at test body f w)
    loop_well zero f w few r fits = round_well (λ f w. Stops Wrong w) f w r fits (λ g v ready less inner. absurd (omega arith))
    loop_well (suc k) f w few r fits = round_well (loop k at test body) f w r fits (λ g v ready less inner. loop_well k g v (omega arith) ready inner)

module _ (P : TypedProgram) (well : IsWellTyped P) (S : Plain) (objects : List ℕ) (n : ℕ) (C : Calls) (fit : CallsFit P S n C) (around : Around) (there : AreParameters S objects around) (locals variables : ℕ) where
  -- the ends that a statement may have
  abbrev Ends : Assigned → Bool → Work → Flow → Type 0
  Ends b leaves w fl = FitsFlow S (setting P around locals variables) b leaves w fl

  -- an end where as much was set as before
  same_ends : (w : Work) (a b : Assigned) (leaves : Bool) (g : Got Flow) → b ≡ a → Well P S w (Ends a leaves) g → Well P S w (Ends b leaves) g
  same_ends w a b leaves g e h = subst (λ b. Well P S w (Ends b leaves) g) (sym e) h

  -- a block ends as its statements do
  block_ends : (w : Work) (a c : Assigned) (leaves left : Bool) (g : Got Flow) → Extends a c → (leaves ≡ false → left ≡ false) → Well P S w (Ends c leaves) g → Well P S w (Ends a left) g
  block_ends w a c leaves left g e k h = weaker P S w (Ends c leaves) (Ends a left) g h (λ fl v f q. flow_narrows P S around locals variables v a c leaves left fl e k q)

  mutual
    pub execute_well :
        (s : TypedStatement) (w : Work) (a b : Assigned) (f : Frame) → Ready P S n w → FitsFrame S w locals variables a f → IsTyped (setting P around locals variables) a s b
        → Well P S w (Ends b (surely_leaves s)) (execute (world P S objects) C n f s w)
    execute_well (Set slot e) w a b f r fits h =
        and_well P S w (IsOf S h.0) (Ends b false) (evaluate (world P S objects) C f e w) _ (evaluate_well P well S objects n C fit locals variables e w a f h.0 r fits h.2) (λ x v g q.
        stays_here P S v (Ends b false) (Goes (set_slot f slot x)) g.fits
        (refl, set_slot_fits S v locals variables (setting P around locals variables) a b f slot h.1 x refl (frame_grows S w v g.grows locals variables a f fits) h.4 (shaped_fits S v h.0 h.1 x q h.3)))
    execute_well (NewTag at variable tag_type) w a b f r fits h =
        same_ends w (assign_tag a variable) b false _ h.4
        (and_well P S w (λ v i. i < length v.instances) (Ends (assign_tag a variable) false) (make_instance at tag_type w) _ (make_instance_well P S w at tag_type r.fits h.2) (λ i v g q.
        stays_here P S v (Ends (assign_tag a variable) false) (Goes (set_tag f variable (tag.New i))) g.fits
        (refl, set_tag_fits S v locals variables a f variable (tag.New i) (frame_grows S w v g.grows locals variables a f fits) h.3 q)))
    execute_well (SetField at object i e) w a b f r fits h =
        same_ends w a b false _ h.7
        (and_well P S w (IsOf S (shape.Class h.0)) (Ends a false) (evaluate (world P S objects) C f object w) _ (evaluate_well P well S objects n C fit locals variables object w a f (shape.Class h.0) r fits h.3) (λ x v g q.
        let frame = frame_grows S w v g.grows locals variables a f fits in
        and_well P S v (IsOf S h.1) (Ends a false) (evaluate (world P S objects) C f e v) _ (evaluate_well P well S objects n C fit locals variables e v a f h.1 (ready_follows P S n w v r g) frame h.5) (λ y u d p.
        and_well P S u (IsReached P S (kind.Class h.0)) (Ends a false) (reach (look_of S) at x u) _ (reach_well P S u (kind.Class h.0) at x d.fits (refers_grows S v u d.grows (kind.Class h.0) x q)) (λ o t c reached.
        goes_well P S around locals variables t Done a f (write_cell o i y t) (frame_grows S u t c.grows locals variables a f (frame_grows S v u d.grows locals variables a f frame))
        (set_field_well P S t h.0 o i h.2 y c.fits reached h.4 (shaped_grows S u t c.grows h.2 y (shaped_fits S u h.1 h.2 y p h.6)))))))
    execute_well (SetElem at array index e) w a b f r fits h =
        same_ends w a b false _ h.8
        (and_well P S w (IsOf S h.0) (Ends a false) (evaluate (world P S objects) C f array w) _ (evaluate_well P well S objects n C fit locals variables array w a f h.0 r fits h.3) (λ x v g q.
        let k = refers_to S v h.0 h.2 h.5 in
        let frame = frame_grows S w v g.grows locals variables a f fits in
        let ready = ready_follows P S n w v r g in
        and_well P S v (IsOf S shape.Int) (Ends a false) (evaluate (world P S objects) C f index v) _ (evaluate_well P well S objects n C fit locals variables index v a f shape.Int ready frame h.4) (λ i u d number.
        let later = frame_grows S v u d.grows locals variables a f frame in
        and_well P S u (IsOf S h.1) (Ends a false) (evaluate (world P S objects) C f e u) _ (evaluate_well P well S objects n C fit locals variables e u a f h.1 (ready_follows P S n v u ready d) later h.6) (λ y t c p.
        and_well P S t (IsReached P S k.0) (Ends a false) (reach (look_of S) at x t) _
        (reach_well P S t k.0 at x c.fits (refers_grows S u t c.grows k.0 x (refers_grows S v u d.grows k.0 x (k.1 x q)))) (λ o s l reached.
        index_then P S s (Ends a false) at o.body i _ number (λ j z there.
        goes_well P S around locals variables s Done a f (write_cell o j y s) (frame_grows S t s l.grows locals variables a f (frame_grows S u t c.grows locals variables a f later))
        (set_element_well P S s k.0 o h.2 j y l.fits reached k.2 (shaped_grows S t s l.grows h.2 y (shaped_fits S t h.1 h.2 y p h.7)))))))))
    execute_well (Drop e) w a b f r fits h =
        same_ends w a b false _ h.2
        (goes_well P S around locals variables w (IsOf S h.0) a f (evaluate (world P S objects) C f e w) fits (evaluate_well P well S objects n C fit locals variables e w a f h.0 r fits h.1))
    execute_well (Perform e) w a b f r fits h =
        same_ends w a b false _ h.1
        (goes_well P S around locals variables w (λ v r. FitsResult S v None r) a f (perform (world P S objects) C f e w) fits (perform_well P well S objects n C fit locals variables e w a f r fits h.0))
    execute_well (If test body other) w a b f r fits h =
        let leaves = surely_leave body && surely_leave other in
        same_ends w a b leaves _ h.5
        (and_well P S w (IsOf S shape.Bool) (Ends a leaves) (evaluate (world P S objects) C f test w) _ (evaluate_well P well S objects n C fit locals variables test w a f shape.Bool r fits h.2) (λ x v g q.
        let frame = frame_grows S w v g.grows locals variables a f fits in
        let ready = ready_follows P S n w v r g in
        choose_well P S v (Ends a leaves) x _ _ q
        (block_ends v a h.0 (surely_leave body) leaves _ (statements_extend (setting P around locals variables) body a h.0 h.3) (λ e. and_left _ _ e) (execute_all_well body v a h.0 f ready frame h.3))
        (block_ends v a h.1 (surely_leave other) leaves _ (statements_extend (setting P around locals variables) other a h.1 h.4) (λ e. and_right _ _ e) (execute_all_well other v a h.1 f ready frame h.4))))
    execute_well (While at test body) w a b f r fits h =
        same_ends w a b false _ h.3
        (loop_well P S around locals variables n at a h.0 (surely_leave body) (statements_extend (setting P around locals variables) body a h.0 h.2)
        (λ g v. evaluate (world P S objects) C g test v) (λ g v. execute_all (world P S objects) C n g body v)
        (λ g v ready frame. evaluate_well P well S objects n C fit locals variables test v a g shape.Bool ready frame h.1)
        (λ g v ready frame. execute_all_well body v a h.0 g ready frame h.2) n f w r.turns r fits)
    execute_well (Return None) w a b f r fits h = stays_here P S w (Ends b true) (Returns None) r.fits (None, h.0, tt)
    execute_well (Return (Some e)) w a b f r fits h =
        and_well P S w (IsOf S h.0) (Ends b true) (evaluate (world P S objects) C f e w) _ (evaluate_well P well S objects n C fit locals variables e w a f h.0 r fits h.2) (λ x v g q.
        stays_here P S v (Ends b true) (Returns (Some x)) g.fits (Some h.1, h.3, shaped_fits S v h.0 h.1 x q h.4))
    execute_well (Print at parts) w a b f r fits h =
        same_ends w a b false _ h.1
        (goes_well P S around locals variables w Done a f (print_parts (world P S objects) C f at parts w) fits (print_well P well S objects n C fit locals variables parts w a f at r fits h.0))
    execute_well (Assert at e) w a b f r fits h =
        same_ends w a b false _ h.1
        (and_well P S w (IsOf S shape.Bool) (Ends a false) (evaluate (world P S objects) C f e w) _ (evaluate_well P well S objects n C fit locals variables e w a f shape.Bool r fits h.0) (λ x v g q.
        goes_well P S around locals variables v Done a f (assert_true at x v) (frame_grows S w v g.grows locals variables a f fits) (assert_well P S v at x g.fits q)))
    execute_well (Exit changes) w a b f r fits h =
        and_well P S w Done (Ends b true) (act_all (world P S objects) f changes w) _
        (act_all_well P well S objects n C fit locals variables changes w h.0 a f r.fits fits (subst (AreParameters S objects) h.1 there) h.2)
        (λ x v g q. stays_here P S v (Ends b true) Leaves g.fits (h.0, h.1))
    execute_well (Block body) w a b f r fits h =
        same_ends w a b (surely_leave body) _ h.2
        (block_ends w a h.0 (surely_leave body) (surely_leave body) _ (statements_extend (setting P around locals variables) body a h.0 h.1) (λ e. e) (execute_all_well body w a h.0 f r fits h.1))

    pub execute_all_well :
        (ss : TypedStatements) (w : Work) (a b : Assigned) (f : Frame) → Ready P S n w → FitsFrame S w locals variables a f → AreTyped (setting P around locals variables) a ss b
        → Well P S w (Ends b (surely_leave ss)) (execute_all (world P S objects) C n f ss w)
    execute_all_well Nothing w a b f r fits h = same_ends w a b false _ h (stays_here P S w (Ends a false) (Goes f) r.fits (refl, fits))
    execute_all_well (Then front last) w a b f r fits h =
        and_well P S w (Ends h.0 (surely_leave front)) (Ends b (surely_leaves last)) (execute_all (world P S objects) C n f front w) _ (execute_all_well front w a h.0 f r fits h.1) (λ fl v g q.
        if_goes_well P S around locals variables v h.0 b (surely_leave front) (surely_leaves last) _ fl g.fits q
        (λ e frame. execute_well last v h.0 b e (ready_follows P S n w v r g) frame h.2))
