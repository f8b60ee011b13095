-- Calls come to a result that fits, or to a fault, however many are within each other or behind each other.
use Rattle.std.proofs.Common.{◌≡◌, ℕ, zero, suc, ◌+◌, ◌-◌, ◌≤◌, ◌==◌, Bool, true, false, List, [], ◌∷◌, ◌++◌, length, replicate, Option, Some, None, slice_get, if◌then◌else◌, pos, refl, subst, arith, length-append}
use Rattle.std.proofs.lemmas.Bool.{eqb-true}
use Rattle.std.proofs.lemmas.List.{length-replicate}
use Rattle.bc_data.specs.declared.program.Shape.{Shape}
use Rattle.bc_data.specs.declared.program.Shape.TheVariants as shape
use Rattle.bc_data.specs.declared.run.Value.{Value}
use Rattle.bc_data.specs.declared.run.Value.TheVariants as value
use Rattle.bc_data.specs.Typed.{TypedMethod, TypedProgram}
use Rattle.bc_data.specs.TypedBodies.{Assigned, InMethod, shape_of_slot, surely_leave}
use Rattle.bc_data.specs.WellTyped.{IsWellTyped, IsMethod, slots_from, method_start}
use Rattle.bc_mean.specs.declared.plain.Plain.{Plain}
use Rattle.bc_mean.specs.Work.{Work, enter}
use Rattle.bc_mean.specs.Execute.{Flow, Goes, Returns, Leaves, execute_all, returned, method_frame, calls}
use Rattle.bc_law_soundness.specs.Fitting.{Shaped, Fill, FitsWork, Ready, Well}
use Rattle.bc_law_soundness.specs.Frames.{FitsFrame, FitsFlow, FitsResult, IsCallable, CallsFit}
use Rattle.bc_law_soundness.proofs.Calling.{world}
use Rattle.bc_law_soundness.proofs.Cells.{fill_length}
use Rattle.bc_law_soundness.proofs.Growing.{fill_grows}
use Rattle.bc_law_soundness.proofs.Lists.{stays}
use Rattle.bc_law_soundness.proofs.Statements.{setting, execute_all_well}
use Rattle.bc_law_soundness.proofs.Steps.{and_well, enter_well, stays_here}

-- values of shapes stand in the slots from a number on
pub slot_at :
    (S : Plain) (w : Work) (from : ℕ) (shs : List Shape) (xs : List Value) (slot : ℕ) (sh : Shape) → Fill S w shs xs → shape_of_slot (slots_from from shs) slot ≡ Some sh
    → (i : ℕ) × (x : Value) × (from + i ≡ slot) × (slice_get xs i ≡ Some x) × Shaped S w sh x
slot_at S w from [] [] slot sh h at = cc
slot_at S w from [] (x ∷ xs) slot sh h at = absurd h
slot_at S w from (u ∷ shs) [] slot sh h at = absurd h
slot_at S w from (u ∷ shs) (x ∷ xs) slot sh h at = either (from == slot) refl (λ e. slot_at S w (from + 1) shs xs slot sh h.1 e) at
  where
    either :
        (t : Bool) → (from == slot) ≡ t
        → (shape_of_slot (slots_from (from + 1) shs) slot ≡ Some sh → (i : ℕ) × (y : Value) × (from + 1 + i ≡ slot) × (slice_get xs i ≡ Some y) × Shaped S w sh y)
        → (if t then Some u else shape_of_slot (slots_from (from + 1) shs) slot) ≡ Some sh
        → (i : ℕ) × (y : Value) × (from + i ≡ slot) × (slice_get (x ∷ xs) i ≡ Some y) × Shaped S w sh y
    either true e later at =
        let here = eqb-true from slot e in
        (zero, x, omega arith, refl, subst (λ u. Shaped S w u x) (let same : u ≡ sh = cc in same) h.0)
    either false e later at =
        let found = later at in
        let place = found.2 in
        (suc found.0, found.1, omega arith, found.3, found.4)

pub padded : {A : Type 0} (xs : List A) (n : ℕ) (x : A) → length xs ≤ n → length (xs ++ replicate (n - length xs) x) ≡ n
padded xs n x few =
    let one = length-append xs (replicate (n - length xs) x) in
    let two = length-replicate (n - length xs) x in
    omega arith

module _ (P : TypedProgram) (S : Plain) where
  -- `this` and the arguments stand in the first slots of a method
  method_fits : (w : Work) (m : TypedMethod) (xs : List Value) (call : IsCallable P S w m xs) → FitsFrame S w m.locals 0 (method_start call.me m) (method_frame m xs)
  method_fits w m xs call =
      let size = fill_length S w (shape.Class call.me ∷ m.formals) xs call.values in
      let below = call.method.slots in
      record {
        slots = λ slot sh at.
            let found = slot_at S w 0 (shape.Class call.me ∷ m.formals) xs slot sh call.values at in
            let place = found.2 in
            let here : found.0 ≡ slot = omega arith in
            (found.1, subst (λ i. slice_get (xs ++ replicate (m.locals - length xs) (value.Int (pos 0))) i ≡ Some found.1) here (stays xs _ found.0 found.1 found.3), found.4);
        tags = λ v at. let none = at.1 in absurd (omega arith);
        all_slots = padded xs m.locals (value.Int (pos 0)) (omega arith);
        all_tags = refl;
      }

  result_of :
      (w : Work) (me : ℕ) (m : TypedMethod) (b : Assigned) (fl : Flow) → IsMethod P me m → FitsWork P S w
      → FitsFlow S (setting P (InMethod m.result) m.locals 0) b (surely_leave m.body) w fl
      → Well P S w (λ v r. FitsResult S v m.result r) (returned fl w)
  result_of w me m b (Goes f) typed h q = stays_here P S w (λ v r. FitsResult S v m.result r) None h (none m.result refl)
    where
      none : (o : Option Shape) → m.result ≡ o → FitsResult S w o None
      none None e = tt
      none (Some sh) e = let leaves = typed.leaves sh e in let goes = q.0 in cc
  result_of w me m b (Returns r) typed h q =
      let same : q.0 ≡ m.result = let one = q.1 in cc in
      stays_here P S w (λ v r. FitsResult S v m.result r) r h (subst (λ o. FitsResult S w o r) same q.2)
  result_of w me m b Leaves typed h q = let other = q.1 in cc

pub calls_fit : (P : TypedProgram) (well : IsWellTyped P) (S : Plain) (objects : List ℕ) (n depth : ℕ) → CallsFit P S n (calls (world P S objects) n depth)
calls_fit P well S objects zero depth at m xs w r call =
    and_well P S w (λ v u. suc v.turns ≤ w.turns) (λ v r. FitsResult S v m.result r) (enter at depth w) _ (enter_well P S w at depth r.fits)
    (λ x v f fewer. let few = r.turns in absurd (omega arith))
calls_fit P well S objects (suc n) depth at m xs w r call =
    and_well P S w (λ v u. suc v.turns ≤ w.turns) (λ v r. FitsResult S v m.result r) (enter at depth w) _ (enter_well P S w at depth r.fits) (λ x v f fewer.
    let few = r.turns in
    let ready : Ready P S n v = record { fits = f.fits; turns = omega arith } in
    let later : IsCallable P S v m xs = record { me = call.me; method = call.method; values = fill_grows S w v f.grows (shape.Class call.me ∷ m.formals) xs call.values } in
    and_well P S v (FitsFlow S (setting P (InMethod m.result) m.locals 0) call.method.behind (surely_leave m.body)) (λ v r. FitsResult S v m.result r)
    (execute_all (world P S objects) (calls (world P S objects) n (depth + 1)) n (method_frame m xs) m.body v) _
    (execute_all_well P well S objects n (calls (world P S objects) n (depth + 1)) (calls_fit P well S objects n (depth + 1)) (InMethod m.result) tt m.locals 0
    m.body v (method_start call.me m) call.method.behind (method_frame m xs) ready (method_fits P S v m xs later) call.method.body)
    (λ fl u g q. result_of P S u call.me m call.method.behind fl call.method g.fits q))
