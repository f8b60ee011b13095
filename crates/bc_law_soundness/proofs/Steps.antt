-- What things come to, step by step.
use Rattle.std.proofs.Common.{◌≡◌, ℕ, zero, suc, ◌+◌, ◌≤◌, Bool, true, false, List, ◌++◌, length, Option, Some, nat_lt, nat_le, if◌then◌else◌, sym, subst, refl, arith, length-append}
use Rattle.std.proofs.lemmas.Bool.{leb-true}
use Rattle.bc_data.specs.declared.run.FaultKind.{FaultKind}
use Rattle.bc_data.specs.declared.run.FaultKind.TheVariants as fault
use Rattle.bc_data.specs.declared.run.Place.{Place}
use Rattle.bc_data.specs.declared.run.Value.{Value}
use Rattle.bc_data.specs.declared.run.Value.TheVariants as value
use Rattle.bc_data.specs.Typed.{TypedProgram}
use Rattle.bc_mean.specs.declared.plain.Plain.{Plain}
use Rattle.bc_mean.specs.Store.{IsBool}
use Rattle.bc_mean.specs.Work.{Work, Got, Gives, Stops, Faulted, Missing, Wrong, and_then, faults, known, choose, say, turn, take_turn, enter}
use Rattle.bc_law_soundness.specs.Fitting.{FitsWork, Follows, Well}
use Rattle.bc_law_soundness.proofs.Growing.{follows_refl, follows_trans, idle}

module _ (P : TypedProgram) (S : Plain) where
  pub gives : {A : Type 0} (w : Work) (Q : Work → A → Type 0) (x : A) (v : Work) → Follows P S w v → Q v x → Well P S w Q (Gives x v)
  gives w Q x v f q = record { well = (f, q) }

  -- what has come to a value already
  pub stays_here : {A : Type 0} (w : Work) (Q : Work → A → Type 0) (x : A) → FitsWork P S w → Q w x → Well P S w Q (Gives x w)
  stays_here w Q x h q = record { well = (follows_refl P S w h, q) }

  pub faulted : {A : Type 0} (w : Work) (Q : Work → A → Type 0) (k : FaultKind) (at : Place) (v : Work) → Well P S w Q (faults k at v)
  faulted w Q k at v = record { well = tt }

  -- one thing and then the next
  pub and_well : {A B : Type 0} (w : Work) (Q : Work → A → Type 0) (R : Work → B → Type 0) (g : Got A) (go : A → Work → Got B)
      → Well P S w Q g → ((x : A) (v : Work) → Follows P S w v → Q v x → Well P S v R (go x v)) → Well P S w R (and_then g go)
  and_well w Q R (Gives x v) go h k = later (go x v) (k x v h.well.0 h.well.1)
    where
      later : (r : Got _) → Well P S v R r → Well P S w R r
      later (Gives y u) i = record { well = (follows_trans P S w v u h.well.0 i.well.0, i.well.1) }
      later (Stops (Faulted e) u) i = record { well = tt }
      later (Stops (Missing id) u) i = absurd i.well
      later (Stops Wrong u) i = absurd i.well
  and_well w Q R (Stops (Faulted e) v) go h k = record { well = tt }
  and_well w Q R (Stops (Missing id) v) go h k = absurd h.well
  and_well w Q R (Stops Wrong v) go h k = absurd h.well

  -- a property that follows from another at each later work
  pub weaker : {A : Type 0} (w : Work) (Q R : Work → A → Type 0) (g : Got A) → Well P S w Q g → ((x : A) (v : Work) → Follows P S w v → Q v x → R v x) → Well P S w R g
  weaker w Q R (Gives x v) h k = record { well = (h.well.0, k x v h.well.0 h.well.1) }
  weaker w Q R (Stops (Faulted e) v) h k = record { well = tt }
  weaker w Q R (Stops (Missing id) v) h k = absurd h.well
  weaker w Q R (Stops Wrong v) h k = absurd h.well

  -- what goes well from a later work goes well from an earlier one
  pub earlier : {A : Type 0} (w v : Work) (Q : Work → A → Type 0) (g : Got A) → Follows P S w v → Well P S v Q g → Well P S w Q g
  earlier w v Q (Gives x u) f h = record { well = (follows_trans P S w v u f h.well.0, h.well.1) }
  earlier w v Q (Stops (Faulted e) u) f h = record { well = tt }
  earlier w v Q (Stops (Missing id) u) f h = absurd h.well
  earlier w v Q (Stops Wrong u) f h = absurd h.well

  pub known_well : {A : Type 0} (w : Work) (Q : Work → A → Type 0) (o : Option A) (x : A) → FitsWork P S w → o ≡ Some x → Q w x → Well P S w Q (known o w)
  known_well w Q o x h e q = subst (λ o. Well P S w Q (known o w)) (sym e) (stays_here w Q x h q)

  -- what is known, and then the next
  pub known_then : {A B : Type 0} (w : Work) (R : Work → B → Type 0) (o : Option A) (x : A) (go : A → Work → Got B) → o ≡ Some x → Well P S w R (go x w) → Well P S w R (and_then (known o w) go)
  known_then w R o x go e h = subst (λ o. Well P S w R (and_then (known o w) go)) (sym e) h

  pub choose_well : {A : Type 0} (w : Work) (Q : Work → A → Type 0) (x : Value) (one other : Work → Got A) → IsBool x → Well P S w Q (one w) → Well P S w Q (other w) → Well P S w Q (choose x one other w)
  choose_well w Q (value.Bool true) one other b h k = h
  choose_well w Q (value.Bool false) one other b h k = k
  choose_well w Q (value.Int n) one other b h k = absurd b
  choose_well w Q value.Null one other b h k = absurd b
  choose_well w Q (value.Old id) one other b h k = absurd b
  choose_well w Q (value.New n) one other b h k = absurd b

  pub say_well : (w : Work) (at : Place) (bytes : List ℕ) → FitsWork P S w → Well P S w (λ v u. Unit {0}) (say at bytes w)
  say_well w at bytes h = either (nat_le (length w.text + length bytes) 65536) refl
    where
      short : nat_le (length w.text + length bytes) 65536 ≡ true → length (w.text ++ bytes) ≤ 65536
      short e = subst (λ n. n ≤ 65536) (sym (length-append w.text bytes)) (leb-true (length w.text + length bytes) 65536 e)

      either : (b : Bool) → nat_le (length w.text + length bytes) 65536 ≡ b → Well P S w (λ v u. Unit {0}) (if b then Gives (tt {0}) (record w { text = w.text ++ bytes }) else faults fault.Text at w)
      either true e = gives w (λ v u. Unit {0}) tt (record w { text = w.text ++ bytes }) (idle P S w (w.text ++ bytes) w.turns w.touched h (short e) (omega arith)) tt
      either false e = faulted w (λ v u. Unit {0}) fault.Text at w

  -- Behind a turn one less is left.
  pub turn_well : (w : Work) (at : Place) → FitsWork P S w → Well P S w (λ v u. suc v.turns ≤ w.turns) (turn at w)
  turn_well w at h = left w.turns refl
    where
      left : (n : ℕ) → w.turns ≡ n → Well P S w (λ v u. suc v.turns ≤ w.turns) (take_turn at n w)
      left zero e = faulted w (λ v u. suc v.turns ≤ w.turns) fault.Turns at w
      left (suc n) e = gives w (λ v u. suc v.turns ≤ w.turns) tt (record w { turns = n }) (idle P S w w.text n w.touched h h.limits.text (omega arith)) (omega arith)

  pub enter_well : (w : Work) (at : Place) (depth : ℕ) → FitsWork P S w → Well P S w (λ v u. suc v.turns ≤ w.turns) (enter at depth w)
  enter_well w at depth h =
      and_well w (λ v u. suc v.turns ≤ w.turns) (λ v u. suc v.turns ≤ w.turns) (turn at w) _ (turn_well w at h) (λ x v f q. either v f q (nat_lt depth 100))
    where
      either : (v : Work) → Follows P S w v → suc v.turns ≤ w.turns → (b : Bool) → Well P S v (λ u x. suc u.turns ≤ w.turns) (if b then Gives (tt {0}) v else faults fault.Depth at v)
      either v f q true = stays_here v (λ u x. suc u.turns ≤ w.turns) tt f.fits q
      either v f q false = faulted v (λ u x. suc u.turns ≤ w.turns) fault.Depth at v
