-- Calls: what is reached, the turn and the depth, and the new slots.
use Rattle.std.proofs.Common.{◌≡◌, ℕ, suc, ◌+◌, ◌-◌, ◌<◌, ◌≤◌, Bool, true, false, List, [], ◌∷◌, ◌++◌, length, take, drop, reverse, pos, refl, ap, ◌∙◌, sym, subst, arith, Option, Some, None}
use Rattle.std.specs.Prelude.{if◌then◌else◌, ◌==◌, nat_lt, replicate, slice_get, option_map, Result, Ok, Err}
use Rattle.std.specs.List.{list_any}
use Rattle.std.proofs.lemmas.List.{length-reverse}
use Rattle.std.proofs.lemmas.Bool.{le-ltb, lt-ltb}
use Rattle.std.proofs.Math.Seq.{take-append_seam, drop-append_seam}
use Rattle.bc_data.specs.declared.run.Body.{Body}
use Rattle.bc_data.specs.declared.run.FaultKind.TheVariants as fault
use Rattle.bc_data.specs.declared.run.Place.{Place}
use Rattle.bc_data.specs.declared.run.TagRef.{TagRef}
use Rattle.bc_data.specs.declared.run.Value.{Value}
use Rattle.bc_data.specs.declared.run.Value.TheVariants as value
use Rattle.bc_data.specs.declared.run.Written.{Written}
use Rattle.bc_mean.specs.Work.{Look, Work, Gives, Reached, OldObject, and_then, faults, newest, reach, seen, take_turn, enter, touch}
use Rattle.bc_code.specs.declared.code.Unit.{Unit as CodeUnit}
use Rattle.bc_code.specs.declared.code.Code.{Code}
use Rattle.bc_code.specs.Instructions.{Did, On, Stuck, goes, behind, called, enter_unit}
use Rattle.bc_step.specs.declared.state.Call.{Call}
use Rattle.bc_step.specs.declared.state.State.{State}
use Rattle.bc_step.specs.Area.{AreaParts, work_with}
use Rattle.bc_step.specs.State.{activation, activations, state_with}
use Rattle.bc_step.specs.declared.state.Did.{Did as Answer}
use Rattle.bc_step.specs.Control.{Moves, Opens}
use Rattle.bc_step.proofs.Stacks.{more_turned}

pub mapped_none : {A B : Type 0} (f : A → B) (o : Option A) → None ≡ option_map f o → o ≡ None
mapped_none f None e = refl
mapped_none f (Some x) e = absurd (cc)

pub mapped_some : {A B : Type 0} (f : A → B) (o : Option A) (b : B) → Some b ≡ option_map f o → (x : A) × (o ≡ Some x) × (b ≡ f x)
mapped_some f None b e = absurd (cc)
mapped_some f (Some x) b e = (x, refl, cc)

touched_by : (b : Bool) (id : ℕ) (a : AreaParts) (turns : ℕ) (cs : List Written) (ts : List ℕ) → list_any (λ other. other == id) ts ≡ b → (us : List ℕ) × (touch id (work_with a turns cs ts) ≡ work_with a turns cs us)
touched_by true id a turns cs ts e = (ts, rw e refl)
touched_by false id a turns cs ts e = (ts ++ id ∷ [], rw e refl)

pub touched : (id : ℕ) (a : AreaParts) (turns : ℕ) (cs : List Written) (ts : List ℕ) → (us : List ℕ) × (touch id (work_with a turns cs ts) ≡ work_with a turns cs us)
touched id a turns cs ts = touched_by (list_any (λ other. other == id) ts) id a turns cs ts refl

activations_long : (cs : List Call) (slots : List Value) (tags : List TagRef) → length (activations cs slots tags) ≡ length cs
activations_long [] slots tags = refl
activations_long (c ∷ cs) slots tags = ap suc (activations_long cs (take c.base slots) tags)

-- how many calls there are around the current one
pub depth : (s : State) (a : AreaParts) (cs : List Written) (ts : List ℕ) → length (state_with s a cs ts).callers ≡ length s.callers.items
depth s a cs ts = activations_long (reverse s.callers.items) (take s.current.base s.slots.items) s.tags.items ∙ length-reverse s.callers.items

module _ (at : Place) (d : ℕ) (a : AreaParts) (cs : List Written) (ts : List ℕ) (turns : ℕ) where
  pub enter_turns : turns ≡ 0 → enter at d (work_with a turns cs ts) ≡ faults fault.Turns at (work_with a turns cs ts)
  enter_turns e = ap (λ n. and_then (take_turn at n (work_with a turns cs ts)) (λ _ v. if nat_lt d 100 then Gives (tt {0}) v else faults fault.Depth at v)) e

  enter_by : (n : ℕ) (b : Bool) → turns ≡ suc n → nat_lt d 100 ≡ b → enter at d (work_with a turns cs ts) ≡ (if b then Gives (tt {0}) (work_with a n cs ts) else faults fault.Depth at (work_with a n cs ts))
  enter_by n b e t =
      ap (λ n. and_then (take_turn at n (work_with a turns cs ts)) (λ _ v. if nat_lt d 100 then Gives (tt {0}) v else faults fault.Depth at v)) e
      ∙ ap (λ b. if b then Gives (tt {0}) (work_with a n cs ts) else faults fault.Depth at (work_with a n cs ts)) t

  pub enter_deep : (n : ℕ) → turns ≡ suc n → 100 ≤ d → enter at d (work_with a turns cs ts) ≡ faults fault.Depth at (work_with a n cs ts)
  enter_deep n e h = enter_by n false e (le-ltb _ _ h)

  pub enter_in : (n : ℕ) → turns ≡ suc n → d < 100 → enter at d (work_with a turns cs ts) ≡ Gives (tt {0}) (work_with a n cs ts)
  enter_in n e h = enter_by n true e (lt-ltb _ _ h)

module _ (s : State) (a : AreaParts) (cs : List Written) (ts : List ℕ) (code : Code) (at : Place) (unit : Option ℕ) (xs st : List Value) (turns : ℕ) (more : s.turns ≡ suc turns) (few : length s.callers.items < 100) where
  abbrev opening : Option ℕ → Work → Did
  opening u w = called code u xs (behind (state_with s a cs ts) ∷ (state_with s a cs ts).callers) st w

  pub entered : goes (enter at (length (state_with s a cs ts).callers) (state_with s a cs ts).work) (λ _ w. opening unit w) ≡ opening unit (work_with a turns cs ts)
  entered =
      let shallow : length (state_with s a cs ts).callers < 100 = omega (arith, depth s a cs ts, few) in
      ap (λ g. goes g (λ _ w. opening unit w)) (enter_in at (length (state_with s a cs ts).callers) a cs ts s.turns turns more shallow)

  pub no_unit : unit ≡ None → goes (enter at (length (state_with s a cs ts).callers) (state_with s a cs ts).work) (λ _ w. opening unit w) ≡ Stuck
  no_unit e = entered ∙ ap (λ u. opening u (work_with a turns cs ts)) e

  pub no_code : (n : ℕ) → unit ≡ Some n → slice_get code.units n ≡ None → goes (enter at (length (state_with s a cs ts).callers) (state_with s a cs ts).work) (λ _ w. opening unit w) ≡ Stuck
  no_code n e none =
      entered
      ∙ ap (λ u. opening u (work_with a turns cs ts)) e
      ∙ ap (λ u. enter_unit n u xs (behind (state_with s a cs ts) ∷ (state_with s a cs ts).callers) st (work_with a turns cs ts)) none

  pub opens : (n base : ℕ) (u : CodeUnit) (callers : List Call) (slots : List Value) → unit ≡ Some n → slice_get code.units n ≡ Some u
      → callers ≡ s.callers.items ++ record (s.current) { next = s.current.next + 1 } ∷ [] → base ≡ length s.slots.items → slots ≡ s.slots.items ++ (xs ++ replicate (u.locals - length xs) (value.Int (pos 0)))
      → goes (enter at (length (state_with s a cs ts).callers) (state_with s a cs ts).work) (λ _ w. opening unit w)
      ≡ On (record {
        current = activation (record { unit = n; next = 0; base = base }) (reverse callers) slots s.tags.items;
        callers = activations (reverse callers) (take base slots) s.tags.items;
        stack = st;
        work = work_with a turns cs ts;
      })
  opens n base u callers slots e some pushed long filled =
      let own = xs ++ replicate (u.locals - length xs) (value.Int (pos 0)) in
      let caller : Call = record (s.current) { next = s.current.next + 1 } in
      let around : reverse callers ≡ caller ∷ reverse s.callers.items = ap reverse pushed ∙ more_turned s.callers.items caller in
      let below : take base slots ≡ s.slots.items = ap (λ n. take n slots) long ∙ ap (take (length s.slots.items)) filled ∙ take-append_seam s.slots.items own in
      let above : drop base slots ≡ own = ap (λ n. drop n slots) long ∙ ap (drop (length s.slots.items)) filled ∙ drop-append_seam s.slots.items own in
      entered
      ∙ ap (λ u. opening u (work_with a turns cs ts)) e
      ∙ ap (λ u. enter_unit n u xs (behind (state_with s a cs ts) ∷ (state_with s a cs ts).callers) st (work_with a turns cs ts)) some
      ∙ rw around (rw below (rw above refl))

pub reached : (L : Look) (at : Place) (x : Value) (id : ℕ) (a : AreaParts) (turns : ℕ) (cs : List Written) (ts : List ℕ) (b : Body) → x ≡ value.Old id → L id ≡ Some b
    → (o : Reached) × (us : List ℕ) × (reach L at x (work_with a turns cs ts) ≡ Gives o (work_with a turns cs us))
reached L at x id a turns cs ts b is known =
    let w = work_with a turns cs ts in
    let work = touched id a turns cs ts in (
      record { object = OldObject id; body = newest cs id b },
      work.0,
      ap (λ y. reach L at y w) is ∙ ap (λ o. seen id o (touch id w)) known ∙ ap (seen id (Some b)) work.1,
    )

-- the turn and the depth of a call, and then its unit
abbrev pub call_of : State → AreaParts → List Written → List ℕ → Code → Place → Option ℕ → List Value → List Value → Did
call_of s a cs ts code at unit xs st =
    goes (enter at (length (state_with s a cs ts).callers) (state_with s a cs ts).work) (λ _ w. called code unit xs (behind (state_with s a cs ts) ∷ (state_with s a cs ts).callers) st w)

module _ (s t : State) (a : AreaParts) (cs : List Written) (d : List Value → Did) where
  -- the stack of the state that a call made is this one now
  pub opened : (o : Result (Unit {0}) (Option Answer)) (x : Unit {0}) → o ≡ Ok x → Opens o s t a cs d → (e : Did) (st items : List Value) → e ≡ d st → st ≡ reverse items → (us : List ℕ) × (e ≡ On (record (state_with t a cs us) { stack = reverse items }))
  opened o x is h e st items rule same =
      let done = subst (λ (o : Result (Unit {0}) (Option Answer)). Opens o s t a cs d) is h in
      (done.0, rule ∙ done.1 st ∙ ap (λ z. On (record (state_with t a cs done.0) { stack = z })) same)

  pub not_opened : (o : Result (Unit {0}) (Option Answer)) (did : Option Answer) → o ≡ Err did → Opens o s t a cs d → (e : Did) (st : List Value) → e ≡ d st → Moves did s t a cs e
  not_opened o did is h e st rule =
      let answers = subst (λ (o : Result (Unit {0}) (Option Answer)). Opens o s t a cs d) is h in subst (Moves did s t a cs) (sym rule) (answers st)
