-- The steps of the two walks, through objects and through instances.
use Rattle.std.proofs.Common.{◌≡◌, ℕ, zero, suc, ◌+◌, ◌<◌, ◌≤◌, Bool, false, List, [], ◌∷◌, ◌++◌, length, map, take, drop, get_or, Option, Some, None, sym, ap, ap₂, ◌∙◌, subst, append-nil, arith}
use Rattle.std.specs.Prelude.{slice_get, Result, Ok, Err, OnOk}
use Rattle.std.proofs.lemmas.List.{take_all}
use Rattle.bc_data.specs.declared.run.Invocation.{Invocation}
use Rattle.bc_mean.proofs.Lists.{pairs_from_chain}
use Rattle.bc_params_sets.specs.declared.place.Place.{Place}
use Rattle.bc_params_sets.specs.declared.place.TaskSets.{TaskSets}
use Rattle.bc_params_sets.specs.declared.tag_index.Binding.{Binding}
use Rattle.bc_params_sets.specs.Members.{IsRising}
use Rattle.bc_params_search.specs.Tuples.{IsBound}
use Rattle.bc_params_search.specs.Search.{Sought, AreAll, Adds, Covers, NoneBegins, picked, by_objects, by_instances, only_if_sought, binder, all_carry}
use Rattle.bc_params_search.proofs.Lists.{flat_map_more, flat_map_rest}
use Rattle.bc_params_search.proofs.Adds.{adds_nothing, adds_as, adds_then, adds_full}
use Rattle.bc_params_search.proofs.NextObject.{object_parts, passed_object}
use Rattle.bc_params_search.proofs.NextInstance.{IsOf, only_one, instance_parts, no_binder, passed_instance}

-- nothing more
adds_same : (s : Sought) (f g : List Invocation → List Invocation) (old now : List Invocation) → ((all : List Invocation) → AreAll s all → g all ≡ []) → Adds s f old now → Adds s (λ all. f all ++ g all) old now
adds_same s f g old now h a = adds_as s f (λ all. f all ++ g all) old now (λ all is. sym (ap (λ l. f all ++ l) (h all is) ∙ append-nil (f all))) a

module _ (s : Sought) (front xs : List ℕ) (old now : List Invocation) (i : ℕ) (so_far : Adds s (by_objects s front (take i xs)) old now) where
  pub full_objects : IsRising xs → Covers s front xs → s.most ≤ length now → Adds s (picked s front []) old now
  full_objects rising covers full =
      adds_as s (λ all. by_objects s front (take i xs) all ++ by_objects s front (drop i xs) all) (picked s front []) old now
      (λ all is. sym (flat_map_rest (λ x. picked s (front ++ x ∷ []) [] all) xs i) ∙ object_parts s front xs all is rising covers)
      (adds_full s (by_objects s front (take i xs)) (by_objects s front (drop i xs)) old now full so_far)

  pub all_objects : IsRising xs → Covers s front xs → length xs ≤ i → Adds s (picked s front []) old now
  all_objects rising covers past =
      adds_as s (by_objects s front (take i xs)) (picked s front []) old now
      (λ all is. ap (λ (ys : List ℕ). by_objects s front ys all) (take_all i xs past) ∙ object_parts s front xs all is rising covers)
      so_far

  pub object_done : (x : ℕ) (new : List Invocation) → i < length xs → x ≡ get_or xs i 0 → Adds s (picked s (front ++ x ∷ []) []) now new → Adds s (by_objects s front (take (i + 1) xs)) old new
  object_done x new l e more =
      adds_as s (λ all. by_objects s front (take i xs) all ++ picked s (front ++ x ∷ []) [] all) (by_objects s front (take (i + 1) xs)) old new
      (λ all is. ap (λ (y : ℕ). by_objects s front (take i xs) all ++ picked s (front ++ y ∷ []) [] all) e ∙ sym (flat_map_more (λ x. picked s (front ++ x ∷ []) [] all) xs i 0 l))
      (adds_then s (by_objects s front (take i xs)) (picked s (front ++ x ∷ []) []) old now new so_far more)

  pub object_passed : (x : ℕ) → i < length xs → x ≡ get_or xs i 0 → NoneBegins s (front ++ x ∷ []) → Adds s (by_objects s front (take (i + 1) xs)) old now
  object_passed x l e none =
      adds_as s (λ all. by_objects s front (take i xs) all ++ picked s (front ++ x ∷ []) [] all) (by_objects s front (take (i + 1) xs)) old now
      (λ all is. ap (λ (y : ℕ). by_objects s front (take i xs) all ++ picked s (front ++ y ∷ []) [] all) e ∙ sym (flat_map_more (λ x. picked s (front ++ x ∷ []) [] all) xs i 0 l))
      (adds_same s (by_objects s front (take i xs)) (picked s (front ++ x ∷ []) []) old now (λ all is. passed_object s (front ++ x ∷ []) all is none) so_far)

pub adds_one : (s : Sought) (objects tags : List ℕ) (old new : List Invocation) → length objects ≡ length s.task.places → length tags ≡ length s.task.variables →
    new ≡ take s.most (old ++ only_if_sought s objects tags) → Adds s (picked s objects tags) old new
adds_one s objects tags old new long few e all is = e ∙ ap (λ l. take s.most (old ++ l)) (only_one s objects tags all is long few)

pub adds_unbound : (s : Sought) (objects front : List ℕ) (old : List Invocation) → length old ≤ s.most → length objects ≡ length s.task.places → IsBound s.task →
    length front < length s.task.variables → binder s.task.places objects (length front) ≡ None → Adds s (picked s objects front) old old
adds_unbound s objects front old short long bound few none = adds_nothing s (picked s objects front) old short (λ all is. no_binder s objects front all is long bound few none)

abbrev pub no_binding : Binding
no_binding = record { object = 0; tag_type = 0; instance = 0 }

-- the bindings that are walked through
pub record AreNext (s : Sought) (objects front : List ℕ) (bs : List Binding) (x type : ℕ) : Type 0 where
  pub long : length objects ≡ length s.task.places
  pub variable : slice_get s.task.variables (length front) ≡ Some type
  pub binds : binder s.task.places objects (length front) ≡ Some x
  pub members : IsOf s.bound x type bs
  pub rising : IsRising (map (λ b. b.instance) bs)

module _ (s : Sought) (objects front : List ℕ) (bs : List Binding) (x type : ℕ) (old now : List Invocation) (i : ℕ) (next : AreNext s objects front bs x type) (so_far : Adds s (by_instances s objects front (take i bs)) old now) where
  parts : (all : List Invocation) → AreAll s all → by_instances s objects front bs all ≡ picked s objects front all
  parts all is = instance_parts s objects front bs x type all is next.long next.variable next.binds next.members next.rising

  pub full_instances : s.most ≤ length now → Adds s (picked s objects front) old now
  full_instances full =
      adds_as s (λ all. by_instances s objects front (take i bs) all ++ by_instances s objects front (drop i bs) all) (picked s objects front) old now
      (λ all is. sym (flat_map_rest (λ b. picked s objects (front ++ b.instance ∷ []) all) bs i) ∙ parts all is)
      (adds_full s (by_instances s objects front (take i bs)) (by_instances s objects front (drop i bs)) old now full so_far)

  pub all_instances : length bs ≤ i → Adds s (picked s objects front) old now
  all_instances past =
      adds_as s (by_instances s objects front (take i bs)) (picked s objects front) old now
      (λ all is. ap (λ (ys : List Binding). by_instances s objects front ys all) (take_all i bs past) ∙ parts all is)
      so_far

  more_instances : (all : List Invocation) (n : ℕ) → i < length bs → n ≡ (get_or bs i no_binding).instance →
      by_instances s objects front (take i bs) all ++ picked s objects (front ++ n ∷ []) all ≡ by_instances s objects front (take (i + 1) bs) all
  more_instances all n l e =
      ap (λ (m : ℕ). by_instances s objects front (take i bs) all ++ picked s objects (front ++ m ∷ []) all) e
      ∙ sym (flat_map_more (λ (b : Binding). picked s objects (front ++ b.instance ∷ []) all) bs i no_binding l)

  pub instance_done : (n : ℕ) (new : List Invocation) → i < length bs → n ≡ (get_or bs i no_binding).instance → Adds s (picked s objects (front ++ n ∷ [])) now new →
      Adds s (by_instances s objects front (take (i + 1) bs)) old new
  instance_done n new l e more =
      adds_as s (λ all. by_instances s objects front (take i bs) all ++ picked s objects (front ++ n ∷ []) all) (by_instances s objects front (take (i + 1) bs)) old new
      (λ all is. more_instances all n l e)
      (adds_then s (by_instances s objects front (take i bs)) (picked s objects (front ++ n ∷ [])) old now new so_far more)

  pub instance_passed : (n : ℕ) → i < length bs → n ≡ (get_or bs i no_binding).instance → all_carry s.bound s.task.places objects (length front) type n ≡ false →
      Adds s (by_instances s objects front (take (i + 1) bs)) old now
  instance_passed n l e off =
      adds_as s (λ all. by_instances s objects front (take i bs) all ++ picked s objects (front ++ n ∷ []) all) (by_instances s objects front (take (i + 1) bs)) old now
      (λ all is. more_instances all n l e)
      (adds_same s (by_instances s objects front (take i bs)) (picked s objects (front ++ n ∷ [])) old now (λ all is. passed_instance s objects front type n all is next.long next.variable off) so_far)

-- what the code's values are
module _ (s : Sought) (t : TaskSets) (bound : List Binding) (objects front os : List ℕ) (ps : List Place) (b type : ℕ) (task : t ≡ s.task) (carried : bound ≡ s.bound) (at : b ≡ length front) (on : os ≡ objects) (places : ps ≡ t.places) where
  pub variable_there : Some type ≡ slice_get t.variables b → slice_get s.task.variables (length front) ≡ Some type
  variable_there e = sym (e ∙ ap₂ (λ (u : TaskSets) (n : ℕ). slice_get u.variables n) task at)

  pub binder_is : (o : Option ℕ) → o ≡ binder ps os b → binder s.task.places objects (length front) ≡ o
  binder_is o e =
      sym (e ∙ ap₂ (λ (qs : List Place) (xs : List ℕ). binder qs xs b) places on ∙ ap₂ (λ (u : TaskSets) (n : ℕ). binder u.places objects n) task at)

  pub carry_is : (r : Bool) (n : ℕ) → r ≡ all_carry bound ps os b type n → all_carry s.bound s.task.places objects (length front) type n ≡ r
  carry_is r n e =
      sym (e ∙ ap₂ (λ (qs : List Place) (xs : List ℕ). all_carry bound qs xs b type n) places on ∙ ap₂ (λ (u : TaskSets) (m : ℕ). all_carry bound u.places objects m type n) task at
      ∙ ap (λ (bs : List Binding). all_carry bs s.task.places objects (length front) type n) carried)

  pub are_next : (bs : List Binding) (x : ℕ) → length objects ≡ length s.task.places → Some type ≡ slice_get t.variables b → Some x ≡ binder ps os b → IsOf bound x type bs →
      IsRising (map (λ b. b.instance) bs) → AreNext s objects front bs x type
  are_next bs x long e f of rising = record {
    long = long;
    variable = variable_there e;
    binds = binder_is (Some x) f;
    members = subst (λ (cs : List Binding). IsOf cs x type bs) carried of;
    rising = rising;
  }

slice_get_none : {X : Type 0} (xs : List X) (i : ℕ) → slice_get xs i ≡ None → length xs ≤ i
slice_get_none [] i h = omega arith
slice_get_none (x ∷ xs) zero h = cc
slice_get_none (x ∷ xs) (suc i) h = let e = slice_get_none xs i h in omega arith

pub ok_weaker : {T E : Type 0} (P Q : Type 0) → (P → Q) → (r : Result T E) → OnOk r P → OnOk r Q
ok_weaker P Q f (Ok x) h = f h
ok_weaker P Q f (Err e) h = h

pub no_variable : (s : Sought) (t : TaskSets) (front : List ℕ) (b : ℕ) → t ≡ s.task → b ≡ length front → length front ≤ length s.task.variables → None ≡ slice_get t.variables b → length front ≡ length s.task.variables
no_variable s t front b task at few e =
    let past = slice_get_none s.task.variables (length front) (sym (e ∙ ap₂ (λ (u : TaskSets) (n : ℕ). slice_get u.variables n) task at)) in
    omega arith

pub one_rising : (x : ℕ) → IsRising (x ∷ [])
one_rising x = pairs_from_chain (λ x y. x < y) (x ∷ []) (tt, tt)

pub place_there : (s : Sought) (t : TaskSets) (front : List ℕ) (i : ℕ) (q : Place) → t ≡ s.task → i ≡ length front → Some q ≡ slice_get t.places i → slice_get s.task.places (length front) ≡ Some q
place_there s t front i q task at e = sym (e ∙ ap₂ (λ (u : TaskSets) (n : ℕ). slice_get u.places n) task at)
