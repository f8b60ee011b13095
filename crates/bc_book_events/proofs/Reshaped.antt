-- Whether an invocation is enabled changes only where it names an object that is reshaped.
use Rattle.std.proofs.Common.{◌≡◌, ℕ, zero, suc, ◌<◌, inl, inr, Bool, true, false, ◌&&◌, ◌||◌, ◌==◌, List, [], ◌∷◌, map, length, get_or, Option, Some, None, refl, sym, ap, ◌∙◌, subst, arith}
use Rattle.std.specs.Prelude.{All, Contains, nat_lt, slice_get, option_map}
use Rattle.std.specs.List.{AllByRecursion, list_all, list_any}
use Rattle.std.proofs.lemmas.Bool.{false≢true, and_parts, cases_Bool, eqb-true, ltb-true}
use Rattle.std.proofs.lemmas.List.Elements.{All-from_recursion, recursion_from_All}
use Rattle.std.proofs.lemmas.Option.{get_or_from_slice_get, slice_get-get_or, slice_get-map, slice_get_within}
use Rattle.bc_data.specs.Guard.{guard_truth}
use Rattle.bc_data.specs.Typed.{TypedParam, TypedProgram, TypedTask}
use Rattle.bc_data.specs.WellTyped.{IsTask, IsWellTyped}
use Rattle.bc_data.specs.declared.run.Body.{Body}
use Rattle.bc_data.specs.declared.run.Invocation.{Invocation}
use Rattle.bc_data.specs.declared.run.Kind.{Kind}
use Rattle.bc_data.specs.declared.run.Kind.TheVariants as kind
use Rattle.bc_data.specs.declared.run.TagRef.{TagRef}
use Rattle.bc_data.specs.declared.run.TagRef.TheVariants as tag
use Rattle.bc_mean.specs.declared.plain.Plain.{Plain}
use Rattle.bc_mean.specs.Enabled.{are_different, carries, is_class, is_enabled, is_instance, is_some_and, take_all, takes}
use Rattle.bc_mean.specs.Store.{Fits, FitsAs, IsPresentTag}
use Rattle.bc_mean.proofs.Lists.{each_weaker}
use Rattle.bc_book_events.specs.Reshaped.{ReshapesOnly, bare, bare_at, has, names_any}
use Rattle.bc_book_events.proofs.Bare.{bare_alone, bare_there}
use Rattle.bc_book_events.proofs.Members.{none_of}

pub some_and_parts : {A : Type 0} (o : Option A) (test : A → Bool) → is_some_and o test ≡ true → (x : A) × (o ≡ Some x) × (test x ≡ true)
some_and_parts None test h = absurd (false≢true h)
some_and_parts (Some x) test h = (x, refl, h)

pub all_get : {A : Type 0} (Q : A → Type 0) (xs : List A) (k : ℕ) (x : A) → All Q xs → slice_get xs k ≡ Some x → Q x
all_get Q xs k x h e = subst Q (get_or_from_slice_get xs k x x e) (h k x (slice_get_within xs k x e))

all_at : {A : Type 0} (test : A → Bool) (xs : List A) → list_all test xs ≡ true → (k : ℕ) (x : A) → k < length xs → get_or xs k x ≡ x → test x ≡ true
all_at test [] h k x l e = absurd (omega arith)
all_at test (y ∷ ys) h zero x l e = subst (λ z. test z ≡ true) e (and_parts (test y) (list_all test ys) h).0
all_at test (y ∷ ys) h (suc k) x l e = all_at test ys (and_parts (test y) (list_all test ys) h).1 k x (omega arith) e

below_each : (m : ℕ) (ns : List ℕ) → list_all (λ n. nat_lt n m) ns ≡ true → AllByRecursion (λ n. n < m) ns
below_each m [] h = tt
below_each m (n ∷ ns) h = let q = and_parts (nat_lt n m) (list_all (λ k. nat_lt k m) ns) h in (ltb-true n m q.0, below_each m ns q.1)

-- that an invocation of this task is enabled
abbrev of_task : Plain → Invocation → TypedTask → Bool
of_task S v t =
    (length v.tags == length t.variables) && take_all S t v.tags t.params v.objects && are_different v.objects
    && list_all (λ n. nat_lt n (length S.tags)) v.tags

pub record EnabledOf (P : TypedProgram) (S : Plain) (v : Invocation) : Type 0 where
  pub task : TypedTask
  pub here : slice_get P.tasks v.task ≡ Some task
  pub long : length v.tags ≡ length task.variables
  pub taken : take_all S task v.tags task.params v.objects ≡ true
  pub different : are_different v.objects ≡ true
  pub present : All (λ n. n < length S.tags) v.tags

pub enabled_of : (P : TypedProgram) (S : Plain) (v : Invocation) → is_enabled P S v ≡ true → EnabledOf P S v
enabled_of P S v h =
    let o = some_and_parts (slice_get P.tasks v.task) (of_task S v) h in
    let t = o.0 in
    let there = list_all (λ n. nat_lt n (length S.tags)) v.tags in
    let fits = take_all S t v.tags t.params v.objects in
    let long = length v.tags == length t.variables in
    let q = and_parts (long && fits && are_different v.objects) there o.2 in
    let r = and_parts (long && fits) (are_different v.objects) q.0 in
    let s = and_parts long fits r.0 in
    record {
      task = t;
      here = o.1;
      long = eqb-true (length v.tags) (length t.variables) s.0;
      taken = s.1;
      different = r.1;
      present = All-from_recursion (λ n. n < length S.tags) v.tags (below_each (length S.tags) v.tags q.1);
    }

-- the object that an enabled invocation has for a parameter
taken_at : (T : Plain) (t : TypedTask) (tags : List ℕ) (Q : ℕ → Type 0) (ps : List TypedParam) (ids : List ℕ) → take_all T t tags ps ids ≡ true → AllByRecursion Q ids →
    (k : ℕ) (q : TypedParam) → k < length ps → get_or ps k q ≡ q →
    (p : TypedParam) × (id : ℕ) × (p ≡ q) × (takes T t tags p id ≡ true) × Q id
taken_at T t tags Q [] [] h a k q l e = absurd (omega arith)
taken_at T t tags Q [] (id ∷ ids) h a k q l e = absurd (false≢true h)
taken_at T t tags Q (p ∷ ps) [] h a k q l e = absurd (false≢true h)
taken_at T t tags Q (p ∷ ps) (id ∷ ids) h a zero q l e = (p, id, e, (and_parts (takes T t tags p id) (take_all T t tags ps ids) h).0, a.0)
taken_at T t tags Q (p ∷ ps) (id ∷ ids) h a (suc k) q l e = taken_at T t tags Q ps ids (and_parts (takes T t tags p id) (take_all T t tags ps ids) h).1 a.1 k q (omega arith) e

-- an object of a store that fits has instances that are there
pub tags_present : (P : TypedProgram) (S : Plain) (b : Body) (k : Kind) → FitsAs P S k b → AllByRecursion (IsPresentTag S) b.tags
tags_present P S b (kind.Class c) h = recursion_from_All (IsPresentTag S) b.tags h.present_tags
tags_present P S b kind.Ints h = subst (AllByRecursion (IsPresentTag S)) (sym h.tags) tt
tags_present P S b kind.Bools h = subst (AllByRecursion (IsPresentTag S)) (sym h.tags) tt
tags_present P S b (kind.Objects c) h = subst (AllByRecursion (IsPresentTag S)) (sym h.1.tags) tt

instance_there : (S : Plain) (n : ℕ) (tags : List TagRef) → AllByRecursion (IsPresentTag S) tags → list_any (is_instance n) tags ≡ true → n < length S.tags
instance_there S n [] a h = absurd (false≢true h)
instance_there S n (tag.New m ∷ rest) a h = absurd a.0
instance_there S n (tag.Old m ∷ rest) a h = elim (cases_Bool (m == n)) [
  | inl e ↦ subst (λ z. z < length S.tags) (eqb-true m n e) a.0
  | inr e ↦ instance_there S n rest a.1 (subst (λ (c : Bool). (c || list_any (is_instance n) rest) ≡ true) e h)
]

pub typed_task : (P : TypedProgram) → IsWellTyped P → (n : ℕ) (t : TypedTask) → slice_get P.tasks n ≡ Some t → IsTask P t
typed_task P typed n t e = all_get (IsTask P) P.tasks n t typed.tasks e

-- The object that an enabled invocation has for the parameter that binds a variable bears the instance, which is of the
-- variable's type.
pub record Carrier (P : TypedProgram) (T : Plain) (t : TypedTask) (Q : ℕ → Type 0) (k n : ℕ) : Type 0 where
  pub id : ℕ
  pub body : Body
  pub here : slice_get T.bodies id ≡ Some body
  pub bears : list_any (is_instance n) body.tags ≡ true
  pub holds : Q id
  pub type : ℕ
  pub declared : slice_get t.variables k ≡ Some type
  pub own : slice_get T.tags n ≡ Some type

-- what it says that an object carries the instance for a variable
carries_parts : (T : Plain) (t : TypedTask) (tags : List ℕ) (b : Body) (k n : ℕ) → slice_get tags k ≡ Some n → carries T t tags b k ≡ true →
    (type : ℕ) × (slice_get t.variables k ≡ Some type) × (list_any (is_instance n) b.tags ≡ true) × (slice_get T.tags n ≡ Some type)
carries_parts T t tags b k n at h =
    let type = some_and_parts (slice_get t.variables k) (λ type. is_some_and (slice_get tags k) (λ n. list_any (is_instance n) b.tags && is_some_and (slice_get T.tags n) (λ own. own == type))) h in
    let both = and_parts (list_any (is_instance n) b.tags) (is_some_and (slice_get T.tags n) (λ own. own == type.0)) (at_some (slice_get tags k) n (λ n. list_any (is_instance n) b.tags && is_some_and (slice_get T.tags n) (λ own. own == type.0)) at type.2) in
    (type.0, type.1, both.0, its_own (slice_get T.tags n) type.0 both.1)
  where
    at_some : (o : Option ℕ) (n : ℕ) (test : ℕ → Bool) → o ≡ Some n → is_some_and o test ≡ true → test n ≡ true
    at_some o n test e h = subst (λ (o : Option ℕ). is_some_and o test ≡ true) e h

    its_own : (o : Option ℕ) (type : ℕ) → is_some_and o (λ own. own == type) ≡ true → o ≡ Some type
    its_own None type h = absurd (false≢true h)
    its_own (Some own) type h = ap (λ (x : ℕ). Some x) (eqb-true own type h)

its_body : (T : Plain) (t : TypedTask) (tags : List ℕ) (p : TypedParam) (id : ℕ) → takes T t tags p id ≡ true → (b : Body) × (slice_get T.bodies id ≡ Some b) × (list_all (carries T t tags b) p.binds ≡ true)
its_body T t tags p id h =
    let body = some_and_parts (slice_get T.bodies id) (λ b. is_class p.class b.kind && guard_truth p.guard b.flags && list_all (carries T t tags b) p.binds) h in
    (body.0, body.1, (and_parts (is_class p.class body.0.kind && guard_truth p.guard body.0.flags) (list_all (carries T t tags body.0) p.binds) body.2).1)

carried : (P : TypedProgram) (T : Plain) (v : Invocation) (t : TypedTask) (Q : ℕ → Type 0) (k n : ℕ) → slice_get v.tags k ≡ Some n →
    (p : TypedParam) (id : ℕ) → takes T t v.tags p id ≡ true → Q id → Contains p.binds k → Carrier P T t Q k n
carried P T v t Q k n at p id h q place =
    let body = its_body T t v.tags p id h in
    let parts = carries_parts T t v.tags body.0 k n at (all_at (carries T t v.tags body.0) p.binds body.2 place.0 k place.1 place.2) in
    record { id = id; body = body.0; here = body.1; bears = parts.2; holds = q; type = parts.0; declared = parts.1; own = parts.3 }

binds_of : (p : TypedParam) (q : TypedParam) (k : ℕ) → p ≡ q → Contains q.binds k → Contains p.binds k
binds_of p q k e h = subst (λ (q : TypedParam). Contains q.binds k) (sym e) h

pub carrier : (P : TypedProgram) (T : Plain) (v : Invocation) → IsWellTyped P → (Q : ℕ → Type 0) → AllByRecursion Q v.objects → (e : EnabledOf P T v) → (k n : ℕ) → slice_get v.tags k ≡ Some n → Carrier P T e.task Q k n
carrier P T v typed Q a e k n at =
    let bound = (typed_task P typed v.task e.task e.here).bound k (omega (arith, slice_get_within v.tags k n at, e.long)) in
    let own = taken_at T e.task v.tags Q e.task.params v.objects e.taken a bound.1.0 bound.0 bound.1.1 bound.1.2 in
    carried P T v e.task Q k n at own.0 own.1 own.3 own.4 (binds_of own.0 bound.0 k own.2 bound.2)

module _ (P : TypedProgram) (S T : Plain) (reshaped : List ℕ) (reshapes : ReshapesOnly reshaped S T) (v : Invocation) (still : names_any reshaped v ≡ false) where
  abbrev SameBody : ℕ → Type 0
  SameBody id = bare_at S id ≡ bare_at T id

  same_bodies : AllByRecursion SameBody v.objects
  same_bodies = each_weaker (λ id. has reshaped id ≡ false) SameBody (λ id h. reshapes.bodies id h) v.objects (none_of (has reshaped) v.objects still)

  alike : All (λ n. n < length S.tags) v.tags → is_enabled P S v ≡ is_enabled P T v
  alike a =
      bare_alone P S T v (All-from_recursion SameBody v.objects same_bodies)
      (λ k d l. let e = slice_get-get_or S.tags (get_or v.tags k d) 0 (a k d l) in e ∙ sym (reshapes.types (get_or v.tags k d) (get_or S.tags (get_or v.tags k d) 0) e))

  -- one that is enabled stays so
  pub stays_enabled : is_enabled P S v ≡ true → is_enabled P T v ≡ true
  stays_enabled h = sym (alike (enabled_of P S v h).present) ∙ h

  module _ (typed : IsWellTyped P) (fits : Fits P S) where
    -- the instances that one names that is enabled in T were there before
    tags_before : is_enabled P T v ≡ true → All (λ n. n < length S.tags) v.tags
    tags_before h k d l =
        let own = carrier P T v typed SameBody same_bodies (enabled_of P T v h) k (get_or v.tags k d) (slice_get-get_or v.tags k d l) in
        let before = bare_there (slice_get S.bodies own.id) own.body (own.holds ∙ ap (option_map bare) own.here) in
        instance_there S (get_or v.tags k d) before.0.tags
        (tags_present P S before.0 before.0.kind (all_get (λ c. FitsAs P S c.kind c) S.bodies own.id before.0 fits.bodies before.1))
        (ap (λ (c : Body). list_any (is_instance (get_or v.tags k d)) c.tags) before.2 ∙ own.bears)

    -- and one that is enabled in T was so before
    pub was_enabled : is_enabled P T v ≡ true → is_enabled P S v ≡ true
    was_enabled h = alike (tags_before h) ∙ h
