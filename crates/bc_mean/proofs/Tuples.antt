-- The list of all enabled invocations from its parts: a task after the other, and within it a number after the other.
use Rattle.std.proofs.Common.{◌≡◌, ℕ, zero, suc, ◌+◌, ◌-◌, ◌≤◌, Bool, true, false, not, ◌&&◌, ◌||◌, ◌==◌, if◌then◌else◌, List, [], ◌∷◌, ◌++◌, length, map, filter, Option, Some, None, refl, sym, ap, ap₂, ◌∙◌, subst, append-nil, append_assoc, add-one, arith}
use Rattle.std.specs.Prelude.{nat_lt, slice_get}
use Rattle.std.specs.List.{AllByRecursion, list_all, list_any, range_with_len, flat_map}
use Rattle.std.proofs.lemmas.Bool.{false≢true, and_parts, and_from}
use Rattle.std.proofs.lemmas.List.Elements.{filter-append, recursion_from_All}
use Rattle.std.proofs.lemmas.List.Concat.{flat_map-append}
use Rattle.bc_data.specs.Guard.{guard_truth}
use Rattle.bc_data.specs.Typed.{TypedProgram}
use Rattle.bc_data.specs.Typed.{TypedParam}
use Rattle.bc_data.specs.declared.run.Body.{Body}
use Rattle.bc_data.specs.Typed.{TypedProgram}
use Rattle.bc_data.specs.WellTyped.{IsTask, IsWellTyped}
use Rattle.bc_data.specs.Typed.{TypedTask}
use Rattle.bc_data.specs.declared.run.Invocation.{Invocation}
use Rattle.bc_mean.specs.declared.plain.Plain.{Plain}
use Rattle.bc_mean.specs.Enabled.{is_some_and, is_class, carries, takes, take_all, are_different, is_enabled, tuples, invocations_of, all_enabled}
use Rattle.bc_mean.specs.Listing.{is_enabled_of, may_stand, may_stand_all, may_begin, listed_behind, enabled_with, enabled_on, enabled_of}

flat_map_alike : {X Y : Type 0} (f g : X → List Y) → ((x : X) → f x ≡ g x) → (xs : List X) → flat_map f xs ≡ flat_map g xs
flat_map_alike f g h [] = refl
flat_map_alike f g h (x ∷ xs) = ap₂ (λ ys zs. ys ++ zs) (h x) (flat_map_alike f g h xs)

flat_map_flat_map : {X Y Z : Type 0} (f : Y → List Z) (g : X → List Y) (xs : List X) → flat_map f (flat_map g xs) ≡ flat_map (λ x. flat_map f (g x)) xs
flat_map_flat_map f g [] = refl
flat_map_flat_map f g (x ∷ xs) = flat_map-append f (g x) (flat_map g xs) ∙ ap (λ ys. flat_map f (g x) ++ ys) (flat_map_flat_map f g xs)

flat_map_map : {X Y Z : Type 0} (f : Y → List Z) (g : X → Y) (xs : List X) → flat_map f (map g xs) ≡ flat_map (λ x. f (g x)) xs
flat_map_map f g [] = refl
flat_map_map f g (x ∷ xs) = ap (λ ys. f (g x) ++ ys) (flat_map_map f g xs)

-- one number more
range_more : (a n : ℕ) → range_with_len a (n + 1) ≡ range_with_len a n ++ (a + n) ∷ []
range_more a n = rw (add-one n) (more a n)
  where
    more : (a n : ℕ) → range_with_len a (suc n) ≡ range_with_len a n ++ (a + n) ∷ []
    more a zero = let e : a + 0 ≡ a = omega arith in rw e refl
    more a (suc n) = let e : a + suc n ≡ a + 1 + n = omega arith in rw e (ap (λ xs. a ∷ xs) (more (a + 1) n))

pub one_more : {Y : Type 0} (f : ℕ → List Y) (n : ℕ) (ys : List Y) → ys ++ flat_map f (range_with_len 0 n) ++ f n ≡ ys ++ flat_map f (range_with_len 0 (n + 1))
one_more f n ys =
    append_assoc ys (flat_map f (range_with_len 0 n)) (f n)
    ∙ ap (λ zs. ys ++ zs) (sym (ap (flat_map f) (range_more 0 n) ∙ flat_map-append f (range_with_len 0 n) ((0 + n) ∷ []) ∙ ap (λ zs. flat_map f (range_with_len 0 n) ++ zs) (append-nil (f (0 + n)) ∙ ap f (let e : 0 + n ≡ n = omega arith in e))))

-- behind these numbers stands nothing more, or one number and then the rest
pub behind_none : (list : List ℕ → List Invocation) (n : ℕ) (front : List ℕ) → listed_behind list n front 0 ≡ list front
behind_none list n front = append-nil (list (front ++ [])) ∙ ap list (append-nil front)

pub behind_one : (list : List ℕ → List Invocation) (n : ℕ) (front : List ℕ) (k : ℕ) → listed_behind list n front (suc k) ≡ flat_map (λ x. listed_behind list n (front ++ x ∷ []) k) (range_with_len 0 n)
behind_one list n front k =
    flat_map_flat_map (λ rest. list (front ++ rest)) (λ x. map (λ xs. x ∷ xs) (tuples n k)) (range_with_len 0 n)
    ∙ flat_map_alike (λ x. flat_map (λ rest. list (front ++ rest)) (map (λ xs. x ∷ xs) (tuples n k))) (λ x. listed_behind list n (front ++ x ∷ []) k)
    (λ x. flat_map_map (λ rest. list (front ++ rest)) (λ xs. x ∷ xs) (tuples n k) ∙ flat_map_alike (λ xs. list (front ++ x ∷ xs)) (λ rest. list (front ++ x ∷ [] ++ rest)) (λ rest. ap list (sym (append_assoc front (x ∷ []) rest))) (tuples n k))
    (range_with_len 0 n)

filter_flat_map : {X Y : Type 0} (test : Y → Bool) (f : X → List Y) (xs : List X) → filter test (flat_map f xs) ≡ flat_map (λ x. filter test (f x)) xs
filter_flat_map test f [] = refl
filter_flat_map test f (x ∷ xs) = filter-append test (f x) (flat_map f xs) ∙ ap (λ ys. filter test (f x) ++ ys) (filter_flat_map test f xs)

filter_map_one : {X Y : Type 0} (test : Y → Bool) (g : X → Y) (xs : List X) → filter test (map g xs) ≡ flat_map (λ x. if test (g x) then g x ∷ [] else []) xs
filter_map_one test g [] = refl
filter_map_one test g (x ∷ xs) = kept (test (g x)) ∙ ap (λ ys. (if test (g x) then g x ∷ [] else []) ++ ys) (filter_map_one test g xs)
  where
    kept : (b : Bool) → (if b then g x ∷ filter test (map g xs) else filter test (map g xs)) ≡ (if b then g x ∷ [] else []) ++ filter test (map g xs)
    kept true = refl
    kept false = refl

abbrev invocation : ℕ → List ℕ → List ℕ → Invocation
invocation n objects instances = record { task = n; objects = objects; tags = instances }

-- the enabled ones of one task
of_task : (P : TypedProgram) (S : Plain) (n : ℕ) (o : Option TypedTask) → slice_get P.tasks n ≡ o → filter (is_enabled P S) (invocations_of S n o) ≡ enabled_of S n o
of_task P S n None e = refl
of_task P S n (Some t) e =
    let instances = tuples (length S.tags) (length t.variables) in
    filter_flat_map (is_enabled P S) (λ objects. map (invocation n objects) instances) (tuples (length S.bodies) (length t.params))
    ∙ flat_map_alike (λ objects. filter (is_enabled P S) (map (invocation n objects) instances)) (enabled_on t S n)
    (λ objects. filter_map_one (is_enabled P S) (invocation n objects) instances ∙ flat_map_alike (λ tags. if is_enabled P S (invocation n objects tags) then invocation n objects tags ∷ [] else []) (enabled_with t S n objects) (one objects) instances)
    (tuples (length S.bodies) (length t.params))
  where
    one : (objects tags : List ℕ) → (if is_enabled P S (invocation n objects tags) then invocation n objects tags ∷ [] else []) ≡ enabled_with t S n objects tags
    one objects tags = ap (λ (o : Option TypedTask). if is_some_and o (λ t. is_enabled_of t S objects tags) then invocation n objects tags ∷ [] else []) e

pub all_by_task : (P : TypedProgram) (S : Plain) → all_enabled P S ≡ flat_map (λ n. enabled_of S n (slice_get P.tasks n)) (range_with_len 0 (length P.tasks))
unfolding all_enabled
all_by_task P S =
    filter_flat_map (is_enabled P S) (λ n. invocations_of S n (slice_get P.tasks n)) (range_with_len 0 (length P.tasks))
    ∙ flat_map_alike (λ n. filter (is_enabled P S) (invocations_of S n (slice_get P.tasks n))) (λ n. enabled_of S n (slice_get P.tasks n)) (λ n. of_task P S n (slice_get P.tasks n) refl) (range_with_len 0 (length P.tasks))

-- where nothing is listed for any rest
nothing : {X Y : Type 0} (f : X → List Y) → ((x : X) → f x ≡ []) → (xs : List X) → flat_map f xs ≡ []
nothing f h [] = refl
nothing f h (x ∷ xs) = ap₂ (λ ys zs. ys ++ zs) (h x) (nothing f h xs)

-- an enabled invocation begins with objects that may begin one
begins_all : (t : TypedTask) (S : Plain) (instances : List ℕ) (ps : List TypedParam) (front rest : List ℕ) → take_all S t instances ps (front ++ rest) ≡ true → may_stand_all S ps front ≡ true
begins_all t S instances [] front rest h = refl
begins_all t S instances (p ∷ ps) [] rest h = refl
begins_all t S instances (p ∷ ps) (id ∷ ids) rest h =
    let q = and_parts (takes S t instances p id) (take_all S t instances ps (ids ++ rest)) h in
    and_from (may_stand S p id) (may_stand_all S ps ids) (stands (slice_get S.bodies id) q.0) (begins_all t S instances ps ids rest q.1)
  where
    stands : (o : Option Body) →
        is_some_and o (λ b. is_class p.class b.kind && guard_truth p.guard b.flags && list_all (carries S t instances b) p.binds) ≡ true →
        is_some_and o (λ b. is_class p.class b.kind && guard_truth p.guard b.flags) ≡ true
    stands None h = h
    stands (Some b) h = (and_parts (is_class p.class b.kind && guard_truth p.guard b.flags) (list_all (carries S t instances b) p.binds) h).0

neither : (a b : Bool) → (a || b) ≡ false → (a ≡ false) × (b ≡ false)
neither true b h = absurd (false≢true (sym h))
neither false b h = (refl, h)

none_left : {X : Type 0} (test : X → Bool) (xs ys : List X) → list_any test (xs ++ ys) ≡ false → list_any test xs ≡ false
none_left test [] ys h = refl
none_left test (x ∷ xs) ys h =
    let q = neither (test x) (list_any test (xs ++ ys)) h in
    ap₂ (λ (a : Bool) (b : Bool). a || b) q.0 (none_left test xs ys q.1)

not_true : (b : Bool) → not b ≡ true → b ≡ false
not_true true h = absurd (false≢true h)
not_true false h = refl

different_left : (front rest : List ℕ) → are_different (front ++ rest) ≡ true → are_different front ≡ true
different_left [] rest h = refl
different_left (id ∷ ids) rest h =
    let q = and_parts (not (list_any (λ other. other == id) (ids ++ rest))) (are_different (ids ++ rest)) h in
    and_from (not (list_any (λ other. other == id) ids)) (are_different ids)
    (ap not (none_left (λ other. other == id) ids rest (not_true (list_any (λ other. other == id) (ids ++ rest)) q.0)))
    (different_left ids rest q.1)

begins : (t : TypedTask) (S : Plain) (front rest instances : List ℕ) → is_enabled_of t S (front ++ rest) instances ≡ true → may_begin t S front ≡ true
begins t S front rest instances h =
    let long = length instances == length t.variables in
    let fits = take_all S t instances t.params (front ++ rest) in
    let different = are_different (front ++ rest) in
    let q = and_parts (long && fits && different) (list_all (λ n. nat_lt n (length S.tags)) instances) h in
    let r = and_parts (long && fits) different q.0 in
    let s = and_parts long fits r.0 in
    and_from (may_stand_all S t.params front) (are_different front) (begins_all t S instances t.params front rest s.1) (different_left front rest r.1)

-- behind objects that may not begin one stands none
pub behind_nothing : (t : TypedTask) (S : Plain) (number n : ℕ) (front : List ℕ) (left : ℕ) → may_begin t S front ≡ false → listed_behind (enabled_on t S number) n front left ≡ []
behind_nothing t S number n front left h =
    nothing (λ rest. enabled_on t S number (front ++ rest)) (λ rest. nothing (λ instances. enabled_with t S number (front ++ rest) instances) (λ instances. one rest instances (is_enabled_of t S (front ++ rest) instances) refl) (tuples (length S.tags) (length t.variables))) (tuples n left)
  where
    one : (rest instances : List ℕ) (b : Bool) → is_enabled_of t S (front ++ rest) instances ≡ b → (if b then invocation number (front ++ rest) instances ∷ [] else []) ≡ []
    one rest instances true e = absurd (false≢true (sym h ∙ begins t S front rest instances e))
    one rest instances false e = refl

-- one number more has been walked through
pub behind_step : (list : List ℕ → List Invocation) (n : ℕ) (front longer : List ℕ) (k i : ℕ) (before now after : List Invocation) →
    longer ≡ front ++ i ∷ [] →
    now ≡ before ++ flat_map (λ x. listed_behind list n (front ++ x ∷ []) k) (range_with_len 0 i) →
    after ≡ now ++ listed_behind list n longer k →
    after ≡ before ++ flat_map (λ x. listed_behind list n (front ++ x ∷ []) k) (range_with_len 0 (i + 1))
behind_step list n front longer k i before now after e h g =
    g ∙ ap₂ (λ ys xs. ys ++ listed_behind list n xs k) h e ∙ one_more (λ x. listed_behind list n (front ++ x ∷ []) k) i before

-- all numbers have been
pub behind_all : (list : List ℕ → List Invocation) (n : ℕ) (front : List ℕ) (left i : ℕ) (before found : List Invocation) →
    1 ≤ left → i ≡ n →
    found ≡ before ++ flat_map (λ x. listed_behind list n (front ++ x ∷ []) (left - 1)) (range_with_len 0 i) →
    found ≡ before ++ listed_behind list n front left
behind_all list n front zero i before found some e h = absurd (omega arith)
behind_all list n front (suc k) i before found some e h =
    let less : suc k - 1 ≡ k = omega arith in
    h ∙ ap (λ ys. before ++ ys)
    (ap₂ (λ j m. flat_map (λ x. listed_behind list n (front ++ x ∷ []) j) (range_with_len 0 m)) less e ∙ sym (behind_one list n front k))

-- an accepted task has at most four parameters and four tag variables
abbrev few : Option TypedTask → Type 0
few None = Unit {0}
few (Some t) = (length t.params ≤ 4) × (length t.variables ≤ 4)

few_in : (P : TypedProgram) (ts : List TypedTask) (i : ℕ) → AllByRecursion (IsTask P) ts → few (slice_get ts i)
few_in P [] i h = tt
few_in P (t ∷ ts) zero h =
    let p : length t.params ≡ length t.params = refl in
    let few_params : length (t.params) ≤ 4 = h.0.few_params in
    let few_variables : length t.variables ≤ 4 = h.0.few_variables in
    (omega arith, few_variables)
few_in P (t ∷ ts) (suc i) h = few_in P ts i h.1

pub few_parts : (P : TypedProgram) (i : ℕ) (t : TypedTask) → IsWellTyped P → Some t ≡ slice_get P.tasks i → (length t.params ≤ 4) × (length t.variables ≤ 4)
few_parts P i t h e = subst few (sym e) (few_in P P.tasks i (recursion_from_All (IsTask P) (P.tasks) h.tasks))
