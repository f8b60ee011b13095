-- The sought invocations on these objects with these instances in front, by the next instance.
use Rattle.std.proofs.Common.{◌≡◌, ℕ, ◌<◌, inl, inr, Bool, true, false, ◌&&◌, ◌==◌, if◌then◌else◌, List, [], ◌∷◌, ◌++◌, length, map, Option, Some, None, refl, sym, ap, ◌∙◌, arith}
use Rattle.std.specs.Prelude.{slice_get}
use Rattle.std.specs.declared.cmp.Ordering.{Ordering}
use Rattle.std.specs.Cmp.{nat_cmp_total, tied_itself}
use Rattle.std.specs.Ordering.{ordering_then, nat_cmp, is_lt}
use Rattle.std.specs.Cmp.Lexicographic.{slice_cmp, nat_list_cmp_total}
use Rattle.std.proofs.lemmas.Bool.{false≢true, and_parts, and_from, or_cases, or_left, or_right, eq-eqb, eqb-true}
use Rattle.bc_data.specs.declared.run.Invocation.{Invocation}
use Rattle.bc_mean.specs.Enabled.{is_some_and}
use Rattle.bc_mean.specs.Serial.{listed}
use Rattle.bc_mean.proofs.Orders.{same_parts}
use Rattle.bc_params_sets.specs.declared.tag_index.Binding.{Binding}
use Rattle.bc_params_sets.specs.Members.{has, IsRising}
use Rattle.bc_params_sets.specs.Bindings.{is_bound, same_binding}
use Rattle.bc_params_search.specs.Tuples.{IsBound}
use Rattle.bc_params_search.specs.Search.{Sought, AreAll, begins, goes_on, picked, by_instances, only_if_sought, binder, all_carry}
use Rattle.bc_params_search.proofs.Lists.{Below, below_first, begins_itself, begins_more, begins_whole, flat_map_map}
use Rattle.bc_params_search.proofs.Parts.{Before, is_next, next_parts, none_pass, one_passes}
use Rattle.bc_params_search.proofs.Taken.{IsTaken, taken_listed, taken_length, binder_carries, bound_somewhere, all_carry_taken, some_weaker}
use Rattle.bc_params_search.proofs.NextObject.{GoesOn, going}

by_lower_tags : (v w : Invocation) → v.task ≡ w.task → v.objects ≡ w.objects → Below v.tags w.tags → Before v w
by_lower_tags v w e f h =
    ap (λ (o : Ordering). is_lt (ordering_then o (ordering_then (slice_cmp nat_cmp v.objects w.objects) (slice_cmp nat_cmp v.tags w.tags)))) (ap (nat_cmp v.task) (sym e) ∙ tied_itself nat_cmp_total v.task)
    ∙ (ap (λ (o : Ordering). is_lt (ordering_then o (slice_cmp nat_cmp v.tags w.tags))) (ap (slice_cmp nat_cmp v.objects) (sym f) ∙ tied_itself nat_list_cmp_total v.objects)
    ∙ ap is_lt h)

last_two : (a b c : Bool) → (a && (b && c)) ≡ ((a && b) && c)
last_two true b c = refl
last_two false b c = refl

-- one instance more
pub one_instance : (n : ℕ) (objects front : List ℕ) (x : ℕ) (v : Invocation) → goes_on n objects (front ++ x ∷ []) v ≡ (goes_on n objects front v && is_next (slice_get v.tags (length front)) x)
one_instance n objects front x v =
    ap (λ (b : Bool). (v.task == n) && begins objects v.objects && b) (begins_more front v.tags x)
    ∙ last_two ((v.task == n) && begins objects v.objects) (begins front v.tags) (is_next (slice_get v.tags (length front)) x)

-- a sought one on these objects has no others
pub on_objects : (s : Sought) (objects tags : List ℕ) (v : Invocation) → length objects ≡ length s.task.places → IsTaken s v → GoesOn s.number objects tags v → v.objects ≡ objects
on_objects s objects tags v long t g =
    let e = taken_length s.task s.bound v.tags s.task.places v.objects t.objects in
    begins_whole objects v.objects g.objects (omega arith)

-- the only one on these objects and instances
pub only_one : (s : Sought) (objects tags : List ℕ) (all : List Invocation) → AreAll s all → length objects ≡ length s.task.places → length tags ≡ length s.task.variables →
    only_if_sought s objects tags ≡ picked s objects tags all
only_one s objects tags all is long few =
    let w : Invocation = record { task = s.number; objects = objects; tags = tags } in
    sym (one_passes all is.ascending (goes_on s.number objects tags) w
    (and_from ((s.number == s.number) && begins objects objects) (begins tags tags) (and_from (s.number == s.number) (begins objects objects) (eq-eqb s.number s.number refl) (begins_itself objects)) (begins_itself tags))
    (λ v l h.
    let g = going s.number objects tags v h in
    let t = taken_listed s all v is g.task l in
    let m = t.tags in
    same_parts v w g.task (on_objects s objects tags v long t g) (begins_whole tags v.tags g.tags (omega arith)))
    ∙ ap (λ (b : Bool). if b then w ∷ [] else []) (is.members w refl))

bound_has : (bs : List Binding) (c : Binding) → is_bound bs c ≡ true → has (map (λ b. b.instance) bs) c.instance ≡ true
bound_has [] c h = absurd (false≢true h)
bound_has (b ∷ bs) c h = elim (or_cases (same_binding c b) (is_bound bs c) h) [
  | inl e ↦
      let f = (and_parts ((c.object == b.object) && (c.tag_type == b.tag_type)) (c.instance == b.instance) e).1 in
      or_left (b.instance == c.instance) (has (map (λ b. b.instance) bs) c.instance) (eq-eqb b.instance c.instance (sym (eqb-true c.instance b.instance f)))
  | inr e ↦ or_right (b.instance == c.instance) (has (map (λ b. b.instance) bs) c.instance) (bound_has bs c e)
]

-- the bindings of the object to instances of the type
abbrev pub IsOf : List Binding → ℕ → ℕ → List Binding → Type 0
IsOf bound x type bs = (c : Binding) → is_bound bs c ≡ (is_bound bound c && ((c.object == x) && (c.tag_type == type)))

pub found_among : (bound bs : List Binding) (x type n : ℕ) → IsOf bound x type bs → is_bound bound (record { object = x; tag_type = type; instance = n }) ≡ true → has (map (λ b. b.instance) bs) n ≡ true
found_among bound bs x type n of h =
    let c : Binding = record { object = x; tag_type = type; instance = n } in
    bound_has bs c (of c ∙ and_from (is_bound bound c) ((x == x) && (type == type)) h (and_from (x == x) (type == type) (eq-eqb x x refl) (eq-eqb type type refl)))

pub instance_parts : (s : Sought) (objects front : List ℕ) (bs : List Binding) (x type : ℕ) (all : List Invocation) → AreAll s all →
    length objects ≡ length s.task.places → slice_get s.task.variables (length front) ≡ Some type → binder s.task.places objects (length front) ≡ Some x →
    IsOf s.bound x type bs → IsRising (map (λ b. b.instance) bs) →
    by_instances s objects front bs all ≡ picked s objects front all
instance_parts s objects front bs x type all is long e f of rising =
    sym (flat_map_map (λ n. picked s objects (front ++ n ∷ []) all) (λ (b : Binding). b.instance) bs)
    ∙ sym (next_parts all is.ascending (goes_on s.number objects front) (λ n. goes_on s.number objects (front ++ n ∷ [])) (λ v. slice_get v.tags (length front)) (map (λ b. b.instance) bs) rising
    (λ m n a b l p q.
    let pa = and_parts (listed all a) (goes_on s.number objects (front ++ m ∷ []) a) p in
    let pb = and_parts (listed all b) (goes_on s.number objects (front ++ n ∷ []) b) q in
    let g = going s.number objects (front ++ m ∷ []) a pa.1 in
    let h = going s.number objects (front ++ n ∷ []) b pb.1 in
    by_lower_tags a b (g.task ∙ sym h.task)
    (on_objects s objects (front ++ m ∷ []) a long (taken_listed s all a is g.task pa.0) g ∙ sym (on_objects s objects (front ++ n ∷ []) b long (taken_listed s all b is h.task pb.0) h))
    (below_first front m n a.tags b.tags l g.tags h.tags))
    (λ n v. one_instance s.number objects front n v)
    (λ v l h.
    let g = going s.number objects front v h in
    let t = taken_listed s all v is g.task l in
    let o = on_objects s objects front v long t g in
    let c = binder_carries s.task s.bound v.tags s.task.places v.objects (length front) x t.objects (ap (λ (xs : List ℕ). binder s.task.places xs (length front)) o ∙ f) in
    some_weaker (slice_get v.tags (length front)) (λ n. is_bound s.bound (record { object = x; tag_type = type; instance = n })) (has (map (λ b. b.instance) bs))
    (λ n k. found_among s.bound bs x type n of k)
    (sym (ap (λ (o : Option ℕ). is_some_and o (λ type. is_some_and (slice_get v.tags (length front)) (λ n. is_bound s.bound (record { object = x; tag_type = type; instance = n })))) e) ∙ c)))

-- where no place binds the variable
pub no_binder : (s : Sought) (objects front : List ℕ) (all : List Invocation) → AreAll s all → length objects ≡ length s.task.places → IsBound s.task →
    length front < length s.task.variables → binder s.task.places objects (length front) ≡ None → picked s objects front all ≡ []
no_binder s objects front all is long bound few none =
    none_pass all (goes_on s.number objects front)
    (λ v l h.
    let g = going s.number objects front v h in
    let t = taken_listed s all v is g.task l in
    let o = on_objects s objects front v long t g in
    bound_somewhere s.task s.bound v.tags s.task.places v.objects (length front) t.objects (bound (length front) few) (ap (λ (xs : List ℕ). binder s.task.places xs (length front)) o ∙ none))

-- an instance that some place binds and its object does not carry
pub passed_instance : (s : Sought) (objects front : List ℕ) (type n : ℕ) (all : List Invocation) → AreAll s all → length objects ≡ length s.task.places →
    slice_get s.task.variables (length front) ≡ Some type → all_carry s.bound s.task.places objects (length front) type n ≡ false →
    picked s objects (front ++ n ∷ []) all ≡ []
passed_instance s objects front type n all is long e off =
    none_pass all (goes_on s.number objects (front ++ n ∷ []))
    (λ v l h.
    let g = going s.number objects (front ++ n ∷ []) v h in
    let t = taken_listed s all v is g.task l in
    let o = on_objects s objects (front ++ n ∷ []) v long t g in
    let at = (and_parts (goes_on s.number objects front v) (is_next (slice_get v.tags (length front)) n) (sym (one_instance s.number objects front n v) ∙ h)).1 in
    false≢true (sym off ∙ ap (λ (xs : List ℕ). all_carry s.bound s.task.places xs (length front) type n) (sym o)
    ∙ all_carry_taken s.task s.bound v.tags s.task.places v.objects (length front) type n e (is_there (slice_get v.tags (length front)) at) t.objects))
  where
    is_there : (o : Option ℕ) → is_next o n ≡ true → o ≡ Some n
    is_there None h = absurd (false≢true h)
    is_there (Some y) h = ap (λ (m : ℕ). Some m) (sym (eqb-true n y h))
