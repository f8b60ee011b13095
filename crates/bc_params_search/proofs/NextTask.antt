-- The sought invocations of all tasks, one task after the other.
use Rattle.std.proofs.Common.{◌≡◌, ℕ, zero, suc, ◌+◌, ◌<◌, ◌≤◌, inl, inr, Bool, true, false, ◌&&◌, ◌==◌, List, [], ◌∷◌, ◌++◌, length, filter, take, Option, Some, refl, sym, ap, ap₂, ◌∙◌, subst, arith}
use Rattle.std.specs.Prelude.{slice_get, nat_lt}
use Rattle.std.specs.List.{flat_map, list_all, list_any, range_with_len}
use Rattle.std.specs.declared.cmp.Ordering.{Ordering}
use Rattle.std.specs.Ordering.{ordering_then, nat_cmp, is_lt}
use Rattle.std.specs.declared.cmp.Ordering.TheVariants.{Less}
use Rattle.std.specs.Cmp.Lexicographic.{slice_cmp}
use Rattle.std.proofs.lemmas.Bool.{false≢true, and_parts, and_from, or_cases, or_left, or_right, eq-eqb, eqb-true, lt-ltb}
use Rattle.bc_data.specs.declared.run.Invocation.{Invocation}
use Rattle.bc_mean.specs.Enabled.{is_some_and, are_different}
use Rattle.bc_mean.specs.Serial.{listed}
use Rattle.bc_mean.proofs.Lists.{In, in_range, chain_range, pairs_from_chain}
use Rattle.bc_mean.proofs.Enabled.{inside}
use Rattle.bc_mean.proofs.Tuples.{one_more}
use Rattle.bc_params_sets.specs.declared.place.Place.{Place}
use Rattle.bc_params_sets.specs.declared.place.TaskSets.{TaskSets}
use Rattle.bc_params_sets.specs.declared.tag_index.Binding.{Binding}
use Rattle.bc_params_sets.specs.Members.{has}
use Rattle.bc_params_sets.specs.Kept.{Kept, is_in, carries_by, takes_by, take_all_by, is_enabled_by}
use Rattle.bc_params_search.specs.Tuples.{names, AreTuples}
use Rattle.bc_params_search.specs.Search.{Sought, has_none, AreAll, Adds, goes_on, picked}
use Rattle.bc_params_search.proofs.Lists.{take_then}
use Rattle.bc_params_search.proofs.Parts.{Before, in_parts, none_pass}
use Rattle.bc_params_search.proofs.Adds.{adds_nothing}
use Rattle.bc_params_search.proofs.Taken.{taken_listed}
use Rattle.bc_params_search.proofs.NextObject.{going}

-- an object of an enabled invocation is in the set of some place
pub named_somewhere : (t : TaskSets) (bound : List Binding) (ns : List ℕ) (qs : List Place) (xs : List ℕ) (id : ℕ) → take_all_by t bound ns qs xs ≡ true → has xs id ≡ true → list_any (λ q. is_in q id) qs ≡ true
named_somewhere t bound ns [] [] id h m = m
named_somewhere t bound ns [] (x ∷ xs) id h m = absurd (false≢true h)
named_somewhere t bound ns (q ∷ qs) [] id h m = absurd (false≢true m)
named_somewhere t bound ns (q ∷ qs) (x ∷ xs) id h m =
    let p = and_parts (takes_by t bound ns q x) (take_all_by t bound ns qs xs) h in
    elim (or_cases (x == id) (has xs id) m) [
      | inl e ↦ or_left (is_in q id) (list_any (λ q. is_in q id) qs) (subst (λ (y : ℕ). is_in q y ≡ true) (eqb-true x id e) (takes_in t bound ns q x p.0))
      | inr e ↦ or_right (is_in q id) (list_any (λ q. is_in q id) qs) (named_somewhere t bound ns qs xs id p.1 e)
    ]
  where
    takes_in : (t : TaskSets) (bound : List Binding) (ns : List ℕ) (q : Place) (x : ℕ) → takes_by t bound ns q x ≡ true → is_in q x ≡ true
    takes_in t bound ns q x h = (and_parts (is_in q x) _ h).0

empty_has : (xs : List ℕ) (x : ℕ) → (length xs == 0) ≡ true → has xs x ≡ true → ⊥
empty_has [] x e h = false≢true h
empty_has (y ∷ ys) x e h = let no_one : suc (length ys) ≡ 0 = eqb-true (suc (length ys)) 0 e in absurd (omega arith)

none_empty : (t : TaskSets) (bound : List Binding) (ns : List ℕ) (qs : List Place) (xs : List ℕ) → take_all_by t bound ns qs xs ≡ true → list_any has_none qs ≡ true → ⊥
none_empty t bound ns [] xs h m = false≢true m
none_empty t bound ns (q ∷ qs) [] h m = false≢true h
none_empty t bound ns (q ∷ qs) (x ∷ xs) h m =
    let p = and_parts (takes_by t bound ns q x) (take_all_by t bound ns qs xs) h in
    elim (or_cases (has_none q) (list_any has_none qs) m) [
      | inl e ↦ empty_has q.objects.members x e (and_parts (is_in q x) (list_all (carries_by t bound ns x) q.binds) p.0).0
      | inr e ↦ none_empty t bound ns qs xs p.1 e
    ]

pub adds_empty_task : (s : Sought) (old : List Invocation) → length old ≤ s.most → list_any has_none s.task.places ≡ true → Adds s (picked s [] []) old old
adds_empty_task s old short on =
    adds_nothing s (picked s [] []) old short
    (λ all is. none_pass all (goes_on s.number [] [])
    (λ v l h.
    let g = going s.number [] [] v h in
    let t = taken_listed s all v is g.task l in
    none_empty s.task s.bound v.tags s.task.places v.objects t.objects on))

pub adds_no_task : (s : Sought) (old : List Invocation) → length old ≤ s.most → list_any (λ q. is_in q s.id) s.task.places ≡ false → Adds s (picked s [] []) old old
adds_no_task s old short off =
    adds_nothing s (picked s [] []) old short
    (λ all is. none_pass all (goes_on s.number [] [])
    (λ v l h.
    let g = going s.number [] [] v h in
    let t = taken_listed s all v is g.task l in
    false≢true (sym off ∙ named_somewhere s.task s.bound v.tags s.task.places v.objects s.id t.objects t.named)))

less : (x y : ℕ) → x < y → nat_cmp x y ≡ Less
less x y h = let e : nat_lt x y ≡ true = lt-ltb x y h in rw e refl

by_lower_task : (v w : Invocation) → v.task < w.task → Before v w
by_lower_task v w h = ap (λ (o : Ordering). is_lt (ordering_then o (ordering_then (slice_cmp nat_cmp v.objects w.objects) (slice_cmp nat_cmp v.tags w.tags)))) (less v.task w.task h)

of_task : (n : ℕ) (all : List Invocation) → List Invocation
of_task n all = filter (goes_on n [] []) all

filter_all : (ws : List Invocation) → filter (λ v. true) ws ≡ ws
filter_all [] = refl
filter_all (w ∷ ws) = ap (λ (l : List Invocation). w ∷ l) (filter_all ws)

any_in : (p : ℕ → Bool) (x : ℕ) (xs : List ℕ) → In x xs → p x ≡ true → list_any p xs ≡ true
any_in p x [] h k = absurd h
any_in p x (y ∷ ys) h k = elim h [
  | inl e ↦ or_left (p y) (list_any p ys) (subst (λ (z : ℕ). p z ≡ true) (sym e) k)
  | inr e ↦ or_right (p y) (list_any p ys) (any_in p x ys e k)
]

-- The first found ones are the first of the first n tasks.
abbrev pub Found : Kept → ℕ → ℕ → ℕ → List Invocation → Type 0
Found k id most n found = (all : List Invocation) → AreTuples k id all → found ≡ take most (flat_map (λ i. filter (goes_on i [] []) all) (range_with_len 0 n))

same_test : (long fits different named : Bool) → (long && fits && different && named) ≡ ((long && fits && different) && named)
same_test true true true b = refl
same_test true true false b = refl
same_test true false c b = refl
same_test false f c b = refl

-- all, of one task
pub all_of_task : (k : Kept) (id most n : ℕ) (t : TaskSets) (all : List Invocation) → AreTuples k id all → slice_get k.tasks n ≡ Some t → AreAll (record { task = t; bound = k.bound; number = n; id = id; most = most }) all
all_of_task k id most n t all is e = record {
  ascending = is.ascending;
  members = λ v h.
      is.members v
      ∙ ap (λ (o : Option TaskSets). is_some_and o (λ t. (length v.tags == length t.variables) && take_all_by t k.bound v.tags t.places v.objects && are_different v.objects) && names id v) (ap (slice_get k.tasks) h ∙ e)
      ∙ sym (same_test (length v.tags == length t.variables) (take_all_by t k.bound v.tags t.places v.objects) (are_different v.objects) (names id v));
}

pub found_none : (k : Kept) (id most : ℕ) → Found k id most 0 []
found_none k id zero all is = refl
found_none k id (suc most) all is = refl

pub found_more : (k : Kept) (id most n : ℕ) (s : Sought) (old new : List Invocation) → s ≡ record { task = s.task; bound = k.bound; number = n; id = id; most = most } → slice_get k.tasks n ≡ Some s.task →
    Found k id most n old → Adds s (picked s [] []) old new → Found k id most (n + 1) new
found_more k id most n s old new same e a b all is =
    let f = λ (i : ℕ). filter (goes_on i [] []) all in
    b all (subst (λ (z : Sought). AreAll z all) (sym same) (all_of_task k id most n s.task all is e))
    ∙ ap₂ (λ (m : ℕ) (i : ℕ). take m (old ++ f i)) (ap (λ z. z.most) same) (ap (λ z. z.number) same)
    ∙ ap (λ l. take most (l ++ f n)) (a all is)
    ∙ take_then most (flat_map f (range_with_len 0 n)) (f n)
    ∙ ap (take most) (one_more f n [])

pub found_all : (k : Kept) (id most n : ℕ) (found : List Invocation) → n ≡ length k.tasks → Found k id most n found → (all : List Invocation) → AreTuples k id all → found ≡ take most all
found_all k id most n found e a all is =
    a all is
    ∙ ap (take most)
    (ap (λ m. flat_map (λ i. filter (goes_on i [] []) all) (range_with_len 0 m)) e
    ∙ sym (in_parts all is.ascending (λ v. true) (λ i. goes_on i [] []) (range_with_len 0 (length k.tasks))
    (pairs_from_chain (λ x y. x < y) (range_with_len 0 (length k.tasks)) (chain_range 0 (length k.tasks)))
    (λ x y a b l p q.
    let g = going x [] [] a (and_parts (listed all a) (goes_on x [] [] a) p).1 in
    let h = going y [] [] b (and_parts (listed all b) (goes_on y [] [] b) q).1 in
    by_lower_task a b (subst (λ (m : ℕ). m < b.task) (sym g.task) (subst (λ (m : ℕ). x < m) (sym h.task) l)))
    (λ v l.
    let enabled = (and_parts (is_enabled_by k v) (names id v) (sym (is.members v) ∙ l)).0 in
    let low : v.task < length k.tasks = inside k.tasks v.task (λ t. (length v.tags == length t.variables) && take_all_by t k.bound v.tags t.places v.objects && are_different v.objects) enabled in
    sym (any_in (λ i. goes_on i [] [] v) v.task (range_with_len 0 (length k.tasks)) (in_range 0 (length k.tasks) v.task (omega arith) (omega arith))
    (and_from ((v.task == v.task) && true) true (and_from (v.task == v.task) true (eq-eqb v.task v.task refl) refl) refl))))
    ∙ filter_all all)
