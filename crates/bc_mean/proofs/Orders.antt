-- The order of invocations is strict and total, and an ascending list is determined by its members.
use Rattle.std.proofs.Common.{◌≡◌, ℕ, ◌⊎◌, inl, inr, Bool, true, false, cond, ◌&&◌, ◌||◌, ◌==◌, List, [], ◌∷◌, ◌++◌, filter, refl, sym, ap, ap₂, ◌∙◌, subst, arith}
use Rattle.std.specs.Prelude.{nat_lt}
use Rattle.std.specs.declared.cmp.Ordering.{Ordering}
use Rattle.std.specs.declared.cmp.Ordering.TheVariants.{Less, Equal, Greater}
use Rattle.std.specs.Ordering.{ordering_then, ordering_reverse, nat_cmp, is_lt}
use Rattle.std.specs.Cmp.{IsTotalOrder, nat_cmp_total, then_total, on_total, tied_itself}
use Rattle.std.specs.Cmp.Lexicographic.{slice_cmp, nat_list_cmp_total, pointwise, bytes_decides}
use Rattle.std.specs.List.{AllByRecursion}
use Rattle.std.proofs.lemmas.Bool.{false≢true, and_parts, and_from, or_cases, or_left, or_right, cond_both, cases_Bool, cases_order, lt-ltb, le-ltb, eq-eqb, ne_eqb, eqb-true}
use Rattle.bc_data.specs.declared.run.Invocation.{Invocation}
use Rattle.bc_mean.specs.Orders.{invocation_cmp, precedes}
use Rattle.bc_mean.specs.Serial.{same_invocation, listed}
use Rattle.bc_mean.specs.Laws.{OneAscending, StrictlyOrdered}
use Rattle.bc_mean.proofs.Lists.{Chain, In, chain_from_pairs}

pub both_ways : (a b : Bool) → (a ≡ true → b ≡ true) → (b ≡ true → a ≡ true) → a ≡ b
both_ways true true f g = refl
both_ways true false f g = sym (f refl)
both_ways false true f g = g refl
both_ways false false f g = refl

-- the order of invocations, from that of numbers
pub invocations_total : IsTotalOrder invocation_cmp
invocations_total =
    then_total (on_total (λ (v : Invocation). v.task) nat_cmp_total) (then_total (on_total (λ (v : Invocation). v.objects) nat_list_cmp_total) (on_total (λ (v : Invocation). v.tags) nat_list_cmp_total))

pub less_true : (o : Ordering) → is_lt o ≡ true → o ≡ Less
less_true Less h = refl
less_true Equal h = absurd (false≢true h)
less_true Greater h = absurd (false≢true h)

then_equal : (a b : Ordering) → ordering_then a b ≡ Equal → (a ≡ Equal) × (b ≡ Equal)
then_equal Less b h = cc
then_equal Equal b h = (refl, h)
then_equal Greater b h = cc

pub numbers_equal : (x y : ℕ) → nat_cmp x y ≡ Equal → x ≡ y
numbers_equal x y h = elim (cases_order x y) [
  | inl e ↦ e
  | inr d ↦ elim d [
    | inl l ↦ let e : nat_lt x y ≡ true = lt-ltb x y l in let n : nat_cmp x y ≡ Less = rw e refl in absurd (not_less (sym n ∙ h))
    | inr l ↦ let e : nat_lt x y ≡ false = le-ltb x y (omega arith) in let f : (x == y) ≡ false = ne_eqb x y (λ e. omega arith) in let n : nat_cmp x y ≡ Greater = rw (e, f) refl in absurd (not_greater (sym n ∙ h))
  ]
]
  where
    not_less : Less ≡ Equal → ⊥
    not_less e = cc

    not_greater : Greater ≡ Equal → ⊥
    not_greater e = cc

pub lists_equal : (xs ys : List ℕ) → slice_cmp nat_cmp xs ys ≡ Equal → xs ≡ ys
lists_equal [] [] h = refl
lists_equal [] (y ∷ ys) h = cc
lists_equal (x ∷ xs) [] h = cc
lists_equal (x ∷ xs) (y ∷ ys) h =
    let q = then_equal (nat_cmp x y) (slice_cmp nat_cmp xs ys) h in
    ap₂ (λ (a : ℕ) (l : List ℕ). a ∷ l) (numbers_equal x y q.0) (lists_equal xs ys q.1)

pub same_parts : (v w : Invocation) → v.task ≡ w.task → v.objects ≡ w.objects → v.tags ≡ w.tags → v ≡ w
same_parts v w a b c = λ i. record { task = a i; objects = b i; tags = c i }

pub invocations_equal : (v w : Invocation) → invocation_cmp v w ≡ Equal → v ≡ w
invocations_equal v w h =
    let q = then_equal (nat_cmp v.task w.task) (ordering_then (slice_cmp nat_cmp v.objects w.objects) (slice_cmp nat_cmp v.tags w.tags)) h in
    let r = then_equal (slice_cmp nat_cmp v.objects w.objects) (slice_cmp nat_cmp v.tags w.tags) q.1 in
    same_parts v w (numbers_equal v.task w.task q.0) (lists_equal v.objects w.objects r.0) (lists_equal v.tags w.tags r.1)

three_ways : (o : Ordering) → (o ≡ Equal) ⊎ ((is_lt o ≡ true) ⊎ (ordering_reverse o ≡ Less))
three_ways Less = inr (inl refl)
three_ways Equal = inl refl
three_ways Greater = inr (inr refl)

pub never_before_itself : (v : Invocation) → precedes v v ≡ false
never_before_itself v = ap is_lt (tied_itself invocations_total v)

pub precedes_trans : (u v w : Invocation) → precedes u v ≡ true → precedes v w ≡ true → precedes u w ≡ true
precedes_trans u v w h k = ap is_lt (invocations_total.trans u v w (less_true (invocation_cmp u v) h) (less_true (invocation_cmp v w) k))

precedes_total : (v w : Invocation) → (v ≡ w) ⊎ ((precedes v w ≡ true) ⊎ (precedes w v ≡ true))
precedes_total v w = elim (three_ways (invocation_cmp v w)) [
  | inl e ↦ inl (invocations_equal v w e)
  | inr d ↦ elim d [ inl l ↦ inr (inl l) | inr l ↦ inr (inr (ap is_lt (invocations_total.antisymm w v ∙ l))) ]
]

pub strictly_ordered : StrictlyOrdered
strictly_ordered = record { irreflexive = never_before_itself; transitive = precedes_trans; total = precedes_total }

-- members
pub same_true : (v w : Invocation) → same_invocation v w ≡ true → v ≡ w
same_true v w h =
    let q = and_parts ((v.task == w.task) && pointwise (λ x y. x == y) v.objects w.objects) (pointwise (λ x y. x == y) v.tags w.tags) h in
    let r = and_parts (v.task == w.task) (pointwise (λ x y. x == y) v.objects w.objects) q.0 in
    same_parts v w (eqb-true v.task w.task r.0) ((bytes_decides v.objects w.objects).0 r.1) ((bytes_decides v.tags w.tags).0 q.1)

pub same_itself : (v : Invocation) → same_invocation v v ≡ true
same_itself v =
    and_from ((v.task == v.task) && pointwise (λ x y. x == y) v.objects v.objects) (pointwise (λ x y. x == y) v.tags v.tags)
    (and_from (v.task == v.task) (pointwise (λ x y. x == y) v.objects v.objects) (eq-eqb v.task v.task refl) ((bytes_decides v.objects v.objects).1 refl))
    ((bytes_decides v.tags v.tags).1 refl)

pub listed_here : (w : Invocation) (ws : List Invocation) → listed (w ∷ ws) w ≡ true
listed_here w ws = or_left (same_invocation w w) (listed ws w) (same_itself w)

pub listed_later : (w : Invocation) (ws : List Invocation) (v : Invocation) → listed ws v ≡ true → listed (w ∷ ws) v ≡ true
listed_later w ws v h = or_right (same_invocation v w) (listed ws v) h

pub listed_cases : (w : Invocation) (ws : List Invocation) (v : Invocation) → listed (w ∷ ws) v ≡ true → (v ≡ w) ⊎ (listed ws v ≡ true)
listed_cases w ws v h = elim (or_cases (same_invocation v w) (listed ws v) h) [ inl e ↦ inl (same_true v w e) | inr e ↦ inr e ]

pub listed_in : (v : Invocation) (ws : List Invocation) → In v ws → listed ws v ≡ true
listed_in v [] h = absurd h
listed_in v (w ∷ ws) h = elim h [
  | inl e ↦ subst (λ (u : Invocation). listed (w ∷ ws) u ≡ true) e (listed_here w ws)
  | inr e ↦ listed_later w ws v (listed_in v ws e)
]

-- what holds of each of a list holds of a listed one
pub each_listed : (P : Invocation → Type 0) (ws : List Invocation) (v : Invocation) → AllByRecursion P ws → listed ws v ≡ true → P v
each_listed P [] v a h = absurd (false≢true h)
each_listed P (w ∷ ws) v a h = elim (listed_cases w ws v h) [ inl e ↦ subst P (sym e) a.0 | inr e ↦ each_listed P ws v a.1 e ]

abbrev Before : Invocation → Invocation → Type 0
Before v w = precedes v w ≡ true

not_before_itself : (v : Invocation) → precedes v v ≡ true → ⊥
not_before_itself v h = false≢true (sym (never_before_itself v) ∙ h)

-- Ascending lists with the same members begin alike and go on alike.
same_first : (v w : Invocation) (vs ws : List Invocation) → AllByRecursion (Before v) vs → AllByRecursion (Before w) ws → listed (w ∷ ws) v ≡ true → listed (v ∷ vs) w ≡ true → v ≡ w
same_first v w vs ws lv lw hv hw = elim (listed_cases w ws v hv) [
  | inl e ↦ e
  | inr e ↦ elim (listed_cases v vs w hw) [
    | inl d ↦ sym d
    | inr d ↦ absurd (not_before_itself v (precedes_trans v w v (each_listed (Before v) vs w lv d) (each_listed (Before w) ws v lw e)))
  ]
]

rest_from : (v w : Invocation) (vs ws : List Invocation) (u : Invocation) → v ≡ w → AllByRecursion (Before v) vs → ((u : Invocation) → listed (v ∷ vs) u ≡ listed (w ∷ ws) u) → listed vs u ≡ true → listed ws u ≡ true
rest_from v w vs ws u e lv h m = elim (listed_cases w ws u (sym (h u) ∙ listed_later v vs u m)) [
  | inl d ↦ absurd (not_before_itself v (each_listed (Before v) vs v lv (subst (λ (z : Invocation). listed vs z ≡ true) (d ∙ sym e) m)))
  | inr d ↦ d
]

one_chain : (vs ws : List Invocation) → Chain Before vs → Chain Before ws → ((v : Invocation) → listed vs v ≡ listed ws v) → vs ≡ ws
one_chain [] [] p q h = refl
one_chain [] (w ∷ ws) p q h = absurd (false≢true (h w ∙ listed_here w ws))
one_chain (v ∷ vs) [] p q h = absurd (false≢true (sym (h v) ∙ listed_here v vs))
one_chain (v ∷ vs) (w ∷ ws) p q h =
    let e : v ≡ w = same_first v w vs ws p.0 q.0 (sym (h v) ∙ listed_here v vs) (h w ∙ listed_here w ws) in
    ap₂ (λ (a : Invocation) (l : List Invocation). a ∷ l) e (one_chain vs ws p.1 q.1 (λ u. both_ways (listed vs u) (listed ws u) (rest_from v w vs ws u e p.0 h) (rest_from w v ws vs u (sym e) q.0 (λ z. sym (h z)))))

pub one_ascending : OneAscending
one_ascending vs ws p q h = one_chain vs ws (chain_from_pairs Before vs p) (chain_from_pairs Before ws q) h

-- filters
filter_to : (p : Invocation → Bool) (ws : List Invocation) (v : Invocation) → listed (filter p ws) v ≡ true → (listed ws v && p v) ≡ true
filter_to p [] v h = absurd (false≢true h)
filter_to p (w ∷ ws) v h = elim (cases_Bool (p w)) [
  | inl e ↦ elim (listed_cases w (filter p ws) v (subst (λ (b : Bool). listed (cond b (w ∷ filter p ws) (filter p ws)) v ≡ true) e h)) [
    | inl d ↦ and_from (listed (w ∷ ws) v) (p v) (subst (λ (z : Invocation). listed (w ∷ ws) z ≡ true) (sym d) (listed_here w ws)) (subst (λ (z : Invocation). p z ≡ true) (sym d) e)
    | inr d ↦ later p w ws v (filter_to p ws v d)
  ]
  | inr e ↦ later p w ws v (filter_to p ws v (subst (λ (b : Bool). listed (cond b (w ∷ filter p ws) (filter p ws)) v ≡ true) e h))
]
  where
    later : (p : Invocation → Bool) (w : Invocation) (ws : List Invocation) (v : Invocation) → (listed ws v && p v) ≡ true → (listed (w ∷ ws) v && p v) ≡ true
    later p w ws v h = let q = and_parts (listed ws v) (p v) h in and_from (listed (w ∷ ws) v) (p v) (listed_later w ws v q.0) q.1

filter_from : (p : Invocation → Bool) (ws : List Invocation) (v : Invocation) → listed ws v ≡ true → p v ≡ true → listed (filter p ws) v ≡ true
filter_from p [] v h k = absurd (false≢true h)
filter_from p (w ∷ ws) v h k = elim (listed_cases w ws v h) [
  | inl d ↦ subst (λ (b : Bool). listed (cond b (w ∷ filter p ws) (filter p ws)) v ≡ true) (sym (subst (λ (z : Invocation). p z ≡ true) d k)) (subst (λ (z : Invocation). listed (w ∷ filter p ws) z ≡ true) (sym d) (listed_here w (filter p ws)))
  | inr d ↦ cond_both (p w) (w ∷ filter p ws) (filter p ws) (λ l. listed l v ≡ true) (λ _. listed_later w (filter p ws) v (filter_from p ws v d k)) (λ _. filter_from p ws v d k)
]

pub listed_filter : (p : Invocation → Bool) (ws : List Invocation) (v : Invocation) → listed (filter p ws) v ≡ (listed ws v && p v)
listed_filter p ws v = both_ways (listed (filter p ws) v) (listed ws v && p v) (filter_to p ws v) (λ h. let q = and_parts (listed ws v) (p v) h in filter_from p ws v q.0 q.1)

pub listed_append : (vs ws : List Invocation) (v : Invocation) → listed (vs ++ ws) v ≡ (listed vs v || listed ws v)
listed_append [] ws v = refl
listed_append (u ∷ us) ws v = let h = listed_append us ws v in grind (arith, h)
