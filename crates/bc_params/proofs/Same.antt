-- One value of the sets for the same bodies and instances.
use Rattle.std.proofs.Common.{◌≡◌, ℕ, zero, suc, ◌+◌, ◌<◌, inl, inr, Bool, true, false, cond, ◌&&◌, ◌||◌, ◌==◌, List, [], ◌∷◌, ◌++◌, length, get_or, Option, Some, None, refl, sym, ap, ◌∙◌, subst, arith, eqb-true, eq-eqb}
use Rattle.std.specs.Prelude.{slice_get, count_by}
use Rattle.std.specs.List.{list_any, All, Any}
use Rattle.std.proofs.lemmas.Bool.{cases_Bool, cond-true, cond-false, false≢true, or_left, or_cases, false_from_ne_true, cases_order}
use Rattle.std.proofs.lemmas.List.Folds.{Any-from_list_any}
use Rattle.std.proofs.lemmas.List.Sums.{sum_by-cons}
use Rattle.bc_data.specs.declared.run.Body.{Body}
use Rattle.bc_data.specs.declared.run.TagRef.{TagRef}
use Rattle.bc_data.specs.declared.run.TagRef.TheVariants as tag
use Rattle.bc_data.specs.Typed.{TypedParam, TypedTask}
use Rattle.bc_mean.specs.Enabled.{is_some_and, is_instance}
use Rattle.bc_params_sets.specs.declared.tag_index.Binding.{Binding}
use Rattle.bc_params_sets.specs.declared.place.Place.{Place}
use Rattle.bc_params_sets.specs.declared.place.TaskSets.{TaskSets}
use Rattle.bc_params_sets.specs.Members.{has, IsRising}
use Rattle.bc_params_sets.specs.Kept.{IsPlace, ArePlaces, AreTasks, fits}
use Rattle.bc_params.specs.Look.{put_look}
use Rattle.bc_params.specs.Places.{Each, AtEachPlace, is_of, places_of, params_of}
use Rattle.bc_params.specs.Laws.{SameLook, MoreTypes, OneSets, PlacesOfParams, PutBack, IsTyped, AreTyped, IsSamePlace}
use Rattle.bc_params.proofs.Pairs.{each_cons, each_nil, all_head, all_tail}

-- another look-up with the same bodies
places_seen : (look other : ℕ → Option Body) → ((x : ℕ) → other x ≡ look x) → (ps : List TypedParam) (qs : List Place) → ArePlaces look ps qs → ArePlaces other ps qs
places_seen look other e [] [] a = tt
places_seen look other e [] (q ∷ qs) a = absurd a
places_seen look other e (p ∷ ps) [] a = absurd a
places_seen look other e (p ∷ ps) (q ∷ qs) a = (record { class = a.0.class; guard = a.0.guard; binds = a.0.binds; objects = λ x. a.0.objects x ∙ ap (fits p) (sym (e x)) }, places_seen look other e ps qs a.1)

tasks_seen : (look other : ℕ → Option Body) → ((x : ℕ) → other x ≡ look x) → (ts : List TypedTask) (ss : List TaskSets) → AreTasks look ts ss → AreTasks other ts ss
tasks_seen look other e [] [] a = tt
tasks_seen look other e [] (s ∷ ss) a = absurd a
tasks_seen look other e (t ∷ ts) [] a = absurd a
tasks_seen look other e (t ∷ ts) (s ∷ ss) a = (record { places = places_seen look other e t.params s.places a.0.places; variables = a.0.variables }, tasks_seen look other e ts ss a.1)

-- a body carries the instance of a binding, of its type
carry : List ℕ → Binding → Option Body → Bool
carry types c o = is_some_and o (λ b. list_any (is_instance c.instance) b.tags && is_some_and (slice_get types c.instance) (λ own. own == c.tag_type))

pub seen_sets : SameLook
unfolding carry
seen_sets P look other types k e a = record {
  tasks = tasks_seen look other e P.tasks k.tasks a.tasks;
  bound = λ c. a.bound c ∙ ap (carry types c) (sym (e c.object));
}

-- further types
typed_at : (types : List ℕ) (n : ℕ) (t : TagRef) → is_instance n t ≡ true → IsTyped types t → n < length types
typed_at types n (tag.Old m) h l = subst (λ (k : ℕ). k < length types) (eqb-true m n h) l
typed_at types n (tag.New m) h l = absurd (false≢true h)

kept_front : (types more : List ℕ) (n : ℕ) → n < length types → slice_get (types ++ more) n ≡ slice_get types n
kept_front [] more n h = absurd (omega arith)
kept_front (t ∷ ts) more zero h = refl
kept_front (t ∷ ts) more (suc n) h = kept_front ts more n (omega arith)

front_only : (l x y : Bool) → (l ≡ true → x ≡ y) → (l && x) ≡ (l && y)
front_only true x y h = h refl
front_only false x y h = refl

carry_more : (types more : List ℕ) (c : Binding) (o : Option Body) → AreTyped types o → carry (types ++ more) c o ≡ carry types c o
unfolding carry
carry_more types more c None h = refl
carry_more types more c (Some b) h = front_only (list_any (is_instance c.instance) b.tags) (is_some_and (slice_get (types ++ more) c.instance) (λ own. own == c.tag_type)) (is_some_and (slice_get types c.instance) (λ own. own == c.tag_type))
    (λ s. let w : Any (λ t. is_instance c.instance t ≡ true) b.tags = Any-from_list_any (is_instance c.instance) b.tags s in
    let typed : IsTyped types w.1 = subst (IsTyped types) w.3 (h w.0 w.1 w.2) in
    ap (λ (o : Option ℕ). is_some_and o (λ own. own == c.tag_type)) (kept_front types more c.instance (typed_at types c.instance w.1 w.4 typed)))

pub wider_sets : MoreTypes
unfolding carry
wider_sets P look types more k h = record {
  wider = λ a. record { tasks = a.tasks; bound = λ c. a.bound c ∙ sym (carry_more types more c (look c.object) (h c.object)) };
  narrower = λ a. record { tasks = a.tasks; bound = λ c. a.bound c ∙ carry_more types more c (look c.object) (h c.object) };
}

-- ascending lists with the same members
rising_tail : (x : ℕ) (xs : List ℕ) → IsRising (x ∷ xs) → IsRising xs
rising_tail x xs up i j d h l = up (suc i) (suc j) d (omega arith) (omega arith)

above : (x : ℕ) (xs : List ℕ) (z : ℕ) → IsRising (x ∷ xs) → has xs z ≡ true → x < z
above x xs z up h =
    let w : Any (λ y. (y == z) ≡ true) xs = Any-from_list_any (λ y. y == z) xs h in
    let e : get_or xs w.0 w.1 ≡ z = w.3 ∙ eqb-true w.1 z w.4 in
    let l : x < get_or xs w.0 w.1 = up 0 (suc w.0) w.1 (omega arith) (omega arith) in
    omega arith

not_below : (x y : ℕ) (xs ys : List ℕ) → IsRising (y ∷ ys) → ((z : ℕ) → has (x ∷ xs) z ≡ has (y ∷ ys) z) → x < y → ⊥
not_below x y xs ys up h l =
    elim (or_cases (y == x) (has ys x) (sym (h x) ∙ or_left (x == x) (has xs x) (eq-eqb x x refl))) [
      | inl s ↦ let e : y ≡ x = eqb-true y x s in omega arith
      | inr s ↦ let m : y < x = above y ys x up s in omega arith
    ]

one_head : (x y : ℕ) (xs ys : List ℕ) → IsRising (x ∷ xs) → IsRising (y ∷ ys) → ((z : ℕ) → has (x ∷ xs) z ≡ has (y ∷ ys) z) → x ≡ y
one_head x y xs ys a b h = elim (cases_order x y) [
  | inl e ↦ e
  | inr o ↦ elim o [
    | inl l ↦ absurd (not_below x y xs ys b h l)
    | inr l ↦ absurd (not_below y x ys xs a (λ z. sym (h z)) l)
  ]
]

without : (s t m n : Bool) → s ≡ t → (s || m) ≡ (t || n) → (s ≡ true → (m ≡ false) × (n ≡ false)) → m ≡ n
without true t m n e h f = (f refl).0 ∙ sym (f refl).1
without false t m n e h f = h ∙ sym (ap (λ (x : Bool). x || n) e)

not_later : (x : ℕ) (xs : List ℕ) (z : ℕ) → IsRising (x ∷ xs) → x ≡ z → has xs z ≡ false
not_later x xs z up e = false_from_ne_true (has xs z) (λ s. let l : x < z = above x xs z up s in omega arith)

pub one_list : (xs ys : List ℕ) → IsRising xs → IsRising ys → ((z : ℕ) → has xs z ≡ has ys z) → ys ≡ xs
one_list [] [] a b h = refl
one_list [] (y ∷ ys) a b h = absurd (false≢true (h y ∙ or_left (y == y) (has ys y) (eq-eqb y y refl)))
one_list (x ∷ xs) [] a b h = absurd (false≢true (sym (h x) ∙ or_left (x == x) (has xs x) (eq-eqb x x refl)))
one_list (x ∷ xs) (y ∷ ys) a b h =
    let e : x ≡ y = one_head x y xs ys a b h in
    let rest : ys ≡ xs = one_list xs ys (rising_tail x xs a) (rising_tail y ys b) (λ z. without (x == z) (y == z) (has xs z) (has ys z) (ap (λ n. n == z) e) (h z)
    (λ s. (not_later x xs z a (eqb-true x z s), not_later y ys z b (sym e ∙ eqb-true x z s)))) in
    ap (λ n. n ∷ ys) (sym e) ∙ ap (λ (l : List ℕ). x ∷ l) rest

one_place : (look : ℕ → Option Body) (p : TypedParam) (q r : Place) → IsPlace look p q → IsPlace look p r → IsRising q.objects.members → IsRising r.objects.members → IsSamePlace q r
one_place look p q r a b up also = record {
  class = b.class ∙ sym a.class;
  binds = b.binds ∙ sym a.binds;
  members = one_list q.objects.members r.objects.members up also (λ z. a.objects z ∙ sym (b.objects z));
}

abbrev Up : Place → Type 0
Up q = IsRising q.objects.members

one_places : (look : ℕ → Option Body) (ps : List TypedParam) (qs rs : List Place) → ArePlaces look ps qs → ArePlaces look ps rs → All Up qs → All Up rs → Each IsSamePlace qs rs
one_places look [] [] [] a b u v = each_nil IsSamePlace
one_places look [] [] (r ∷ rs) a b u v = absurd b
one_places look [] (q ∷ qs) rs a b u v = absurd a
one_places look (p ∷ ps) [] rs a b u v = absurd a
one_places look (p ∷ ps) (q ∷ qs) [] a b u v = absurd b
one_places look (p ∷ ps) (q ∷ qs) (r ∷ rs) a b u v =
    each_cons IsSamePlace q r qs rs (one_place look p q r a.0 b.0 (all_head Up q qs u) (all_head Up r rs v)) (one_places look ps qs rs a.1 b.1 (all_tail Up q qs u) (all_tail Up r rs v))

abbrev TaskUp : TaskSets → Type 0
TaskUp t = All Up t.places

one_tasks : (look : ℕ → Option Body) (ts : List TypedTask) (ss us : List TaskSets) → AreTasks look ts ss → AreTasks look ts us → All TaskUp ss → All TaskUp us → Each (AtEachPlace IsSamePlace) ss us
one_tasks look [] [] [] a b u v = each_nil (AtEachPlace IsSamePlace)
one_tasks look [] [] (r ∷ rs) a b u v = absurd b
one_tasks look [] (q ∷ qs) rs a b u v = absurd a
one_tasks look (p ∷ ps) [] rs a b u v = absurd a
one_tasks look (p ∷ ps) (q ∷ qs) [] a b u v = absurd b
one_tasks look (t ∷ ts) (q ∷ qs) (r ∷ rs) a b u v =
    each_cons (AtEachPlace IsSamePlace) q r qs rs (record { places = one_places look t.params q.places r.places a.0.places b.0.places (all_head TaskUp q qs u) (all_head TaskUp r rs v); variables = b.0.variables ∙ sym a.0.variables })
    (one_tasks look ts qs rs a.1 b.1 (all_tail TaskUp q qs u) (all_tail TaskUp r rs v))

pub only_sets : OneSets
only_sets P look types j k u v a b = record {
  tasks = one_tasks look P.tasks j.tasks k.tasks a.tasks b.tasks u v;
  bound = λ c. b.bound c ∙ sym (a.bound c);
}

-- places and parameters of a class
both : (k l m n : ℕ) → k ≡ l → m ≡ n → k + m ≡ l + n
both k l m n e h = omega arith

abbrev has_class : Option ℕ → TypedParam → Bool
has_class class p = is_some_and class (λ c. p.class == c)

places_counted : (class : Option ℕ) (look : ℕ → Option Body) (ps : List TypedParam) (qs : List Place) → ArePlaces look ps qs → count_by (is_of class) qs ≡ count_by (has_class class) ps
places_counted class look [] [] a = refl
places_counted class look [] (q ∷ qs) a = absurd a
places_counted class look (p ∷ ps) [] a = absurd a
places_counted class look (p ∷ ps) (q ∷ qs) a =
    sum_by-cons (λ (r : Place). cond (is_of class r) 1 0) q qs ∙ (both (cond (is_of class q) 1 0) (cond (has_class class p) 1 0) (count_by (is_of class) qs) (count_by (has_class class) ps)
    (ap (λ x. cond (is_some_and class (λ c. x == c)) 1 0) a.0.class) (places_counted class look ps qs a.1)
    ∙ sym (sum_by-cons (λ (r : TypedParam). cond (has_class class r) 1 0) p ps))

tasks_counted : (class : Option ℕ) (look : ℕ → Option Body) (ts : List TypedTask) (ss : List TaskSets) → AreTasks look ts ss → places_of class ss ≡ params_of class ts
tasks_counted class look [] [] a = refl
tasks_counted class look [] (s ∷ ss) a = absurd a
tasks_counted class look (t ∷ ts) [] a = absurd a
tasks_counted class look (t ∷ ts) (s ∷ ss) a =
    sum_by-cons (λ (r : TaskSets). count_by (is_of class) r.places) s ss ∙ (both (count_by (is_of class) s.places) (count_by (has_class class) t.params) (places_of class ss) (params_of class ts)
    (places_counted class look t.params s.places a.0.places) (tasks_counted class look ts ss a.1)
    ∙ sym (sum_by-cons (λ (r : TypedTask). count_by (has_class class) r.params) t ts))

pub counted_sets : PlacesOfParams
counted_sets P look types k class a = tasks_counted class look P.tasks k.tasks a.tasks

-- a body put in and the old one put back
restored : (look : ℕ → Option Body) (id : ℕ) (new : Option Body) (x : ℕ) → look x ≡ put_look id (look id) (put_look id new look) x
restored look id new x = elim (cases_Bool (x == id)) [
  | inl s ↦ ap look (eqb-true x id s) ∙ sym (cond-true (x == id) (look id) (put_look id new look x) s)
  | inr s ↦ sym (cond-false (x == id) (look id) (put_look id new look x) s ∙ cond-false (x == id) new (look x) s)
]

pub restored_sets : PutBack
restored_sets P look types k id new a = seen_sets P (put_look id (look id) (put_look id new look)) look types k (restored look id new) a
