-- That few candidates are enough.
use Rattle.std.proofs.Common.{◌≡◌, ℕ, zero, suc, ◌+◌, ◌-◌, ◌<◌, ◌≤◌, ◌⊎◌, inl, inr, Bool, true, false, not, ◌&&◌, ◌||◌, ◌==◌, if◌then◌else◌, List, [], ◌∷◌, length, map, take, drop, get_or, Option, Some, None, refl, sym, ap, ap₂, ◌∙◌, subst, arith}
use Rattle.std.specs.Prelude.{slice_get}
use Rattle.std.specs.List.{list_all, list_any}
use Rattle.std.proofs.lemmas.Bool.{false≢true, and_parts, and_from, or_cases, or_left, or_right, cases_lt, eq-eqb, eqb-true}
use Rattle.std.proofs.lemmas.Option.{slice_get_read}
use Rattle.std.proofs.lemmas.List.{take_all, take_rest, map_more}
use Rattle.std.proofs.lemmas.List.Folds.{list_any-append}
use Rattle.bc_mean.specs.Enabled.{is_some_and}
use Rattle.bc_params_sets.specs.declared.place.Place.{Place}
use Rattle.bc_params_sets.specs.declared.place.TaskSets.{TaskSets}
use Rattle.bc_params_sets.specs.declared.tag_index.Binding.{Binding}
use Rattle.bc_params_sets.specs.Members.{has}
use Rattle.bc_params_sets.specs.Bindings.{is_bound, same_binding}
use Rattle.bc_params_sets.specs.Kept.{is_in, carries_by, takes_by, take_all_by}
use Rattle.bc_params_search.specs.Search.{Sought, Covers, NoneBegins, binder, all_carry, begins}
use Rattle.bc_params_search.specs.Tied.{Shares, Keeps, HasNear, HasTied}
use Rattle.bc_params_search.proofs.Taken.{binder_carries, all_carry_taken, taken, taken_at, takes_carries, some_weaker}
use Rattle.bc_params_search.proofs.NextInstance.{IsOf, found_among}
use Rattle.bc_params_search.proofs.Steps.{no_binding}

-- one of the first, or the next
has_more : (f : Binding → ℕ) (bs : List Binding) (i x : ℕ) → i < length bs → has (map f (take (i + 1) bs)) x ≡ true → (has (map f (take i bs)) x ≡ true) ⊎ (f (get_or bs i no_binding) ≡ x)
has_more f bs i x l h =
    elim (or_cases (has (map f (take i bs)) x) (has (f (get_or bs i no_binding) ∷ []) x)
    (sym (ap (λ (xs : List ℕ). has xs x) (map_more f bs i no_binding l) ∙ list_any-append (λ y. y == x) (map f (take i bs)) (f (get_or bs i no_binding) ∷ [])) ∙ h)) [
      | inl e ↦ inl e
      | inr e ↦ elim (or_cases (f (get_or bs i no_binding) == x) false e) [ inl d ↦ inr (eqb-true _ _ d) | inr d ↦ absurd (false≢true d) ]
    ]

object_has : (bs : List Binding) (c : Binding) → is_bound bs c ≡ true → has (map (λ b. b.object) bs) c.object ≡ true
object_has [] c h = absurd (false≢true h)
object_has (b ∷ bs) c h = elim (or_cases (same_binding c b) (is_bound bs c) h) [
  | inl e ↦
      let f = (and_parts (c.object == b.object) (c.tag_type == b.tag_type) (and_parts ((c.object == b.object) && (c.tag_type == b.tag_type)) (c.instance == b.instance) e).0).0 in
      or_left (b.object == c.object) (has (map (λ b. b.object) bs) c.object) (eq-eqb b.object c.object (sym (eqb-true c.object b.object f)))
  | inr e ↦ or_right (b.object == c.object) (has (map (λ b. b.object) bs) c.object) (object_has bs c e)
]

-- the bindings of objects to the instance of the type
abbrev pub IsOn : List Binding → ℕ → ℕ → List Binding → Type 0
IsOn bound type n os = (c : Binding) → is_bound os c ≡ (is_bound bound c && ((c.tag_type == type) && (c.instance == n)))

object_among : (bound os : List Binding) (type n x : ℕ) → IsOn bound type n os → is_bound bound (record { object = x; tag_type = type; instance = n }) ≡ true → has (map (λ b. b.object) os) x ≡ true
object_among bound os type n x on h =
    let c : Binding = record { object = x; tag_type = type; instance = n } in
    object_has os c (on c ∙ and_from (is_bound bound c) ((type == type) && (n == n)) h (and_from (type == type) (n == n) (eq-eqb type type refl) (eq-eqb n n refl)))

-- the objects that carry one of these instances
abbrev pub HasThose : List Binding → ℕ → List Binding → List ℕ → Type 0
HasThose bound type bs xs = (n x : ℕ) → has (map (λ b. b.instance) bs) n ≡ true → is_bound bound (record { object = x; tag_type = type; instance = n }) ≡ true → has xs x ≡ true

pub those_more : (bound bs os : List Binding) (type i : ℕ) (old new : List ℕ) → i < length bs → HasThose bound type (take i bs) old → Keeps old new →
    IsOn bound type (get_or bs i no_binding).instance os → ((x : ℕ) → has (map (λ b. b.object) os) x ≡ true → has new x ≡ true) → HasThose bound type (take (i + 1) bs) new
those_more bound bs os type i old new l before kept on added n x h k = elim (has_more (λ b. b.instance) bs i n l h) [
  | inl e ↦ kept x (before n x e k)
  | inr e ↦ added x (object_among bound os type (get_or bs i no_binding).instance x on (subst (λ (m : ℕ). is_bound bound (record { object = x; tag_type = type; instance = m }) ≡ true) (sym e) k))
]

pub those_near : (bound bs : List Binding) (object type i : ℕ) (xs : List ℕ) → IsOf bound object type bs → length bs ≤ i → HasThose bound type (take i bs) xs → HasNear bound object type xs
those_near bound bs object type i xs of past those n x h k =
    those n x (ap (λ (cs : List Binding). has (map (λ b. b.instance) cs) n) (take_all i bs past) ∙ found_among bound bs object type n of h) k

pub tied_from_near : (t : TaskSets) (bound : List Binding) (p q : Place) (object type : ℕ) (xs : List ℕ) → Shares t p q type → HasNear bound object type xs → HasTied t bound p q object xs
tied_from_near t bound p q object type xs shares near ns x hq hp =
    let b = shares.0 in
    both (slice_get ns b)
    (sym (ap (λ (o : Option ℕ). is_some_and o (λ type. is_some_and (slice_get ns b) (λ n. is_bound bound (record { object = object; tag_type = type; instance = n })))) shares.3) ∙ takes_carries t bound ns q object b hq shares.2)
    (sym (ap (λ (o : Option ℕ). is_some_and o (λ type. is_some_and (slice_get ns b) (λ n. is_bound bound (record { object = x; tag_type = type; instance = n })))) shares.3) ∙ takes_carries t bound ns p x b hp shares.1)
  where
    both : (o : Option ℕ) → is_some_and o (λ n. is_bound bound (record { object = object; tag_type = type; instance = n })) ≡ true → is_some_and o (λ n. is_bound bound (record { object = x; tag_type = type; instance = n })) ≡ true → has xs x ≡ true
    both None h k = absurd (false≢true h)
    both (Some n) h k = near n x h k

-- a place with which an earlier one is tied
begins_at : (front ys : List ℕ) (j x : ℕ) → begins front ys ≡ true → slice_get front j ≡ Some x → slice_get ys j ≡ Some x
begins_at [] ys j x h e = cc
begins_at (a ∷ front) [] j x h e = absurd (false≢true h)
begins_at (a ∷ front) (y ∷ ys) zero x h e = let f : a ≡ y = eqb-true a y (and_parts (a == y) (begins front ys) h).0 in cc
begins_at (a ∷ front) (y ∷ ys) (suc j) x h e = begins_at front ys j x (and_parts (a == y) (begins front ys) h).1 e

pub front_covers : (s : Sought) (front xs : List ℕ) (p q : Place) (j object : ℕ) → slice_get s.task.places (length front) ≡ Some p → slice_get s.task.places j ≡ Some q → slice_get front j ≡ Some object →
    HasTied s.task s.bound p q object xs → Covers s front xs
front_covers s front xs p q j object here there at tied = record {
  each = λ v h b.
      let t = taken s v h in
      let o = ap (λ (o : Option ℕ). is_some_and o (takes_by s.task s.bound v.tags q)) (begins_at front v.objects j object b at) in
      some_weaker (slice_get v.objects (length front)) (takes_by s.task s.bound v.tags p) (has xs)
      (λ x k. tied v.tags x (sym o ∙ taken_at s.task s.bound v.tags s.task.places v.objects j q t.objects there) k)
      (taken_at s.task s.bound v.tags s.task.places v.objects (length front) p t.objects here);
}

-- where the object that is to be named can stand, if it is not in front
pub record StandsLater (t : TaskSets) (bound : List Binding) (ns : List ℕ) (qs : List Place) (id i : ℕ) : Type 0 where
  pub at : ℕ
  pub place : Place
  pub later : i < at
  pub there : slice_get qs at ≡ Some place
  pub takes : takes_by t bound ns place id ≡ true

module _ (t : TaskSets) (bound : List Binding) (ns : List ℕ) (id : ℕ) where
  abbrev pub Named : List Place → List ℕ → ℕ → Type 0
  Named qs xs i = (slice_get xs i ≡ Some id) ⊎ StandsLater t bound ns qs id i

  one_later : (q : Place) (qs : List Place) (x : ℕ) (xs : List ℕ) (i : ℕ) → Named qs xs i → Named (q ∷ qs) (x ∷ xs) (suc i)
  one_later q qs x xs i n = elim n [
    | inl e ↦ inl e
    | inr l ↦ let low = l.later in inr (record { at = suc l.at; place = l.place; later = omega arith; there = l.there; takes = l.takes })
  ]

  behind : (q : Place) (qs : List Place) (x : ℕ) (xs : List ℕ) → take_all_by t bound ns qs xs ≡ true → has xs id ≡ true → StandsLater t bound ns (q ∷ qs) id 0
  behind q [] x [] h m = absurd (false≢true m)
  behind q [] x (y ∷ xs) h m = absurd (false≢true h)
  behind q (p ∷ qs) x [] h m = absurd (false≢true m)
  behind q (p ∷ qs) x (y ∷ xs) h m =
      let k = and_parts (takes_by t bound ns p y) (take_all_by t bound ns qs xs) h in
      elim (or_cases (y == id) (has xs id) m) [
        | inl e ↦ record { at = 1; place = p; later = omega arith; there = refl; takes = subst (λ (z : ℕ). takes_by t bound ns p z ≡ true) (eqb-true y id e) k.0 }
        | inr e ↦ let l = behind p qs y xs k.1 e in record { at = suc l.at; place = l.place; later = omega arith; there = l.there; takes = l.takes }
      ]

  pub named_where : (front : List ℕ) (qs : List Place) (xs : List ℕ) → take_all_by t bound ns qs xs ≡ true → begins front xs ≡ true → has xs id ≡ true → has front id ≡ false → Named qs xs (length front)
  named_where [] [] [] h b m off = absurd (false≢true m)
  named_where [] [] (x ∷ xs) h b m off = absurd (false≢true h)
  named_where [] (q ∷ qs) [] h b m off = absurd (false≢true m)
  named_where [] (q ∷ qs) (x ∷ xs) h b m off = elim (or_cases (x == id) (has xs id) m) [
    | inl e ↦ inl (ap (λ (y : ℕ). Some y) (eqb-true x id e))
    | inr e ↦ inr (behind q qs x xs (and_parts (takes_by t bound ns q x) (take_all_by t bound ns qs xs) h).1 e)
  ]
  named_where (a ∷ front) qs [] h b m off = absurd (false≢true m)
  named_where (a ∷ front) [] (x ∷ xs) h b m off = absurd (false≢true h)
  named_where (a ∷ front) (q ∷ qs) (x ∷ xs) h b m off =
      let k = and_parts (a == x) (begins front xs) b in
      let n = neither (a == id) (has front id) off in
      one_later q qs x xs (length front)
      (named_where front qs xs (and_parts (takes_by t bound ns q x) (take_all_by t bound ns qs xs) h).1 k.1
      (elim (or_cases (x == id) (has xs id) m) [
        | inl e ↦ absurd (false≢true (sym n.0 ∙ subst (λ (y : ℕ). (y == id) ≡ true) (sym (eqb-true a x k.0)) e))
        | inr e ↦ e
      ])
      n.1)
    where
      neither : (a b : Bool) → (a || b) ≡ false → (a ≡ false) × (b ≡ false)
      neither true b h = absurd (false≢true (sym h))
      neither false b h = (refl, h)

pub named_covers : (s : Sought) (front xs : List ℕ) (p : Place) → slice_get s.task.places (length front) ≡ Some p → has front s.id ≡ false → has xs s.id ≡ true →
    ((j : ℕ) (q : Place) → length front < j → slice_get s.task.places j ≡ Some q → is_in q s.id ≡ true → HasTied s.task s.bound p q s.id xs) → Covers s front xs
named_covers s front xs p here off named tied = record {
  each = λ v h b.
      let t = taken s v h in
      elim (named_where s.task s.bound v.tags s.id front s.task.places v.objects t.objects b t.named off) [
        | inl e ↦ ap (λ (o : Option ℕ). is_some_and o (has xs)) e ∙ named
        | inr l ↦
            some_weaker (slice_get v.objects (length front)) (takes_by s.task s.bound v.tags p) (has xs)
            (λ x k. tied l.at l.place l.later l.there (and_parts (is_in l.place s.id) (list_all (carries_by s.task s.bound v.tags s.id) l.place.binds) l.takes).0 v.tags x l.takes k)
            (taken_at s.task s.bound v.tags s.task.places v.objects (length front) p t.objects here)
      ];
}

any_behind : (p : Place → Bool) (qs : List Place) (k j : ℕ) (q : Place) → k ≤ j → slice_get qs j ≡ Some q → p q ≡ true → list_any p (drop k qs) ≡ true
any_behind p [] k j q l e h = cc
any_behind p (r ∷ qs) zero zero q l e h =
    let f : r ≡ q = cc in
    or_left (p r) (list_any p qs) (subst (λ (z : Place). p z ≡ true) (sym f) h)
any_behind p (r ∷ qs) zero (suc j) q l e h = or_right (p r) (list_any p qs) (any_behind p qs zero j q (omega arith) e h)
any_behind p (r ∷ qs) (suc k) zero q l e h = absurd (omega arith)
any_behind p (r ∷ qs) (suc k) (suc j) q l e h = any_behind p qs k j q (omega arith) e h

-- where no later place has the object in its set
pub alone_covers : (s : Sought) (front : List ℕ) → has front s.id ≡ false → list_any (λ q. is_in q s.id) (drop (length front + 1) s.task.places) ≡ false → Covers s front (s.id ∷ [])
alone_covers s front off none = record {
  each = λ v h b.
      let t = taken s v h in
      elim (named_where s.task s.bound v.tags s.id front s.task.places v.objects t.objects b t.named off) [
        | inl e ↦ ap (λ (o : Option ℕ). is_some_and o (has (s.id ∷ []))) e ∙ or_left (s.id == s.id) false (eq-eqb s.id s.id refl)
        | inr l ↦
            let low = l.later in
            absurd (false≢true (sym none ∙ any_behind (λ q. is_in q s.id) s.task.places (length front + 1) l.at l.place (omega arith) l.there
            (and_parts (is_in l.place s.id) (list_all (carries_by s.task s.bound v.tags s.id) l.place.binds) l.takes).0))
      ];
}

pub tied_more : (t : TaskSets) (bound : List Binding) (p : Place) (id low i : ℕ) (ps : List Place) (r : Place) (old new : List ℕ) → ps ≡ t.places → r ≡ get_or ps i r → i < length ps →
    ((j : ℕ) (q : Place) → low < j → j < i → slice_get t.places j ≡ Some q → is_in q id ≡ true → HasTied t bound p q id old) →
    Keeps old new → (is_in r id ≡ true → HasTied t bound p r id new) →
    (j : ℕ) (q : Place) → low < j → j < i + 1 → slice_get t.places j ≡ Some q → is_in q id ≡ true → HasTied t bound p q id new
tied_more t bound p id low i ps r old new e at l before kept here j q above below there is =
    elim (cases_lt j i) [
      | inl lt ↦ λ ns x hq hp. kept x (before j q above lt there is ns x hq hp)
      | inr ge ↦
          let same : j ≡ i = omega arith in
          let read : slice_get ps i ≡ Some r = slice_get_read ps (length ps) i r refl l at in
          let f : r ≡ q = some_inside (sym read ∙ ap₂ (λ (xs : List Place) (k : ℕ). slice_get xs k) e (sym same) ∙ there) in
          subst (λ (z : Place). is_in z id ≡ true → HasTied t bound p z id new) f here is
    ]
  where
    some_inside : {x y : Place} → Some x ≡ Some y → x ≡ y
    some_inside e = cc

pub not_true : (b : Bool) → not b ≡ true → b ≡ false
not_true true h = absurd (false≢true h)
not_true false h = refl

-- the later places, as a slice
pub later_places : (ps : List Place) (i : ℕ) → take (length ps - i) (drop i ps) ≡ drop i ps
later_places ps i = take_rest ps i

-- objects in front of others
binder_front : (qs : List Place) (xs ys : List ℕ) (b x : ℕ) → begins xs ys ≡ true → binder qs xs b ≡ Some x → binder qs ys b ≡ Some x
binder_front [] xs ys b x h e = cc
binder_front (q ∷ qs) [] ys b x h e = cc
binder_front (q ∷ qs) (a ∷ xs) [] b x h e = absurd (false≢true h)
binder_front (q ∷ qs) (a ∷ xs) (y ∷ ys) b x h e =
    let k = and_parts (a == y) (begins xs ys) h in
    at_first (has q.binds b) (eqb-true a y k.0) e (binder_front qs xs ys b x k.1)
  where
    at_first : (c : Bool) → a ≡ y → (if c then Some a else binder qs xs b) ≡ Some x → (binder qs xs b ≡ Some x → binder qs ys b ≡ Some x) → (if c then Some y else binder qs ys b) ≡ Some x
    at_first true f k r = ap (λ (n : ℕ). Some n) (sym f) ∙ k
    at_first false f k r = r k

all_carry_front : (bound : List Binding) (b type n : ℕ) (qs : List Place) (xs ys : List ℕ) → begins xs ys ≡ true → all_carry bound qs ys b type n ≡ true → all_carry bound qs xs b type n ≡ true
all_carry_front bound b type n [] xs ys h e = refl
all_carry_front bound b type n (q ∷ qs) [] ys h e = refl
all_carry_front bound b type n (q ∷ qs) (a ∷ xs) [] h e = absurd (false≢true h)
all_carry_front bound b type n (q ∷ qs) (a ∷ xs) (y ∷ ys) h e =
    let k = and_parts (a == y) (begins xs ys) h in
    let mine = λ (x : ℕ). not (has q.binds b) || is_bound bound (record { object = x; tag_type = type; instance = n }) in
    let c = and_parts (mine y) (all_carry bound qs ys b type n) e in
    and_from (mine a) (all_carry bound qs xs b type n) (subst (λ (x : ℕ). mine x ≡ true) (sym (eqb-true a y k.0)) c.0) (all_carry_front bound b type n qs xs ys k.1 c.1)

any_instance : (p : ℕ → Bool) (bs : List Binding) (c : Binding) → is_bound bs c ≡ true → p c.instance ≡ true → list_any (λ b. p b.instance) bs ≡ true
any_instance p [] c h k = absurd (false≢true h)
any_instance p (b ∷ bs) c h k = elim (or_cases (same_binding c b) (is_bound bs c) h) [
  | inl e ↦
      or_left (p b.instance) (list_any (λ b. p b.instance) bs)
      (subst (λ (n : ℕ). p n ≡ true) (eqb-true c.instance b.instance (and_parts ((c.object == b.object) && (c.tag_type == b.tag_type)) (c.instance == b.instance) e).1) k)
  | inr e ↦ or_right (p b.instance) (list_any (λ b. p b.instance) bs) (any_instance p bs c e k)
]

-- where the variable has no type
pub none_typed : (s : Sought) (objects : List ℕ) (b x : ℕ) → binder s.task.places objects b ≡ Some x → slice_get s.task.variables b ≡ None → NoneBegins s objects
none_typed s objects b x e f v h k =
    let t = taken s v h in
    let c = binder_carries s.task s.bound v.tags s.task.places v.objects b x t.objects (binder_front s.task.places objects v.objects b x k e) in
    false≢true (sym (ap (λ (o : Option ℕ). is_some_and o (λ type. is_some_and (slice_get v.tags b) (λ n. is_bound s.bound (record { object = x; tag_type = type; instance = n })))) f) ∙ c)

-- where no instance is carried by each
pub none_carried : (s : Sought) (objects : List ℕ) (bs : List Binding) (b x type : ℕ) → binder s.task.places objects b ≡ Some x → slice_get s.task.variables b ≡ Some type → IsOf s.bound x type bs →
    list_any (λ c. all_carry s.bound s.task.places objects b type c.instance) bs ≡ false → NoneBegins s objects
none_carried s objects bs b x type e f of none v h k =
    let t = taken s v h in
    let c = binder_carries s.task s.bound v.tags s.task.places v.objects b x t.objects (binder_front s.task.places objects v.objects b x k e) in
    at_instance (slice_get v.tags b) refl
    (sym (ap (λ (o : Option ℕ). is_some_and o (λ type. is_some_and (slice_get v.tags b) (λ n. is_bound s.bound (record { object = x; tag_type = type; instance = n })))) f) ∙ c)
    (λ n at. all_carry_front s.bound b type n s.task.places objects v.objects k (all_carry_taken s.task s.bound v.tags s.task.places v.objects b type n f at t.objects))
  where
    at_instance : (o : Option ℕ) → slice_get v.tags b ≡ o → is_some_and o (λ n. is_bound s.bound (record { object = x; tag_type = type; instance = n })) ≡ true →
        ((n : ℕ) → slice_get v.tags b ≡ Some n → all_carry s.bound s.task.places objects b type n ≡ true) → ⊥
    at_instance None at m all = false≢true m
    at_instance (Some n) at m all =
        let c : Binding = record { object = x; tag_type = type; instance = n } in
        false≢true
        (sym none
        ∙ any_instance (λ m. all_carry s.bound s.task.places objects b type m) bs c
        (of c ∙ and_from (is_bound s.bound c) ((x == x) && (type == type)) m (and_from (x == x) (type == type) (eq-eqb x x refl) (eq-eqb type type refl)))
        (all n at))
