-- The order of bindings.
use Rattle.std.proofs.Common.{◌≡◌, ℕ, ◌+◌, ◌-◌, ◌<◌, ◌≤◌, inl, inr, Bool, true, false, not, ◌&&◌, ◌||◌, ◌==◌, ltb, leb, List, length, get_or, map, refl, sym, ap, ◌∙◌, subst, arith, eqb-true}
use Rattle.std.specs.List.{between, insert, remove, Any}
use Rattle.std.specs.List.Sorted.{IsPartitionPoint}
use Rattle.std.proofs.lemmas.Bool.{and_parts, false_from_ne_true, cases_lt, cases_eq}
use Rattle.std.proofs.lemmas.Bool.Decides.{nat_tests}
use Rattle.std.proofs.lemmas.List.Folds.{list_any_at, Any-from_list_any}
use Rattle.std.proofs.lemmas.List.Edits.{get_or-between, length-between}
use Rattle.bc_params_sets.specs.declared.tag_index.Binding.{Binding}
use Rattle.bc_params_sets.specs.declared.ordered.Order.{Order}
use Rattle.bc_params_sets.specs.declared.ordered.Order.TheVariants as order
use Rattle.bc_params_sets.specs.declared.ordered.Key.{Key}
use Rattle.bc_params_sets.specs.Members.{IsRising}
use Rattle.bc_params_sets.specs.Bindings.{same_binding, is_bound}
use Rattle.bc_params_sets.specs.Orders.{key_of, is_less, precedes, InOrder, is_in_run, is_before_run, is_within_run, Fresh, Starts, Ends}
use Rattle.bc_params_sets.proofs.Lists.{any-between, any-insert, any-remove, all_pairs_insert, all_pairs_map, same_tests, or_there, and_not, Lone}

pub less_trans : (a b c : Key) → is_less a b ≡ true → is_less b c ≡ true → is_less a c ≡ true
less_trans a b c p q = grind (arith, nat_tests)

less_apart : (a b : Key) → is_less a b ≡ true → is_less b a ≡ true → ⊥
less_apart a b p q = grind (arith, nat_tests)

abbrev same_key : Key → Key → Bool
same_key a b = (a.first == b.first) && (a.second == b.second) && (a.third == b.third)

less_total : (a b : Key) → is_less a b ≡ false → same_key a b ≡ false → is_less b a ≡ true
less_total a b p q = grind (arith, nat_tests)

less_other : (a b : Key) → is_less a b ≡ true → same_key a b ≡ true → ⊥
less_other a b p q = grind (arith, nat_tests)

same_key_both : (a b c : Key) → same_key a b ≡ true → same_key a c ≡ true → same_key b c ≡ true
same_key_both a b c p q = grind (arith, nat_tests)

-- a binding's key is its own
same_by : (o : Order) (b c : Binding) → same_binding b c ≡ same_key (key_of o b) (key_of o c)
same_by order.ByObject b c = refl
same_by order.ByInstance b c = turned (b.object == c.object) (b.tag_type == c.tag_type) (b.instance == c.instance)
  where
    turned : (x y z : Bool) → (x && y && z) ≡ (z && y && x)
    turned x y z = grind arith

joined : (b c : Binding) → b.object ≡ c.object → b.tag_type ≡ c.tag_type → b.instance ≡ c.instance → b ≡ c
joined b c x y z =
    ap (λ n. record { object = n; tag_type = b.tag_type; instance = b.instance }) x
    ∙ (ap (λ n. record { object = c.object; tag_type = n; instance = b.instance }) y
    ∙ ap (λ n. record { object = c.object; tag_type = c.tag_type; instance = n }) z)

pub same_true : (b c : Binding) → same_binding b c ≡ true → b ≡ c
same_true b c h =
    let p : ((b.object == c.object) && (b.tag_type == c.tag_type) ≡ true) × ((b.instance == c.instance) ≡ true) = and_parts _ _ h in
    let q : ((b.object == c.object) ≡ true) × ((b.tag_type == c.tag_type) ≡ true) = and_parts _ _ p.0 in
    joined b c (eqb-true b.object c.object q.0) (eqb-true b.tag_type c.tag_type q.1) (eqb-true b.instance c.instance p.1)

pub other_by_parts : (b c : Binding) → ((b.object == c.object) && ((b.tag_type == c.tag_type) && (b.instance == c.instance))) ≡ false → same_binding b c ≡ false
other_by_parts b c h = grouped (b.object == c.object) (b.tag_type == c.tag_type) (b.instance == c.instance) ∙ h
  where
    grouped : (x y z : Bool) → (x && y && z) ≡ (x && (y && z))
    grouped x y z = grind arith

pub same_self : (b : Binding) → same_binding b b ≡ true
same_self b = grind (arith, nat_tests)

-- two that are the same as a third
pub lone : (o : Order) (bs : List Binding) (c : Binding) → InOrder o bs → Lone (same_binding c) bs
lone o bs c up i j d h l s t =
    less_other (key_of o (get_or bs i d)) (key_of o (get_or bs j d)) (up i j d h l)
    (same_key_both (key_of o c) (key_of o (get_or bs i d)) (key_of o (get_or bs j d)) (sym (same_by o c (get_or bs i d)) ∙ s) (sym (same_by o c (get_or bs j d)) ∙ t))

-- the search for a binding
pub down : (o : Order) (b : Binding) (x y : Binding) → precedes o x y ≡ true → precedes o y b ≡ true → precedes o x b ≡ true
down o b x y p q = less_trans (key_of o x) (key_of o y) (key_of o b) p q

-- What stands from the place on is not before the binding; where it isn't the binding either, it is behind it.
pub fresh : (o : Order) (bs : List Binding) (b : Binding) (i : ℕ) → InOrder o bs → i ≤ length bs
    → IsPartitionPoint (λ x. precedes o x b ≡ true) (λ x. precedes o x b ≡ false) bs i
    → ((d : Binding) → i < length bs → same_binding (get_or bs i d) b ≡ false) → Fresh o bs b i
fresh o bs b i up l point other =
    let above : (k : ℕ) (d : Binding) → i ≤ k → k < length bs → precedes o b (get_or bs k d) ≡ true = λ (k : ℕ) (d : Binding) (h : i ≤ k) (n : k < length bs).
    (let here : precedes o b (get_or bs i d) ≡ true = less_total (key_of o (get_or bs i d)) (key_of o b) (point.1 i d (omega arith) (omega arith)) (sym (same_by o (get_or bs i d) b) ∙ other d (omega arith)) in
    elim (cases_eq k i) [
      | inl e ↦ subst (λ (m : ℕ). precedes o b (get_or bs m d) ≡ true) (sym e) here
      | inr ne ↦ less_trans (key_of o b) (key_of o (get_or bs i d)) (key_of o (get_or bs k d)) here (up i k d (omega arith) n)
    ]) in
    record {
      within = l;
      none = false_from_ne_true (is_bound bs b) (λ s. let w : Any (λ x. same_binding b x ≡ true) bs = Any-from_list_any (same_binding b) bs s in
          let same : same_key (key_of o b) (key_of o w.1) ≡ true = sym (same_by o b w.1) ∙ w.4 in
          elim (cases_lt w.0 i) [
            | inl p ↦ less_other (key_of o w.1) (key_of o b) (subst (λ (x : Binding). precedes o x b ≡ true) w.3 (point.0 w.0 w.1 (omega arith) p)) (same_key_both (key_of o b) (key_of o w.1) (key_of o b) same (sym (same_by o b b) ∙ same_self b))
            | inr p ↦ less_other (key_of o b) (key_of o w.1) (subst (λ (x : Binding). precedes o b x ≡ true) w.3 (above w.0 w.1 p w.2)) same
          ]);
      below = λ k d h. point.0 k d (omega arith) h;
      above = above;
    }

pub in_order_put : (o : Order) (bs : List Binding) (b : Binding) (i : ℕ) → InOrder o bs → Fresh o bs b i → InOrder o (insert bs i b)
in_order_put o bs b i up f = all_pairs_insert (λ x y. precedes o x y ≡ true) bs i b f.within up f.below f.above

same_swap : (b c : Binding) → same_binding b c ≡ same_binding c b
same_swap b c = same_tests (same_binding b c) (same_binding c b) (λ h. subst (λ (x : Binding). same_binding c x ≡ true) (sym (same_true b c h)) (same_self c))
    (λ h. subst (λ (x : Binding). same_binding b x ≡ true) (sym (same_true c b h)) (same_self b))

or_swap : (a x y : Bool) → x ≡ y → (a || x) ≡ (a || y)
or_swap a x y h = ap (λ z. a || z) h

pub bound_put : (bs : List Binding) (b : Binding) (i : ℕ) (c : Binding) → is_bound (insert bs i b) c ≡ (is_bound bs c || same_binding b c)
bound_put bs b i c = any-insert (same_binding c) bs i b ∙ or_swap (is_bound bs c) (same_binding c b) (same_binding b c) (same_swap c b)

-- the binding stands there
abbrev pub Found : List Binding → Binding → ℕ → Type 0
Found bs b i = (i < length bs) × ((d : Binding) → get_or bs i d ≡ b)

pub bound_there : (bs : List Binding) (b : Binding) (i : ℕ) (c : Binding) → Found bs b i → is_bound bs c ≡ (is_bound bs c || same_binding b c)
bound_there bs b i c f = or_there (is_bound bs c) (same_binding b c) (λ h. list_any_at (same_binding c) bs i b f.0 (ap (same_binding c) (f.1 b) ∙ (same_swap c b ∙ h)))

pub bound_out : (o : Order) (bs : List Binding) (b : Binding) (i : ℕ) (c : Binding) → InOrder o bs → Found bs b i → is_bound (remove bs i) c ≡ (is_bound bs c && not (same_binding b c))
bound_out o bs b i c up f = any-remove (same_binding c) bs i b f.0 (lone o bs c up) ∙ ap (λ z. is_bound bs c && not z) (ap (same_binding c) (f.1 b) ∙ same_swap c b)

pub bound_gone : (bs : List Binding) (b c : Binding) → is_bound bs b ≡ false → is_bound bs c ≡ (is_bound bs c && not (same_binding b c))
bound_gone bs b c h = and_not (is_bound bs c) (same_binding b c) (λ s. subst (λ (x : Binding). is_bound bs x ≡ false) (same_true b c s) h)

pub bound_at : (bs : List Binding) (b : Binding) (i : ℕ) → Found bs b i → is_bound bs b ≡ true
bound_at bs b i f = list_any_at (same_binding b) bs i b f.0 (ap (same_binding b) (f.1 b) ∙ same_self b)

-- runs
abbrev before : ℕ → ℕ → Key → Bool
before f s a = ltb a.first f || ((a.first == f) && ltb a.second s)

abbrev within : ℕ → ℕ → Key → Bool
within f s a = ltb a.first f || ((a.first == f) && leb a.second s)

abbrev inside : ℕ → ℕ → Key → Bool
inside f s a = (a.first == f) && (a.second == s)

key_before_down : (f s : ℕ) (a b : Key) → is_less a b ≡ true → before f s b ≡ true → before f s a ≡ true
key_before_down f s a b p q = grind (arith, nat_tests)

key_within_down : (f s : ℕ) (a b : Key) → is_less a b ≡ true → within f s b ≡ true → within f s a ≡ true
key_within_down f s a b p q = grind (arith, nat_tests)

key_inside : (f s : ℕ) (a : Key) → before f s a ≡ false → within f s a ≡ true → inside f s a ≡ true
key_inside f s a p q = grind (arith, nat_tests)

key_not_before : (f s : ℕ) (a : Key) → inside f s a ≡ true → before f s a ≡ true → ⊥
key_not_before f s a p q = grind (arith, nat_tests)

key_not_behind : (f s : ℕ) (a : Key) → inside f s a ≡ true → within f s a ≡ false → ⊥
key_not_behind f s a p q = grind (arith, nat_tests)

key_before_within : (f s : ℕ) (a : Key) → before f s a ≡ true → within f s a ≡ false → ⊥
key_before_within f s a p q = grind (arith, nat_tests)

key_thirds : (f s : ℕ) (a b : Key) → is_less a b ≡ true → inside f s a ≡ true → inside f s b ≡ true → a.third < b.third
key_thirds f s a b p q r = grind (arith, nat_tests)

pub before_down : (o : Order) (f s : ℕ) (x y : Binding) → precedes o x y ≡ true → is_before_run o f s y ≡ true → is_before_run o f s x ≡ true
before_down o f s x y p q = key_before_down f s (key_of o x) (key_of o y) p q

pub within_down : (o : Order) (f s : ℕ) (x y : Binding) → precedes o x y ≡ true → is_within_run o f s y ≡ true → is_within_run o f s x ≡ true
within_down o f s x y p q = key_within_down f s (key_of o x) (key_of o y) p q

pub starts_first : (o : Order) (f s : ℕ) (bs : List Binding) (from to : ℕ) → from ≤ length bs → to ≤ length bs → Starts o f s bs from → Ends o f s bs to → from ≤ to
starts_first o f s bs from to l m starts ends = elim (cases_lt to from) [
  | inr h ↦ h
  | inl h ↦ let b : Binding = record { object = 0; tag_type = 0; instance = 0 } in
      absurd (key_before_within f s (key_of o (get_or bs to b)) (starts.0 to b (omega arith) h) (ends.1 to b (omega arith) (omega arith)))
]

abbrev pub Runs : Order → ℕ → ℕ → List Binding → ℕ → ℕ → Type 0
Runs o f s bs from to = (k : ℕ) (d : Binding) → from ≤ k → k < to → is_in_run o f s (get_or bs k d) ≡ true

pub runs : (o : Order) (f s : ℕ) (bs : List Binding) (from to : ℕ) → to ≤ length bs → Starts o f s bs from → Ends o f s bs to → Runs o f s bs from to
runs o f s bs from to m starts ends k d h n = key_inside f s (key_of o (get_or bs k d)) (starts.1 k d h (omega arith)) (ends.0 k d (omega arith) n)

pub bound_run : (o : Order) (f s : ℕ) (bs : List Binding) (from to : ℕ) (c : Binding) → from ≤ length bs → to ≤ length bs → Starts o f s bs from → Ends o f s bs to
    → is_bound (between from to bs) c ≡ (is_bound bs c && is_in_run o f s c)
bound_run o f s bs from to c l m starts ends = any-between (same_binding c) (is_in_run o f s c) bs from to m
    (λ k d h n e. subst (λ (x : Binding). is_in_run o f s x ≡ true) (sym (same_true c (get_or bs k d) e)) (runs o f s bs from to m starts ends k d h n))
    (λ k d h e r. let q : is_in_run o f s (get_or bs k d) ≡ true = subst (λ (x : Binding). is_in_run o f s x ≡ true) (same_true c (get_or bs k d) e) r in (
      elim (cases_lt k from) [
        | inl p ↦ absurd (key_not_before f s (key_of o (get_or bs k d)) q (starts.0 k d (omega arith) p))
        | inr p ↦ p
      ],
      elim (cases_lt k to) [
        | inl p ↦ p
        | inr p ↦ absurd (key_not_behind f s (key_of o (get_or bs k d)) q (ends.1 k d p h))
      ],
    ))

pub rising_run : (o : Order) (f s : ℕ) (bs : List Binding) (from to : ℕ) → InOrder o bs → to ≤ length bs → Starts o f s bs from → Ends o f s bs to
    → IsRising (map (λ b. (key_of o b).third) (between from to bs))
rising_run o f s bs from to up m starts ends =
    all_pairs_map (λ (b : Binding). (key_of o b).third) (λ x y. x < y) (between from to bs) (record { object = 0; tag_type = 0; instance = 0 })
    (λ i j d h n. let size : length (between from to bs) ≡ to - from = length-between bs from to m in
    let x : get_or (between from to bs) i d ≡ get_or bs (from + i) d = get_or-between bs from to i d (omega arith) in
    let y : get_or (between from to bs) j d ≡ get_or bs (from + j) d = get_or-between bs from to j d (omega arith) in
    subst (λ (b : Binding). (key_of o b).third < (key_of o (get_or (between from to bs) j d)).third) (sym x)
    (subst (λ (b : Binding). (key_of o (get_or bs (from + i) d)).third < (key_of o b).third) (sym y)
    (key_thirds f s (key_of o (get_or bs (from + i) d)) (key_of o (get_or bs (from + j) d)) (up (from + i) (from + j) d (omega arith) (omega arith))
    (runs o f s bs from to m starts ends (from + i) d (omega arith) (omega arith)) (runs o f s bs from to m starts ends (from + j) d (omega arith) (omega arith)))))
