-- What a name in scope stands for is set there, and a name that is declared is one more.
use Rattle.std.proofs.Common.{◌≡◌, ℕ, zero, suc, ◌<◌, ◌≤◌, Bool, true, false, List, [], ◌∷◌, ◌++◌, length, Option, Some, None, slice_get, refl, ap, sym, ◌∙◌, subst, arith}
use Rattle.std.specs.Prelude.{nat_eq, Contains, if◌then◌else◌}
use Rattle.std.specs.Cmp.Lexicographic.{pointwise}
use Rattle.std.specs.List.{filter_map, cons_option, AllByRecursion}
use Rattle.std.proofs.lemmas.Bool.{eq-eqb, ne_eqb}
use Rattle.std.proofs.lemmas.List.{append-nil, append_assoc}
use Rattle.std.proofs.lemmas.List.Elements.{filter_map-append, Contains-append_right}
use Rattle.bc_data.specs.SourceTree.{Sequence, Empty, More}
use Rattle.bc_data.specs.declared.tree.Named.{Named}
use Rattle.bc_data.specs.declared.program.Shape.{Shape}
use Rattle.bc_data.specs.declared.program.Shape.TheVariants as shape
use Rattle.bc_data.specs.TypedBodies.{AssignedSlot, Assigned, shape_of_slot, assign_slot, assign_tag}
use Rattle.bc_types_rules.specs.Context.{Meaning, SlotIs, ParameterIs, TagIs, InScope, Scope, find_in, with_slot, with_parameter, with_tag, ended}
use Rattle.bc_types_rules.specs.ExpressionRules.{Each}
use Rattle.bc_law_accepted.proofs.Scopes.{slot_in, variable_in, this_slot, assigned_in, unnamed, IsUsed, Ascending, IsScope}

-- lists by recursion
pub every_append : {X : Type 0} (P : X → Type 0) (xs ys : List X) → AllByRecursion P xs → AllByRecursion P ys → AllByRecursion P (xs ++ ys)
every_append P [] ys h k = k
every_append P (x ∷ xs) ys h k = (h.0, every_append P xs ys h.1 k)

pub every_weaker : {X : Type 0} (P Q : X → Type 0) → ((x : X) → P x → Q x) → (xs : List X) → AllByRecursion P xs → AllByRecursion Q xs
every_weaker P Q f [] h = tt
every_weaker P Q f (x ∷ xs) h = (f x h.0, every_weaker P Q f xs h.1)

pub every_at : {X : Type 0} (P : X → Type 0) (xs : List X) (x : X) (ys : List X) → AllByRecursion P (xs ++ x ∷ ys) → P x
every_at P [] x ys h = h.0
every_at P (w ∷ ws) x ys h = every_at P ws x ys h.1

every_option : {Y : Type 0} (Q : Y → Type 0) (o : Option Y) (ys : List Y) → ((y : Y) → o ≡ Some y → Q y) → AllByRecursion Q ys → AllByRecursion Q (cons_option o ys)
every_option Q None ys f h = h
every_option Q (Some y) ys f h = (f y refl, h)

pub every_kept : {X Y : Type 0} (f : X → Option Y) (P : X → Type 0) (Q : Y → Type 0) → ((x : X) (y : Y) → P x → f x ≡ Some y → Q y) → (xs : List X) → AllByRecursion P xs → AllByRecursion Q (filter_map f xs)
every_kept f P Q g [] h = tt
every_kept f P Q g (x ∷ xs) h = every_option Q (f x) (filter_map f xs) (λ y e. g x y h.0 e) (every_kept f P Q g xs h.1)

pub element_within : {A : Type 0} (xs : List A) (i : ℕ) → i < length xs → (x : A) × (slice_get xs i ≡ Some x)
element_within [] i h = absurd (omega arith)
element_within (x ∷ xs) zero h = (x, refl)
element_within (x ∷ xs) (suc i) h = element_within xs i (omega arith)

-- what each step of a walk keeps
pub each_keeps : {S A : Type 0} (P : S → Type 0) (Step : S → A → S → Type 0) → ((s : S) (a : A) (t : S) → P s → Step s a t → P t) → (s : S) (xs : Sequence A) (t : S) → P s → Each Step s xs t → P t
each_keeps P Step one s Empty t p h = subst P (sym h) p
each_keeps P Step one s (More front last) t p h = one h.0 last t (each_keeps P Step one s front h.0 p h.1) h.2

-- A name that is found is one of those in scope.
abbrev Splits : List InScope → Meaning → Type 0
Splits ls m = (front back : List InScope) × (l : InScope) × (ls ≡ front ++ l ∷ back) × (l.meaning ≡ m)

one_more : (l : InScope) (ls : List InScope) (m : Meaning) → Splits ls m → Splits (l ∷ ls) m
one_more l ls m q = (l ∷ q.0, q.1, q.2, ap (λ xs. l ∷ xs) q.3, q.4)

at_head : (b : Bool) (l : InScope) (ls : List InScope) (o : Option Meaning) (m : Meaning) → (o ≡ Some m → Splits ls m) → (if b then Some l.meaning else o) ≡ Some m → Splits (l ∷ ls) m
at_head true l ls o m f e = ([], ls, l, refl, cc)
at_head false l ls o m f e = one_more l ls m (f e)

splits : (ls : List InScope) (name : List ℕ) (m : Meaning) → find_in ls name ≡ Some m → Splits ls m
splits [] name m e = cc
splits (l ∷ ls) name m e = at_head (pointwise nat_eq name l.name) l ls (find_in ls name) m (splits ls name m) e

-- what the meaning of a name in scope gives is among what all of them give
pub given_by : {Y : Type 0} (f : Meaning → Option Y) (ls : List InScope) (name : List ℕ) (m : Meaning) (y : Y) → find_in ls name ≡ Some m → f m ≡ Some y → (before after : List Y) × (filter_map (λ l. f l.meaning) ls ≡ before ++ y ∷ after)
given_by f ls name m y e k =
    let q = splits ls name m e in
    let g = λ (l : InScope). f l.meaning in (
      filter_map g q.0,
      filter_map g q.1,
      ap (filter_map g) q.3 ∙ filter_map-append g q.0 (q.2 ∷ q.1) ∙ ap (λ o. filter_map g q.0 ++ cons_option o (filter_map g q.1)) (ap f q.4 ∙ k),
    )

-- what holds of the meaning of each name in scope holds of one that is found
pub every_found : (P : Meaning → Type 0) (ls : List InScope) (name : List ℕ) (m : Meaning) → AllByRecursion (λ l. P l.meaning) ls → find_in ls name ≡ Some m → P m
every_found P ls name m h e =
    let q = splits ls name m e in
    subst P q.4 (every_at (λ l. P l.meaning) q.0 q.2 q.1 (subst (AllByRecursion (λ l. P l.meaning)) q.3 h))

pub used_by : (params : List ℕ) (s : Scope) (ls : List InScope) (name : List ℕ) (m : Meaning) → AllByRecursion (λ l. IsUsed params s l.meaning) ls → find_in ls name ≡ Some m → IsUsed params s m
used_by params s ls name m h e = every_found (IsUsed params s) ls name m h e

-- slots
abbrev pub named_slots : Scope → List AssignedSlot
named_slots s = filter_map (λ l. slot_in l.meaning) s.known

slot_here : (x : AssignedSlot) (xs : List AssignedSlot) → shape_of_slot (x ∷ xs) x.slot ≡ Some x.shape
slot_here x xs = ap (λ b. if b then Some x.shape else shape_of_slot xs x.slot) (eq-eqb x.slot x.slot refl)

slot_later : (x : AssignedSlot) (xs : List AssignedSlot) (n : ℕ) → (x.slot ≡ n → ⊥) → shape_of_slot (x ∷ xs) n ≡ shape_of_slot xs n
slot_later x xs n f = ap (λ b. if b then Some x.shape else shape_of_slot xs n) (ne_eqb x.slot n f)

shape_at_split : (xs : List AssignedSlot) (x : AssignedSlot) (ys : List AssignedSlot) → Ascending (xs ++ x ∷ ys) → shape_of_slot (xs ++ x ∷ ys) x.slot ≡ Some x.shape
shape_at_split [] x ys h = slot_here x ys
shape_at_split (w ∷ ws) x ys h =
    let below : w.slot < x.slot = every_at (λ (y : AssignedSlot). w.slot < y.slot) ws x ys h.0 in
    slot_later w (ws ++ x ∷ ys) x.slot (λ e. omega arith) ∙ shape_at_split ws x ys h.1

shape_above : (xs : List AssignedSlot) (n : ℕ) → AllByRecursion (λ (x : AssignedSlot). x.slot < n) xs → shape_of_slot xs n ≡ None
shape_above [] n h = refl
shape_above (x ∷ xs) n h =
    let below : x.slot < n = h.0 in
    slot_later x xs n (λ e. omega arith) ∙ shape_above xs n h.1

behind_this : (me : Option ℕ) (xs : List AssignedSlot) (n : ℕ) → unnamed me ≤ n → shape_of_slot (this_slot me ++ xs) n ≡ shape_of_slot xs n
behind_this None xs n h = refl
behind_this (Some me) xs n h = slot_later (record { slot = 0; shape = shape.Class me }) xs n (λ e. omega arith)

pub slots_below : (me : Option ℕ) (params : List ℕ) (s : Scope) → IsScope me params s → AllByRecursion (λ (x : AssignedSlot). x.slot < s.slots) (named_slots s)
slots_below me params s h =
    every_kept (λ (l : InScope). slot_in l.meaning) (λ l. IsUsed params s l.meaning) (λ (x : AssignedSlot). x.slot < s.slots) (λ l x u e. below l.meaning x u e) s.known h.known
  where
    below : (m : Meaning) (x : AssignedSlot) → IsUsed params s m → slot_in m ≡ Some x → x.slot < s.slots
    below (SlotIs slot sh) x u e = let k : slot ≡ x.slot = cc in omega arith
    below (ParameterIs slot class) x u e = let k : slot ≡ x.slot = cc in let l : slot < s.slots = u.0 in omega arith
    below (TagIs variable tag_type) x u e = cc

pub slot_set : (me : Option ℕ) (params : List ℕ) (s : Scope) (name : List ℕ) (m : Meaning) (x : AssignedSlot) → IsScope me params s → find_in s.known name ≡ Some m → slot_in m ≡ Some x → shape_of_slot (assigned_in me s).slots x.slot ≡ Some x.shape
slot_set me params s name m x h e k =
    let q = given_by slot_in s.known name m x e k in
    let above = every_at (λ (y : AssignedSlot). unnamed me ≤ y.slot) q.0 x q.1 (subst (AllByRecursion (λ (y : AssignedSlot). unnamed me ≤ y.slot)) q.2 h.above) in
    behind_this me (named_slots s) x.slot above ∙ ap (λ xs. shape_of_slot xs x.slot) q.2 ∙ shape_at_split q.0 x q.1 (subst Ascending q.2 h.apart)

pub next_unset : (me : Option ℕ) (params : List ℕ) (s : Scope) → IsScope me params s → shape_of_slot (assigned_in me s).slots s.slots ≡ None
next_unset me params s h = behind_this me (named_slots s) s.slots h.this ∙ shape_above (named_slots s) s.slots (slots_below me params s h)

pub tag_set : (me : Option ℕ) (s : Scope) (name : List ℕ) (v k : ℕ) → find_in s.known name ≡ Some (TagIs v k) → Contains (assigned_in me s).tags v
tag_set me s name v k e =
    let q = given_by variable_in s.known name (TagIs v k) v e refl in
    subst (λ xs. Contains xs v) (sym q.2) (Contains-append_right q.0 (v ∷ q.1) v (0, omega arith, refl))

-- declarations
ascending_end : (xs : List AssignedSlot) (x : AssignedSlot) → Ascending xs → AllByRecursion (λ (y : AssignedSlot). y.slot < x.slot) xs → Ascending (xs ++ x ∷ [])
ascending_end [] x h k = (tt, tt)
ascending_end (w ∷ ws) x h k = (every_append (λ (y : AssignedSlot). w.slot < y.slot) ws (x ∷ []) h.0 (k.0, tt), ascending_end ws x h.1 k.1)

pub used_grows : (params : List ℕ) (s t : Scope) (m : Meaning) → s.slots ≤ t.slots → s.tags ≤ t.tags → IsUsed params s m → IsUsed params t m
used_grows params s t (SlotIs slot sh) a b u = let k : slot < s.slots = u in omega arith
used_grows params s t (ParameterIs slot class) a b u = let k : slot < s.slots = u.0 in (omega arith, u.1)
used_grows params s t (TagIs variable tag_type) a b u = let k : variable < s.tags = u in omega arith

known_grows : (params : List ℕ) (s t : Scope) (ls : List InScope) → s.slots ≤ t.slots → s.tags ≤ t.tags → AllByRecursion (λ l. IsUsed params s l.meaning) ls → AllByRecursion (λ l. IsUsed params t l.meaning) ls
known_grows params s t ls a b h = every_weaker (λ (l : InScope). IsUsed params s l.meaning) (λ l. IsUsed params t l.meaning) (λ l u. used_grows params s t l.meaning a b u) ls h

-- a name with the next slot
module _ (me : Option ℕ) (params : List ℕ) (s : Scope) (h : IsScope me params s) (few : s.count < 256) where
  more_slots : (l : InScope) (x : AssignedSlot) → slot_in l.meaning ≡ Some x → filter_map (λ l. slot_in l.meaning) (s.known ++ l ∷ []) ≡ named_slots s ++ x ∷ []
  more_slots l x e = filter_map-append (λ (l : InScope). slot_in l.meaning) s.known (l ∷ []) ∙ ap (λ o. named_slots s ++ cons_option o []) e

  pub slot_scope : (x : Named) (sh : Shape) → IsScope me params (with_slot s x sh)
  slot_scope x sh =
      let l : InScope = record { name = x.name; meaning = SlotIs s.slots sh } in
      let y : AssignedSlot = record { slot = s.slots; shape = sh } in
      let e = more_slots l y refl in record {
        known = every_append (λ (l : InScope). IsUsed params (with_slot s x sh) l.meaning) s.known (l ∷ []) (known_grows params s (with_slot s x sh) s.known (omega arith) (omega arith) h.known) (omega arith, tt);
        above = subst (AllByRecursion (λ (y : AssignedSlot). unnamed me ≤ y.slot)) (sym e) (every_append (λ (y : AssignedSlot). unnamed me ≤ y.slot) (named_slots s) (y ∷ []) h.above (h.this, tt));
        apart = subst Ascending (sym e) (ascending_end (named_slots s) y h.apart (slots_below me params s h));
        count = omega arith;
        this = omega arith;
        few = omega arith;
      }

  pub parameter_scope : (x : Named) (class : ℕ) → slice_get params s.slots ≡ Some class → IsScope me params (with_parameter s x class)
  parameter_scope x class g =
      let l : InScope = record { name = x.name; meaning = ParameterIs s.slots class } in
      let y : AssignedSlot = record { slot = s.slots; shape = shape.Class class } in
      let e = more_slots l y refl in record {
        known = every_append (λ (l : InScope). IsUsed params (with_parameter s x class) l.meaning) s.known (l ∷ []) (known_grows params s (with_parameter s x class) s.known (omega arith) (omega arith) h.known) ((omega arith, g), tt);
        above = subst (AllByRecursion (λ (y : AssignedSlot). unnamed me ≤ y.slot)) (sym e) (every_append (λ (y : AssignedSlot). unnamed me ≤ y.slot) (named_slots s) (y ∷ []) h.above (h.this, tt));
        apart = subst Ascending (sym e) (ascending_end (named_slots s) y h.apart (slots_below me params s h));
        count = omega arith;
        this = omega arith;
        few = omega arith;
      }

  pub tag_scope : (x : Named) (k : ℕ) → IsScope me params (with_tag s x k)
  tag_scope x k =
      let l : InScope = record { name = x.name; meaning = TagIs s.tags k } in
      let e : filter_map (λ l. slot_in l.meaning) (s.known ++ l ∷ []) ≡ named_slots s = filter_map-append (λ (l : InScope). slot_in l.meaning) s.known (l ∷ []) ∙ append-nil (named_slots s) in record {
        known = every_append (λ (l : InScope). IsUsed params (with_tag s x k) l.meaning) s.known (l ∷ []) (known_grows params s (with_tag s x k) s.known (omega arith) (omega arith) h.known) (omega arith, tt);
        above = subst (AllByRecursion (λ (y : AssignedSlot). unnamed me ≤ y.slot)) (sym e) h.above;
        apart = subst Ascending (sym e) h.apart;
        count = omega arith;
        this = omega arith;
        few = omega arith;
      }

-- behind a block
pub ended_scope : (me : Option ℕ) (params : List ℕ) (s r : Scope) → IsScope me params s → IsScope me params r → s.slots ≤ r.slots → s.tags ≤ r.tags → IsScope me params (ended s r)
ended_scope me params s r h k a b = record {
  known = known_grows params s (ended s r) s.known a b h.known;
  above = h.above;
  apart = h.apart;
  count = k.count;
  this = k.this;
  few = k.few;
}

pub slot_assigned : (me : Option ℕ) (s : Scope) (x : Named) (sh : Shape) → assigned_in me (with_slot s x sh) ≡ assign_slot (assigned_in me s) s.slots sh
slot_assigned me s x sh =
    let l : InScope = record { name = x.name; meaning = SlotIs s.slots sh } in
    let y : AssignedSlot = record { slot = s.slots; shape = sh } in
    assigned_eq _ _ _ _
    (ap (λ xs. this_slot me ++ xs) (filter_map-append (λ (l : InScope). slot_in l.meaning) s.known (l ∷ [])) ∙ sym (append_assoc (this_slot me) (named_slots s) (y ∷ [])))
    (filter_map-append (λ (l : InScope). variable_in l.meaning) s.known (l ∷ []) ∙ append-nil (filter_map (λ l. variable_in l.meaning) s.known))
  where
    assigned_eq : (xs ys : List AssignedSlot) (us vs : List ℕ) → xs ≡ ys → us ≡ vs → ◌≡◌ {A = Assigned} (record { slots = xs; tags = us }) (record { slots = ys; tags = vs })
    assigned_eq xs ys us vs a b = λ i. record { slots = a i; tags = b i }

pub tag_assigned : (me : Option ℕ) (s : Scope) (x : Named) (k : ℕ) → assigned_in me (with_tag s x k) ≡ assign_tag (assigned_in me s) s.tags
tag_assigned me s x k =
    let l : InScope = record { name = x.name; meaning = TagIs s.tags k } in
    λ i. record {
      slots = (ap (λ xs. this_slot me ++ xs) (filter_map-append (λ (l : InScope). slot_in l.meaning) s.known (l ∷ []) ∙ append-nil (named_slots s))) i;
      tags = (filter_map-append (λ (l : InScope). variable_in l.meaning) s.known (l ∷ [])) i;
    }
