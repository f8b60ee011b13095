-- What an update makes of the sets.
use Rattle.std.proofs.Common.{◌≡◌, ℕ, ◌-◌, ◌<◌, ◌≤◌, ◌^◌, inl, inr, Bool, true, false, cond, not, ◌&&◌, ◌||◌, ◌==◌, List, [], ◌∷◌, Option, Some, None, refl, sym, ap, ◌∙◌, subst, arith, eqb-true}
use Rattle.std.specs.Prelude.{IfSome, slice_get}
use Rattle.std.specs.List.{list_any, All}
use Rattle.std.proofs.lemmas.Bool.{cases_Bool, cond-true, cond-false}
use Rattle.std.proofs.lemmas.Bool.Decides.{nat_tests}
use Rattle.bc_data.specs.Typed.{TypedParam, TypedProgram}
use Rattle.bc_data.specs.Guard.{guard_truth}
use Rattle.bc_data.specs.declared.run.TagRef.{TagRef}
use Rattle.bc_data.specs.declared.run.Kind.{Kind}
use Rattle.bc_data.specs.declared.run.Kind.TheVariants as kind
use Rattle.bc_data.specs.declared.run.Body.{Body}
use Rattle.bc_flags.specs.Met.{is_met}
use Rattle.bc_mean.specs.Enabled.{is_some_and, is_class, is_instance}
use Rattle.bc_params_sets.specs.declared.tag_index.Binding.{Binding}
use Rattle.bc_params_sets.specs.declared.place.Place.{Place}
use Rattle.bc_params_sets.specs.declared.place.TaskSets.{TaskSets}
use Rattle.bc_params_sets.specs.Members.{IsRising}
use Rattle.bc_params_sets.specs.Bindings.{is_bound}
use Rattle.bc_params_sets.specs.Kept.{Kept, IsPlace, AreSets, is_in, fits, is_carried}
use Rattle.bc_params.specs.declared.places.Update.{Update}
use Rattle.bc_params.specs.Look.{put_look, HaveOneKind, class_of, class_of_either, tags_in, is_own}
use Rattle.bc_params.specs.Places.{Each, AtEachPlace, IsUpdated, IsRoomier, update_of, flags_of, is_of, is_met_now, KeepsSets, PlacesHaveRoom, HaveRoom, AllRise}
use Rattle.bc_params.proofs.Pairs.{all_through}
use Rattle.bc_params.proofs.Through.{tasks_through}

same_numbers : (a b : ℕ) → (a == b) ≡ (b == a)
same_numbers a b = grind (arith, nat_tests)

class_is : (k : Kind) (c : ℕ) → is_class c k ≡ is_some_and (class_of k) (λ d. c == d)
class_is (kind.Class d) c = same_numbers d c
class_is kind.Ints c = refl
class_is kind.Bools c = refl
class_is (kind.Objects d) c = refl

-- the class is that of the body, where it is there
abbrev ClassIs : Option ℕ → Option Body → Type 0
ClassIs class None = Unit {0}
ClassIs class (Some b) = class ≡ class_of b.kind

class_before : (before after : Option Body) → ClassIs (class_of_either before after) before
class_before None after = tt
class_before (Some b) after = refl

class_after : (before after : Option Body) → HaveOneKind before after → ClassIs (class_of_either before after) after
class_after None None h = tt
class_after None (Some c) h = refl
class_after (Some b) None h = tt
class_after (Some b) (Some c) h = ap class_of h

of_class : (class : Option ℕ) (p : TypedParam) (q : Place) (b : Body) → q.class ≡ p.class → class ≡ class_of b.kind → is_class p.class b.kind ≡ is_of class q
of_class class p q b e h = class_is b.kind p.class ∙ (ap (λ (c : Option ℕ). is_some_and c (λ d. p.class == d)) (sym h) ∙ ap (λ (n : ℕ). is_some_and class (λ d. n == d)) (sym e))

fits_not : (class : Option ℕ) (p : TypedParam) (q : Place) (o : Option Body) → q.class ≡ p.class → ClassIs class o → is_of class q ≡ false → fits p o ≡ false
fits_not class p q None e h f = refl
fits_not class p q (Some b) e h f = ap (λ (x : Bool). x && guard_truth p.guard b.flags) (of_class class p q b e h ∙ f)

fits_met : (class : Option ℕ) (p : TypedParam) (q : Place) (o : Option Body) → q.class ≡ p.class → ClassIs class o → is_of class q ≡ true
    → ((mask : ℕ) → mask < 2 ^ 32 → is_met q.guard mask ≡ guard_truth p.guard mask) → IfSome (flags_of o) (λ flags. flags < 2 ^ 32) → is_met_now (flags_of o) q.guard ≡ fits p o
fits_met class p q None e h f g r = refl
fits_met class p q (Some b) e h f g r = g b.flags r ∙ ap (λ (x : Bool). x && guard_truth p.guard b.flags) (sym (of_class class p q b e h ∙ f))

chosen_other : (o b m n : Bool) → b ≡ false → cond (o && b) m n ≡ n
chosen_other true true m n h = absurd (cc)
chosen_other true false m n h = refl
chosen_other false b m n h = refl

chosen_here : (o b m n : Bool) → o ≡ true → b ≡ true → cond (o && b) m n ≡ m
chosen_here true true m n h l = refl
chosen_here true false m n h l = absurd (cc)
chosen_here false b m n h l = absurd (cc)

chosen_not : (o b m n : Bool) → o ≡ false → cond (o && b) m n ≡ n
chosen_not true b m n h = absurd (cc)
chosen_not false b m n h = refl

pub updated_place : (id : ℕ) (before after : Option Body) (look : ℕ → Option Body) → look id ≡ before → HaveOneKind before after → IfSome (flags_of after) (λ flags. flags < 2 ^ 32)
    → (p : TypedParam) (q r : Place) → IsPlace look p q → IsUpdated (update_of id before after) q r → IsPlace (put_look id after look) p r
updated_place id before after look there kinds small p q r a u = record {
  class = u.class ∙ a.class;
  guard = λ mask h. ap (λ g. is_met g mask) u.guard ∙ a.guard mask h;
  binds = u.binds ∙ a.binds;
  objects = λ x. elim (cases_Bool (x == id)) [
    | inl s ↦
        (let e : x ≡ id = eqb-true x id s in
        let new : fits p (put_look id after look x) ≡ fits p after = ap (fits p) (cond-true (x == id) after (look x) s) in
        elim (cases_Bool (is_of (class_of_either before after) q)) [
          | inl o ↦ u.objects x ∙ (chosen_here (is_of (class_of_either before after) q) (x == id) (is_met_now (flags_of after) q.guard) (is_in q x) o s
              ∙ (fits_met (class_of_either before after) p q after a.class (class_after before after kinds) o a.guard small ∙ sym new))
          | inr o ↦ u.objects x ∙ (chosen_not (is_of (class_of_either before after) q) (x == id) (is_met_now (flags_of after) q.guard) (is_in q x) o
              ∙ (a.objects x ∙ (ap (fits p) (ap look e ∙ there) ∙ (fits_not (class_of_either before after) p q before a.class (class_before before after) o
              ∙ (sym (fits_not (class_of_either before after) p q after a.class (class_after before after kinds) o) ∙ sym new)))))
        ])
    | inr s ↦ u.objects x ∙ (chosen_other (is_of (class_of_either before after) q) (x == id) (is_met_now (flags_of after) q.guard) (is_in q x) s
        ∙ (a.objects x ∙ sym (ap (fits p) (cond-false (x == id) after (look x) s))))
  ];
}

pub roomier_place : (look : ℕ → Option Body) (p : TypedParam) (q r : Place) → IsPlace look p q → IsRoomier q r → IsPlace look p r
roomier_place look p q r a u = record {
  class = u.class ∙ a.class;
  guard = λ mask h. ap (λ g. is_met g mask) u.guard ∙ a.guard mask h;
  binds = u.binds ∙ a.binds;
  objects = λ x. ap (λ (ms : List ℕ). list_any (λ y. y == x) ms) u.members ∙ a.objects x;
}

-- a body carries the instance of a binding, of its type
carry : List ℕ → Binding → Option Body → Bool
carry types c o = is_some_and o (λ b. list_any (is_instance c.instance) b.tags && is_some_and (slice_get types c.instance) (λ own. own == c.tag_type))

taken_out : (a p l t s : Bool) → s ≡ (a && (l && t)) → ((a && p && t) || s) ≡ (a && ((p || l) && t))
taken_out a p l t s h = grind (arith, h)

nothing : (a t : Bool) → false ≡ (a && (false && t))
nothing a t = grind arith

own_tags : (types : List ℕ) (id : ℕ) (c : Binding) (tags : List TagRef)
    → is_own types id tags c ≡ ((c.object == id) && (list_any (is_instance c.instance) tags && is_some_and (slice_get types c.instance) (λ own. own == c.tag_type)))
own_tags types id c [] = nothing (c.object == id) (is_some_and (slice_get types c.instance) (λ own. own == c.tag_type))
own_tags types id c (t ∷ ts) = taken_out (c.object == id) (is_instance c.instance t) (list_any (is_instance c.instance) ts) (is_some_and (slice_get types c.instance) (λ own. own == c.tag_type)) (is_own types id ts c) (own_tags types id c ts)

none_there : (a : Bool) → false ≡ (a && false)
none_there a = grind arith

own_body : (types : List ℕ) (id : ℕ) (c : Binding) (o : Option Body) → is_own types id (tags_in o) c ≡ ((c.object == id) && carry types c o)
unfolding carry
own_body types id c None = none_there (c.object == id)
own_body types id c (Some b) = own_tags types id c b.tags

replaced : (s x y a b r : Bool) → s ≡ true → a ≡ x → b ≡ (s && y) → r ≡ y → ((a && not (s && x)) || b) ≡ r
replaced s x y a b r h i j k = grind (arith, h, i, j, k)

untouched : (s x y a b r : Bool) → s ≡ false → b ≡ (s && y) → r ≡ a → ((a && not (s && x)) || b) ≡ r
untouched s x y a b r h i j = grind (arith, h, i, j)

pub updated_bound : (types : List ℕ) (id : ℕ) (before after : Option Body) (look : ℕ → Option Body) (old middle new : List Binding) (c : Binding) → look id ≡ before → is_bound old c ≡ is_carried look types c
    → is_bound middle c ≡ (is_bound old c && not (is_own types id (tags_in before) c)) → is_bound new c ≡ (is_bound middle c || is_own types id (tags_in after) c)
    → is_bound new c ≡ is_carried (put_look id after look) types c
unfolding carry
updated_bound types id before after look old middle new c there h m n =
    let e : is_bound middle c ≡ (is_bound old c && not ((c.object == id) && carry types c before)) = m ∙ ap (λ (x : Bool). is_bound old c && not x) (own_body types id c before) in
    n ∙ (ap (λ (x : Bool). x || is_own types id (tags_in after) c) e ∙
    elim (cases_Bool (c.object == id)) [
      | inl s ↦ replaced (c.object == id) (carry types c before) (carry types c after) (is_bound old c) (is_own types id (tags_in after) c) (carry types c (put_look id after look c.object)) s
          (h ∙ ap (carry types c) (ap look (eqb-true c.object id s) ∙ there)) (own_body types id c after) (ap (carry types c) (cond-true (c.object == id) after (look c.object) s))
      | inr s ↦ untouched (c.object == id) (carry types c before) (carry types c after) (is_bound old c) (is_own types id (tags_in after) c) (carry types c (put_look id after look c.object)) s
          (own_body types id c after) (ap (carry types c) (cond-false (c.object == id) after (look c.object) s) ∙ sym h)
    ])

pub updated_sets : (P : TypedProgram) (types : List ℕ) (id : ℕ) (before after : Option Body) (look : ℕ → Option Body) (k : Kept) (tasks : List TaskSets) (middle new : List Binding)
    → look id ≡ before → HaveOneKind before after → IfSome (flags_of after) (λ flags. flags < 2 ^ 32) → AreSets P look types k
    → Each (AtEachPlace (IsUpdated (update_of id before after))) k.tasks tasks
    → ((c : Binding) → is_bound middle c ≡ (is_bound k.bound c && not (is_own types id (tags_in before) c)))
    → ((c : Binding) → is_bound new c ≡ (is_bound middle c || is_own types id (tags_in after) c))
    → AreSets P (put_look id after look) types (record { tasks = tasks; bound = new })
updated_sets P types id before after look k tasks middle new there kinds small a each m n = record {
  tasks = tasks_through look (put_look id after look) (IsUpdated (update_of id before after)) (updated_place id before after look there kinds small) P.tasks k.tasks tasks a.tasks each;
  bound = λ c. updated_bound types id before after look k.bound middle new c there (a.bound c) (m c) (n c);
}

pub roomier_sets : (k : Kept) (tasks : List TaskSets) (bound : List Binding) → Each (AtEachPlace IsRoomier) k.tasks tasks → bound ≡ k.bound → KeepsSets k (record { tasks = tasks; bound = bound })
roomier_sets k tasks bound each e P look types a = record {
  tasks = tasks_through look look IsRoomier (roomier_place look) P.tasks k.tasks tasks a.tasks each;
  bound = λ c. ap (λ (bs : List Binding). is_bound bs c) e ∙ a.bound c;
}

roomier_places : (n : ℕ) (t s : TaskSets) → AtEachPlace IsRoomier t s → PlacesHaveRoom n t.places → PlacesHaveRoom n s.places
roomier_places n t s r h = all_through IsRoomier (λ (q : Place). n ≤ q.objects.spare) (λ (q : Place). n ≤ q.objects.spare) (λ x y e l. omega (arith, e.spare)) t.places s.places r.places h

pub roomier_room : (n : ℕ) (ts ss : List TaskSets) → Each (AtEachPlace IsRoomier) ts ss → HaveRoom n ts → HaveRoom n ss
roomier_room n ts ss each h = all_through (AtEachPlace IsRoomier) (λ (t : TaskSets). PlacesHaveRoom n t.places) (λ (t : TaskSets). PlacesHaveRoom n t.places) (roomier_places n) ts ss each h

places_rise : (t s : TaskSets) → AtEachPlace IsRoomier t s → All (λ q. IsRising q.objects.members) t.places → All (λ q. IsRising q.objects.members) s.places
places_rise t s r h = all_through IsRoomier (λ (q : Place). IsRising q.objects.members) (λ (q : Place). IsRising q.objects.members) (λ x y e up. subst IsRising (sym e.members) up) t.places s.places r.places h

pub roomier_rise : (ts ss : List TaskSets) → Each (AtEachPlace IsRoomier) ts ss → AllRise ts → AllRise ss
roomier_rise ts ss each h =
    all_through (AtEachPlace IsRoomier) (λ (t : TaskSets). All (λ q. IsRising q.objects.members) t.places) (λ (t : TaskSets). All (λ q. IsRising q.objects.members) t.places) places_rise ts ss each h

less_room : (n : ℕ) (t s : TaskSets) (u : Update) → AtEachPlace (IsUpdated u) t s → PlacesHaveRoom n t.places → PlacesHaveRoom (n - 1) s.places
less_room n t s u r h = all_through (IsUpdated u) (λ (q : Place). n ≤ q.objects.spare) (λ (q : Place). n - 1 ≤ q.objects.spare) (λ x y e l. omega (arith, e.spare)) t.places s.places r.places h

pub updated_room : (n : ℕ) (u : Update) (ts ss : List TaskSets) → Each (AtEachPlace (IsUpdated u)) ts ss → HaveRoom n ts → HaveRoom (n - 1) ss
updated_room n u ts ss each h =
    all_through (AtEachPlace (IsUpdated u)) (λ (t : TaskSets). PlacesHaveRoom n t.places) (λ (t : TaskSets). PlacesHaveRoom (n - 1) t.places) (λ t s r l. less_room n t s u r l) ts ss each h

still_rise : (t s : TaskSets) (u : Update) → AtEachPlace (IsUpdated u) t s → All (λ q. IsRising q.objects.members) t.places → All (λ q. IsRising q.objects.members) s.places
still_rise t s u r h = all_through (IsUpdated u) (λ (q : Place). IsRising q.objects.members) (λ (q : Place). IsRising q.objects.members) (λ x y e up. e.rising up) t.places s.places r.places h

pub updated_rise : (u : Update) (ts ss : List TaskSets) → Each (AtEachPlace (IsUpdated u)) ts ss → AllRise ts → AllRise ss
updated_rise u ts ss each h =
    all_through (AtEachPlace (IsUpdated u)) (λ (t : TaskSets). All (λ q. IsRising q.objects.members) t.places) (λ (t : TaskSets). All (λ q. IsRising q.objects.members) t.places) (λ t s r up. still_rise t s u r up) ts ss each h
