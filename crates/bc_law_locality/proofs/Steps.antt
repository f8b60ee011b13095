-- The small steps of a run: each is one over both look-ups, or touches an object.
use Rattle.std.proofs.Common.{◌≡◌, ℕ, zero, suc, ◌≤◌, inl, inr, Bool, true, false, cond, ◌&&◌, List, [], ◌∷◌, ◌++◌, length, refl, sym, ap, ◌∙◌, subst, append-nil, arith, length-append, ◌+◌}
use Rattle.std.proofs.lemmas.List.{length-set}
use Rattle.std.specs.Prelude.{nat_le, nat_lt, slice_get, Option, Some, None, is_some, IsSome}
use Rattle.std.specs.List.{list_any}
use Rattle.std.proofs.lemmas.Bool.{false≢true}
use Rattle.bc_data.specs.declared.run.Body.{Body}
use Rattle.bc_data.specs.declared.run.FaultKind.TheVariants as fault
use Rattle.bc_data.specs.declared.run.Place.{Place}
use Rattle.bc_data.specs.declared.run.TagRef.{TagRef}
use Rattle.bc_data.specs.declared.run.Value.{Value}
use Rattle.bc_data.specs.declared.run.Value.TheVariants as value
use Rattle.bc_mean.specs.Enabled.{are_different}
use Rattle.bc_mean.specs.Store.{cells_in}
use Rattle.bc_mean.specs.Values.{same_tag}
use Rattle.bc_mean.specs.Work.{Work, Got, and_then, known, choose, ObjectRef, OldObject, NewObject, Reached, newest, touch, seen, made_one, reach, parameter, with_body, write, say, take_turn, turn, enter, set_flag, bind, unbind, make, make_instance}
use Rattle.bc_law_locality.specs.Growth.{AreIn, AreWithin, Grows, has, work_of}
use Rattle.bc_mean.proofs.Lists.{each_append}
use Rattle.bc_law_locality.proofs.Lists.{different_more, has_here, one_of, within_more, within_put}
use Rattle.bc_law_locality.proofs.Tied.{Looks, Agrees, Ends, Known, Knows, Tied, chain, moved, stays, tied_fault, tied_here, tied_same, tied_then, tied_wrong}

pub known_tied : {A : Type 0} {K : Looks} (o : Option A) (w : Work) → Tied K w (known o w) (known o w)
known_tied None w = tied_wrong w
known_tied (Some x) w = tied_same w x

-- what is there is there in the same work
pub known_then : {A B : Type 0} {K : Looks} {w : Work} (o : Option A) (go to : A → Work → Got B) → ((x : A) → Tied K w (go x w) (to x w)) → Tied K w (and_then (known o w) go) (and_then (known o w) to)
known_then {w = w} None go to k = tied_wrong w
known_then (Some x) go to k = k x

pub choose_tied : {A : Type 0} {K : Looks} (x : Value) (one other right_one right_other : Work → Got A) (w : Work) → Tied K w (one w) (right_one w) → Tied K w (other w) (right_other w) → Tied K w (choose x one other w) (choose x right_one right_other w)
choose_tied (value.Bool true) one other right_one right_other w t u = t
choose_tied (value.Bool false) one other right_one right_other w t u = u
choose_tied (value.Int n) one other right_one right_other w t u = tied_wrong w
choose_tied value.Null one other right_one right_other w t u = tied_wrong w
choose_tied (value.Old id) one other right_one right_other w t u = tied_wrong w
choose_tied (value.New n) one other right_one right_other w t u = tied_wrong w

pub if_tied : {A : Type 0} {K : Looks} {w : Work} (b : Bool) (g h k l : Got A) → Tied K w g h → Tied K w k l → Tied K w (cond b g k) (cond b h l)
if_tied true g h k l t u = t
if_tied false g h k l t u = u

-- an object of the store is among those touched
abbrev pub IsTouched : ObjectRef → Work → Type 0
IsTouched (OldObject id) w = has w.touched id ≡ true
IsTouched (NewObject n) w = Unit {0}

-- what follows on an object that is touched, where those of the parameters are
abbrev pub Follows : {A : Type 0} → Looks → Work → (Reached → Work → Got A) → (Reached → Work → Got A) → Type 0
Follows K w go to = (o : Reached) → (AreIn K.objects w.touched → IsTouched o.object w) → Tied K w (go o w) (to o w)

touches : (objects : List ℕ) (id : ℕ) (w : Work) (b : Bool) → has w.touched id ≡ b → Grows objects w (cond b w (record w { touched = w.touched ++ id ∷ [] }))
touches objects id w true e = stays objects w
touches objects id w false e = record {
  rest = id ∷ [];
  touched = refl;
  once = λ d. different_more w.touched id d e;
  turns = omega arith;
  made = omega arith;
  new_instances = [];
  instances = sym (append-nil w.instances);
  new_text = [];
  text = sym (append-nil w.text);
  within = λ p c. within_more w.changed w.touched (id ∷ []) c;
}

pub touch_grows : (objects : List ℕ) (id : ℕ) (w : Work) → Grows objects w (touch id w)
touch_grows objects id w = touches objects id w (has w.touched id) refl

pub touch_has : (id : ℕ) (w : Work) → has (touch id w).touched id ≡ true
touch_has id w = at (has w.touched id) refl
  where
    at : (b : Bool) → has w.touched id ≡ b → has (cond b w (record w { touched = w.touched ++ id ∷ [] })).touched id ≡ true
    at true e = e
    at false e = has_here w.touched [] id

never_known : (o : Option Body) → o ≡ None → IsSome o → ⊥
never_known o e s = false≢true (sym (ap is_some e) ∙ s)

abbrev old_at : ℕ → Work → Body → Reached
old_at id w b = record { object = OldObject id; body = newest w.changed id b }

-- from w on, where an object that is touched in v is looked up
module _ {A : Type 0} (K : Looks) (go to : Reached → Work → Got A) (id : ℕ) (w v : Work) (step : Grows K.objects w v) (within : AreIn K.objects v.touched → has v.touched id ≡ true) (follows : Follows K v go to) where
  along : (b : Body) → Tied K v (go (old_at id v b) v) (to (old_at id v b) v)
  along b = follows (old_at id v b) within

  left_grows : (o : Option Body) → Grows K.objects v (work_of (and_then (seen id o v) go))
  left_grows None = stays K.objects v
  left_grows (Some b) = (along b).left

  right_grows : (o : Option Body) → Grows K.objects v (work_of (and_then (seen id o v) to))
  right_grows None = stays K.objects v
  right_grows (Some b) = (along b).right

  alike_agrees : (o : Option Body) → AreIn K.objects v.touched → Agrees K (and_then (seen id o v) go) (and_then (seen id o v) to)
  alike_agrees None p = inl refl
  alike_agrees (Some b) p = (along b).agrees p

  seen_agrees : (o r : Option Body) (opens : Bool) → K.is_open id ≡ opens → (opens ≡ false → o ≡ r) → AreIn K.objects v.touched → Agrees K (and_then (seen id o v) go) (and_then (seen id r v) to)
  seen_agrees o r true e same p = inr (record { fork = v; id = id; opens = e; touched = within p; left = left_grows o; right = right_grows r })
  seen_agrees o r false e same p =
      subst (λ (q : Option Body). Agrees K (and_then (seen id o v) go) (and_then (seen id q v) to)) (same refl) (alike_agrees o p)

  seen_knows : (o : Option Body) → K.left id ≡ o → (o ≡ None → Ends K.left id v.touched) → (IsSome o → Known K.left v.touched) → AreIn K.objects v.touched → Knows K.left (and_then (seen id o v) go)
  seen_knows None e ends keeps p = ends refl
  seen_knows (Some b) e ends keeps p = (along b).knows p (keeps refl)

  pub seen_tied :
      (AreIn K.objects w.touched → Known K.left w.touched → K.left id ≡ None → Ends K.left id v.touched)
      → (Known K.left w.touched → IsSome (K.left id) → Known K.left v.touched)
      → Tied K w (and_then (seen id (K.left id) v) go) (and_then (seen id (K.right id) v) to)
  seen_tied ends keeps = record {
    left = chain K.objects w v (work_of (and_then (seen id (K.left id) v) go)) step (left_grows (K.left id));
    right = chain K.objects w v (work_of (and_then (seen id (K.right id) v) to)) step (right_grows (K.right id));
    agrees = λ p. seen_agrees (K.left id) (K.right id) (K.is_open id) refl (K.alike id) (moved K.objects w v step p);
    knows = λ p n. seen_knows (K.left id) refl (ends p n) (keeps n) (moved K.objects w v step p);
  }

known_touch : (K : Looks) (id : ℕ) (w : Work) (b : Bool) → has w.touched id ≡ b → Known K.left w.touched → IsSome (K.left id) → Known K.left (cond b w (record w { touched = w.touched ++ id ∷ [] })).touched
known_touch K id w true e n s = n
known_touch K id w false e n s = each_append (λ other. IsSome (K.left other)) w.touched (id ∷ []) n (s, tt)

ends_touch : (K : Looks) (id : ℕ) (w : Work) (b : Bool) → has w.touched id ≡ b → Known K.left w.touched → K.left id ≡ None → Ends K.left id (cond b w (record w { touched = w.touched ++ id ∷ [] })).touched
ends_touch K id w true e n u = absurd (never_known (K.left id) u (one_of (λ other. IsSome (K.left other)) w.touched id n e))
ends_touch K id w false e n u = record { front = w.touched; is = refl; known = n; unknown = u }

pub made_then : {A : Type 0} {K : Looks} {w : Work} (n : ℕ) (o : Option Body) (go to : Reached → Work → Got A) → Follows K w go to → Tied K w (and_then (made_one n o w) go) (and_then (made_one n o w) to)
made_then {w = w} n None go to k = tied_wrong w
made_then {w = w} n (Some b) go to k = k (record { object = NewObject n; body = b }) (λ p. tt)

pub reach_then : {A : Type 0} {K : Looks} (at : Place) (x : Value) (w : Work) (go to : Reached → Work → Got A) → ((v : Work) → Follows K v go to) → Tied K w (and_then (reach K.left at x w) go) (and_then (reach K.right at x w) to)
reach_then at value.Null w go to k = tied_fault w fault.Null at
reach_then {K = K} at (value.Old id) w go to k =
    seen_tied K go to id w (touch id w) (touch_grows K.objects id w) (λ p. touch_has id w) (k (touch id w))
    (λ p n u. ends_touch K id w (has w.touched id) refl n u)
    (λ n s. known_touch K id w (has w.touched id) refl n s)
reach_then at (value.New n) w go to k = made_then n (slice_get w.made n) go to (k w)
reach_then at (value.Int n) w go to k = tied_wrong w
reach_then at (value.Bool b) w go to k = tied_wrong w

pub parameter_then : {A : Type 0} (K : Looks) (n : ℕ) (o : Option ℕ) (w : Work) (go to : Reached → Work → Got A) → slice_get K.objects n ≡ o → ((v : Work) → Follows K v go to) → Tied K w (and_then (parameter K.left o w) go) (and_then (parameter K.right o w) to)
parameter_then K n None w go to e k = tied_wrong w
parameter_then K n (Some id) w go to e k =
    seen_tied K go to id w w (stays K.objects w) (λ p. p n id e) (k w)
    (λ p m u. absurd (never_known (K.left id) u (one_of (λ other. IsSome (K.left other)) w.touched id m (p n id e))))
    (λ m s. m)

-- a step that touches no object
quiet : (objects : List ℕ) (w v : Work) → v.touched ≡ w.touched → v.turns ≤ w.turns → length w.made ≤ length v.made → (instances text : List ℕ) → v.instances ≡ w.instances ++ instances → v.text ≡ w.text ++ text → (AreIn objects w.touched → AreWithin w.changed w.touched → AreWithin v.changed w.touched) → Grows objects w v
quiet objects w v e turns made instances text f g within = record {
  rest = [];
  touched = e ∙ sym (append-nil w.touched);
  once = λ d. subst (λ (l : List ℕ). are_different l ≡ true) (sym e) d;
  turns = turns;
  made = made;
  new_instances = instances;
  instances = f;
  new_text = text;
  text = g;
  within = λ p c. subst (AreWithin v.changed) (sym e) (within p c);
}

-- an object that is touched gets a body
write_grows : (objects : List ℕ) (o : ObjectRef) (b : Body) (w : Work) → (AreIn objects w.touched → IsTouched o w) → Grows objects w (with_body o b w)
write_grows objects (OldObject id) b w t =
    quiet objects w (with_body (OldObject id) b w) refl (omega arith) (omega arith) [] [] (sym (append-nil w.instances)) (sym (append-nil w.text))
    (λ p c. within_put id b w.changed w.touched (t p) c)
write_grows objects (NewObject n) b w t =
    quiet objects w (with_body (NewObject n) b w) refl (omega arith) (omega (arith, length-set w.made n b)) [] [] (sym (append-nil w.instances)) (sym (append-nil w.text))
    (λ p c. c)

same_touched : (o : ObjectRef) (b : Body) (w : Work) → (with_body o b w).touched ≡ w.touched
same_touched (OldObject id) b w = refl
same_touched (NewObject n) b w = refl

pub write_tied : {K : Looks} (o : ObjectRef) (b : Body) (w : Work) → (AreIn K.objects w.touched → IsTouched o w) → Tied K w (write o b w) (write o b w)
write_tied {K = K} o b w t = tied_here w (with_body o b w) tt (write_grows K.objects o b w t) (same_touched o b w)

pub set_flag_tied : {K : Looks} (o : Reached) (f : ℕ) (b : Bool) (w : Work) → (AreIn K.objects w.touched → IsTouched o.object w) → Tied K w (set_flag o f b w) (set_flag o f b w)
set_flag_tied o f b w t = write_tied o.object _ w t

pub bind_tied : {K : Looks} (at : Place) (o : Reached) (t : TagRef) (w : Work) → (AreIn K.objects w.touched → IsTouched o.object w) → Tied K w (bind at o t w) (bind at o t w)
bind_tied at o t w p =
    if_tied (list_any (same_tag t) o.body.tags) _ _ _ _ (tied_same w tt)
    (if_tied (nat_lt (length o.body.tags) 16) _ _ _ _ (write_tied o.object _ w p) (tied_fault w fault.TagSlots at))

pub unbind_tied : {K : Looks} (o : Reached) (t : TagRef) (w : Work) → (AreIn K.objects w.touched → IsTouched o.object w) → Tied K w (unbind o t w) (unbind o t w)
unbind_tied o t w p = write_tied o.object _ w p

pub say_tied : {K : Looks} (at : Place) (bytes : List ℕ) (w : Work) → Tied K w (say at bytes w) (say at bytes w)
say_tied {K = K} at bytes w =
    let v : Work = record w { text = w.text ++ bytes } in
    if_tied (nat_le (length w.text + length bytes) 65536) _ _ _ _
    (tied_here w v tt (quiet K.objects w v refl (omega arith) (omega arith) [] bytes (sym (append-nil w.instances)) refl (λ p c. c)) refl)
    (tied_fault w fault.Text at)

take_turn_tied : {K : Looks} (at : Place) (n : ℕ) (w : Work) → w.turns ≡ n → Tied K w (take_turn at n w) (take_turn at n w)
take_turn_tied at zero w e = tied_fault w fault.Turns at
take_turn_tied {K = K} at (suc n) w e =
    let v : Work = record w { turns = n } in
    tied_here w v tt (quiet K.objects w v refl (omega arith) (omega arith) [] [] (sym (append-nil w.instances)) (sym (append-nil w.text)) (λ p c. c)) refl

pub turn_tied : {K : Looks} (at : Place) (w : Work) → Tied K w (turn at w) (turn at w)
turn_tied at w = take_turn_tied at w.turns w refl

pub enter_tied : {K : Looks} (at : Place) (depth : ℕ) (w : Work) → Tied K w (enter at depth w) (enter at depth w)
enter_tied at depth w =
    tied_then (turn_tied at w) (λ x v. if_tied (nat_lt depth 100) _ _ _ _ (tied_same v tt) (tied_fault v fault.Depth at))

pub make_tied : {K : Looks} (at : Place) (b : Body) (w : Work) → Tied K w (make at b w) (make at b w)
make_tied {K = K} at b w =
    let v : Work = record w { made = w.made ++ b ∷ [] } in
    if_tied (nat_lt (length w.made) 65536 && nat_le (cells_in w.made + length b.cells) 4194304) _ _ _ _
    (tied_here w v (length w.made) (quiet K.objects w v refl (omega arith) (omega (arith, length-append w.made (b ∷ []))) [] [] (sym (append-nil w.instances)) (sym (append-nil w.text)) (λ p c. c)) refl)
    (tied_fault w fault.Size at)

pub make_instance_tied : {K : Looks} (at : Place) (tag_type : ℕ) (w : Work) → Tied K w (make_instance at tag_type w) (make_instance at tag_type w)
make_instance_tied {K = K} at tag_type w =
    let v : Work = record w { instances = w.instances ++ tag_type ∷ [] } in
    if_tied (nat_lt (length w.instances) 65536) _ _ _ _
    (tied_here w v (length w.instances) (quiet K.objects w v refl (omega arith) (omega arith) (tag_type ∷ []) [] refl (sym (append-nil w.text)) (λ p c. c)) refl)
    (tied_fault w fault.Size at)
