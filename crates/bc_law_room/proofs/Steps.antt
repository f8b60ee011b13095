-- The small steps of a run keep each newest copy like the body that the look-up gives.
use Rattle.std.proofs.Common.{◌≡◌, ℕ, zero, suc, ◌+◌, Bool, true, false, cond, ◌&&◌, ◌==◌, List, [], ◌∷◌, ◌++◌, length, refl, sym, ap, ◌∙◌, subst}
use Rattle.std.proofs.lemmas.Bool.{eqb-true}
use Rattle.std.proofs.lemmas.List.{length-set}
use Rattle.std.proofs.lemmas.Option.{same_Some}
use Rattle.std.specs.Prelude.{nat_le, nat_lt, slice_get, Option, Some, None}
use Rattle.std.specs.List.{AllByRecursion, list_any}
use Rattle.bc_data.specs.declared.run.Body.{Body}
use Rattle.bc_data.specs.declared.run.FaultKind.{FaultKind}
use Rattle.bc_data.specs.declared.run.FaultKind.TheVariants as fault
use Rattle.bc_data.specs.declared.run.Place.{Place}
use Rattle.bc_data.specs.declared.run.TagRef.{TagRef}
use Rattle.bc_data.specs.declared.run.Value.{Value}
use Rattle.bc_data.specs.declared.run.Value.TheVariants as value
use Rattle.bc_data.specs.declared.run.Written.{Written}
use Rattle.bc_mean.specs.Store.{cells_in}
use Rattle.bc_mean.specs.Values.{same_tag}
use Rattle.bc_mean.specs.Work.{Look, Work, Got, Gives, Stops, Wrong, and_then, faults, known, choose, ObjectRef, OldObject, NewObject, Reached, newest, put, touch, seen, made_one, reach, parameter, write, say, take_turn, turn, enter, set_flag, bind, unbind, make, make_instance}
use Rattle.bc_mean.specs.Execute.{write_cell}
use Rattle.bc_law_locality.specs.Growth.{work_of}
use Rattle.bc_law_room.specs.Sizes.{IsLike}
use Rattle.bc_law_room.proofs.Bodies.{like_itself, like_then}

-- whatever the look-up gives for this object is like the body
abbrev pub Suits : Look → ℕ → Body → Type 0
Suits L id b = (a : Body) → L id ≡ Some a → IsLike a b

abbrev pub AllSuit : Look → List Written → Type 0
AllSuit L changed = AllByRecursion (λ c. Suits L c.id c.body) changed

-- a run whose copies suit, where those at its start did
pub record Keeps (L : Look) {A : Type 0} (w : Work) (g : Got A) : Type 0 where
  pub keeps : AllSuit L w.changed → AllSuit L (work_of g).changed

newest_suits : (L : Look) (id : ℕ) (a : Body) (changed : List Written) → AllSuit L changed → L id ≡ Some a → IsLike a (newest changed id a)
newest_suits L id a [] h e = like_itself a
newest_suits L id a (c ∷ cs) h e = at (c.id == id) refl (newest_suits L id a cs h.1 e)
  where
    at : (same : Bool) → (c.id == id) ≡ same → IsLike a (newest cs id a) → IsLike a (cond same c.body (newest cs id a))
    at true s k = h.0 a (ap L (eqb-true c.id id s) ∙ e)
    at false s k = k

put_suits : (L : Look) (id : ℕ) (b : Body) (changed : List Written) → Suits L id b → AllSuit L changed → AllSuit L (put id b changed)
put_suits L id b [] s h = (s, tt)
put_suits L id b (c ∷ cs) s h = at (c.id == id) (put_suits L id b cs s h.1)
  where
    at : (same : Bool) → AllSuit L (put id b cs) → AllSuit L (cond same (record { id = id; body = b } ∷ cs) (c ∷ put id b cs))
    at true k = (s, h.1)
    at false k = (h.0, k)

pub suits_newest : (L : Look) (id : ℕ) (b : Body) (changed : List Written) → AllSuit L changed → L id ≡ Some b → Suits L id (newest changed id b)
suits_newest L id b changed h e a f =
    let same : b ≡ a = same_Some b a (sym e ∙ f) in
    subst (λ (z : Body). IsLike z (newest changed id b)) same (newest_suits L id b changed h e)

pub keeps_here : {A : Type 0} {L : Look} (w v : Work) (x : A) → v.changed ≡ w.changed → Keeps L w (Gives x v)
keeps_here {L = L} w v x e = record { keeps = λ h. subst (AllSuit L) (sym e) h }

pub keeps_same : {A : Type 0} {L : Look} (w : Work) (x : A) → Keeps L w (Gives x w)
keeps_same w x = record { keeps = λ h. h }

pub keeps_fault : {A : Type 0} {L : Look} (w : Work) (k : FaultKind) (at : Place) → Keeps L {A = A} w (faults k at w)
keeps_fault w k at = record { keeps = λ h. h }

pub keeps_wrong : {A : Type 0} {L : Look} (w : Work) → Keeps L {A = A} w (Stops Wrong w)
keeps_wrong w = record { keeps = λ h. h }

pub keeps_then : {A B : Type 0} {L : Look} {w : Work} {g : Got A} {go : A → Work → Got B} → Keeps L w g → ((x : A) (v : Work) → Keeps L v (go x v)) → Keeps L w (and_then g go)
keeps_then {A = A} {L = L} {w = w} {g = g} {go = go} t k = at g t
  where
    at : (g : Got A) → Keeps L w g → Keeps L w (and_then g go)
    at (Gives x v) t = record { keeps = λ h. (k x v).keeps (t.keeps h) }
    at (Stops s v) t = record { keeps = t.keeps }

pub known_keeps : {A : Type 0} {L : Look} (o : Option A) (w : Work) → Keeps L w (known o w)
known_keeps None w = keeps_wrong w
known_keeps (Some x) w = keeps_same w x

-- what is there is there in the same work
pub known_then : {A B : Type 0} {L : Look} {w : Work} (o : Option A) (go : A → Work → Got B) → ((x : A) → Keeps L w (go x w)) → Keeps L w (and_then (known o w) go)
known_then {w = w} None go k = keeps_wrong w
known_then (Some x) go k = k x

pub choose_keeps : {A : Type 0} {L : Look} (x : Value) (one other : Work → Got A) (w : Work) → Keeps L w (one w) → Keeps L w (other w) → Keeps L w (choose x one other w)
choose_keeps (value.Bool true) one other w t u = t
choose_keeps (value.Bool false) one other w t u = u
choose_keeps (value.Int n) one other w t u = keeps_wrong w
choose_keeps value.Null one other w t u = keeps_wrong w
choose_keeps (value.Old id) one other w t u = keeps_wrong w
choose_keeps (value.New n) one other w t u = keeps_wrong w

pub if_keeps : {A : Type 0} {L : Look} {w : Work} (b : Bool) (g h : Got A) → Keeps L w g → Keeps L w h → Keeps L w (cond b g h)
if_keeps true g h t u = t
if_keeps false g h t u = u

-- a body for an object of the store suits it
abbrev pub SuitsAt : Look → ObjectRef → Body → Type 0
SuitsAt L (OldObject id) b = Suits L id b
SuitsAt L (NewObject n) b = Unit {0}

suits_like : (L : Look) (o : ObjectRef) (b c : Body) → IsLike b c → SuitsAt L o b → SuitsAt L o c
suits_like L (OldObject id) b c l s = λ a e. like_then a b c (s a e) l
suits_like L (NewObject n) b c l s = tt

-- what follows on an object that is seen as a body that suits it
abbrev pub Follows : {A : Type 0} → Look → Work → (Reached → Work → Got A) → Type 0
Follows L w go = (o : Reached) → SuitsAt L o.object o.body → Keeps L w (go o w)

seen_keeps : {A : Type 0} (L : Look) (id : ℕ) (w v : Work) (go : Reached → Work → Got A) → v.changed ≡ w.changed → Follows L v go → (o : Option Body) → L id ≡ o → Keeps L w (and_then (seen id o v) go)
seen_keeps L id w v go e k None f = record { keeps = λ h. subst (AllSuit L) (sym e) h }
seen_keeps L id w v go e k (Some b) f = record {
  keeps = λ h.
      let suit : AllSuit L v.changed = subst (AllSuit L) (sym e) h in
      (k (record { object = OldObject id; body = newest v.changed id b }) (suits_newest L id b v.changed suit f)).keeps suit;
}

touch_changed : (id : ℕ) (w : Work) → (touch id w).changed ≡ w.changed
touch_changed id w = at (list_any (λ other. other == id) w.touched)
  where
    at : (b : Bool) → (cond b w (record w { touched = w.touched ++ id ∷ [] })).changed ≡ w.changed
    at true = refl
    at false = refl

pub made_then : {A : Type 0} {L : Look} {w : Work} (n : ℕ) (o : Option Body) (go : Reached → Work → Got A) → Follows L w go → Keeps L w (and_then (made_one n o w) go)
made_then {w = w} n None go k = keeps_wrong w
made_then n (Some b) go k = k (record { object = NewObject n; body = b }) tt

pub reach_then : {A : Type 0} {L : Look} (at : Place) (x : Value) (w : Work) (go : Reached → Work → Got A) → ((v : Work) → Follows L v go) → Keeps L w (and_then (reach L at x w) go)
reach_then at value.Null w go k = keeps_fault w fault.Null at
reach_then {L = L} at (value.Old id) w go k = seen_keeps L id w (touch id w) go (touch_changed id w) (k (touch id w)) (L id) refl
reach_then at (value.New n) w go k = made_then n (slice_get w.made n) go (k w)
reach_then at (value.Int n) w go k = keeps_wrong w
reach_then at (value.Bool b) w go k = keeps_wrong w

pub parameter_then : {A : Type 0} {L : Look} (o : Option ℕ) (w : Work) (go : Reached → Work → Got A) → Follows L w go → Keeps L w (and_then (parameter L o w) go)
parameter_then None w go k = keeps_wrong w
parameter_then {L = L} (Some id) w go k = seen_keeps L id w w go refl k (L id) refl

write_keeps : {L : Look} (o : ObjectRef) (b : Body) (w : Work) → SuitsAt L o b → Keeps L w (write o b w)
write_keeps {L = L} (OldObject id) b w s = record { keeps = λ h. put_suits L id b w.changed s h }
write_keeps (NewObject n) b w s = record { keeps = λ h. h }

-- a body like the one that was seen takes its place
like_keeps : {L : Look} (o : Reached) (b : Body) (w : Work) → IsLike o.body b → SuitsAt L o.object o.body → Keeps L w (write o.object b w)
like_keeps {L = L} o b w l s = write_keeps o.object b w (suits_like L o.object o.body b l s)

pub write_cell_keeps : {L : Look} (o : Reached) (n : ℕ) (x : Value) (w : Work) → SuitsAt L o.object o.body → Keeps L w (write_cell o n x w)
write_cell_keeps o n x w s = like_keeps o _ w (record { kind = refl; cells = length-set o.body.cells n x }) s

pub set_flag_keeps : {L : Look} (o : Reached) (f : ℕ) (b : Bool) (w : Work) → SuitsAt L o.object o.body → Keeps L w (set_flag o f b w)
set_flag_keeps o f b w s = like_keeps o _ w (record { kind = refl; cells = refl }) s

pub bind_keeps : {L : Look} (at : Place) (o : Reached) (t : TagRef) (w : Work) → SuitsAt L o.object o.body → Keeps L w (bind at o t w)
bind_keeps at o t w s =
    if_keeps (list_any (same_tag t) o.body.tags) _ _ (keeps_same w tt)
    (if_keeps (nat_lt (length o.body.tags) 16) _ _ (like_keeps o _ w (record { kind = refl; cells = refl }) s) (keeps_fault w fault.TagSlots at))

pub unbind_keeps : {L : Look} (o : Reached) (t : TagRef) (w : Work) → SuitsAt L o.object o.body → Keeps L w (unbind o t w)
unbind_keeps o t w s = like_keeps o _ w (record { kind = refl; cells = refl }) s

pub say_keeps : {L : Look} (at : Place) (bytes : List ℕ) (w : Work) → Keeps L w (say at bytes w)
say_keeps at bytes w =
    if_keeps (nat_le (length w.text + length bytes) 65536) _ _ (keeps_here w _ tt refl) (keeps_fault w fault.Text at)

take_turn_keeps : {L : Look} (at : Place) (n : ℕ) (w : Work) → Keeps L w (take_turn at n w)
take_turn_keeps at zero w = keeps_fault w fault.Turns at
take_turn_keeps at (suc n) w = keeps_here w _ tt refl

pub turn_keeps : {L : Look} (at : Place) (w : Work) → Keeps L w (turn at w)
turn_keeps at w = take_turn_keeps at w.turns w

pub enter_keeps : {L : Look} (at : Place) (depth : ℕ) (w : Work) → Keeps L w (enter at depth w)
enter_keeps at depth w =
    keeps_then (turn_keeps at w) (λ x v. if_keeps (nat_lt depth 100) _ _ (keeps_same v tt) (keeps_fault v fault.Depth at))

pub make_keeps : {L : Look} (at : Place) (b : Body) (w : Work) → Keeps L w (make at b w)
make_keeps at b w =
    if_keeps (nat_lt (length w.made) 65536 && nat_le (cells_in w.made + length b.cells) 4194304) _ _
    (keeps_here w _ _ refl) (keeps_fault w fault.Size at)

pub make_instance_keeps : {L : Look} (at : Place) (tag_type : ℕ) (w : Work) → Keeps L w (make_instance at tag_type w)
make_instance_keeps at tag_type w =
    if_keeps (nat_lt (length w.instances) 65536) _ _ (keeps_here w _ _ refl) (keeps_fault w fault.Size at)
