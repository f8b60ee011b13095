-- The small steps of a run use turns up, and add none.
use Rattle.std.proofs.Common.{◌≡◌, ℕ, pos, negsuc, zero, suc, ◌+◌, ◌≤◌, Bool, true, false, cond, ◌&&◌, List, ◌++◌, [], ◌∷◌, length, refl, arith}
use Rattle.std.specs.Prelude.{nat_le, nat_lt, slice_get, option_and_then, Option, Some, None}
use Rattle.std.specs.Fmt.{signed_decimal}
use Rattle.std.specs.List.{list_any}
use Rattle.bc_data.specs.declared.program.Op.{Op}
use Rattle.bc_data.specs.declared.run.Body.{Body}
use Rattle.bc_data.specs.declared.run.FaultKind.TheVariants as fault
use Rattle.bc_data.specs.declared.run.Kind.{Kind}
use Rattle.bc_data.specs.declared.run.Place.{Place}
use Rattle.bc_data.specs.declared.run.TagRef.{TagRef}
use Rattle.bc_data.specs.declared.run.Value.{Value}
use Rattle.bc_data.specs.declared.run.Value.TheVariants as value
use Rattle.bc_mean.specs.Store.{cells_in}
use Rattle.bc_mean.specs.Values.{arithmetic, divides_by_zero, same_tag}
use Rattle.bc_mean.specs.Work.{Look, Work, Got, Gives, Stops, ObjectRef, OldObject, NewObject, Reached, and_then, faults, known, choose, touch, seen, made_one, reach, parameter, write, say, take_turn, turn, enter, set_flag, bind, unbind, make, make_instance}
use Rattle.bc_mean.specs.Evaluate.{negate, invert, calculate, index_of, within, index_in, zero_array, make_array}
use Rattle.bc_mean.specs.Execute.{text_of_truth, say_number, say_truth, write_cell, assert_true}
use Rattle.bc_law_locality.specs.Growth.{has}
use Rattle.bc_law_code.proofs.Leads.{Lower, Used, below}

pub lower_gives : {A : Type 0} {w : Work} {x : A} → Lower w (Gives x w)
lower_gives = record { turns = omega arith }

pub lower_stops : {A : Type 0} {w : Work} {h : _} → Lower w {A = A} (Stops h w)
lower_stops = record { turns = omega arith }

lower_at : {A B : Type 0} (w : Work) (g : Got A) (go : A → Work → Got B) → Lower w g → ((x : A) (v : Work) → Lower v (go x v)) → Lower w (and_then g go)
lower_at w (Gives x v) go l k = record { turns = below (k x v).turns l.turns }
lower_at w (Stops h v) go l k = record { turns = l.turns }

pub lower_then : {A B : Type 0} {w : Work} {g : Got A} {go : A → Work → Got B} → Lower w g → ((x : A) (v : Work) → Lower v (go x v)) → Lower w (and_then g go)
lower_then {w = w} {g = g} {go = go} l k = lower_at w g go l k

lower_if : {A : Type 0} {w : Work} (b : Bool) (g h : Got A) → Lower w g → Lower w h → Lower w (cond b g h)
lower_if true g h l m = l
lower_if false g h l m = m

pub lower_known : {A : Type 0} (o : Option A) (w : Work) → Lower w (known o w)
lower_known None w = lower_stops
lower_known (Some x) w = lower_gives

lower_choose : {A : Type 0} (x : Value) (one other : Work → Got A) (w : Work) → Lower w (one w) → Lower w (other w) → Lower w (choose x one other w)
lower_choose (value.Bool true) one other w l m = l
lower_choose (value.Bool false) one other w l m = m
lower_choose (value.Int n) one other w l m = lower_stops
lower_choose value.Null one other w l m = lower_stops
lower_choose (value.Old id) one other w l m = lower_stops
lower_choose (value.New n) one other w l m = lower_stops

lower_seen : (id : ℕ) (o : Option Body) (w v : Work) → v.turns ≤ w.turns → Lower w (seen id o v)
lower_seen id None w v le = record { turns = le }
lower_seen id (Some b) w v le = record { turns = le }

touch_turns : (id : ℕ) (w : Work) → (touch id w).turns ≤ w.turns
touch_turns id w = at (has w.touched id)
  where
    at : (b : Bool) → (cond b w (record w { touched = w.touched ++ id ∷ [] })).turns ≤ w.turns
    at true = omega arith
    at false = omega arith

pub lower_made_one : (n : ℕ) (o : Option Body) (w : Work) → Lower w (made_one n o w)
lower_made_one n None w = lower_stops
lower_made_one n (Some b) w = lower_gives

pub lower_reach : (L : Look) (at : Place) (x : Value) (w : Work) → Lower w (reach L at x w)
lower_reach L at value.Null w = lower_stops
lower_reach L at (value.Old id) w = lower_seen id (L id) w (touch id w) (touch_turns id w)
lower_reach L at (value.New n) w = lower_made_one n (slice_get w.made n) w
lower_reach L at (value.Int n) w = lower_stops
lower_reach L at (value.Bool b) w = lower_stops

pub lower_parameter : (L : Look) (o : Option ℕ) (w : Work) → Lower w (parameter L o w)
lower_parameter L None w = lower_stops
lower_parameter L (Some id) w = lower_seen id (L id) w w (omega arith)

pub lower_write : (o : ObjectRef) (b : Body) (w : Work) → Lower w (write o b w)
lower_write (OldObject id) b w = record { turns = omega arith }
lower_write (NewObject n) b w = record { turns = omega arith }

pub lower_write_cell : (o : Reached) (n : ℕ) (x : Value) (w : Work) → Lower w (write_cell o n x w)
lower_write_cell o n x w = lower_write o.object _ w

pub lower_set_flag : (o : Reached) (f : ℕ) (b : Bool) (w : Work) → Lower w (set_flag o f b w)
lower_set_flag o f b w = lower_write o.object _ w

pub lower_bind : (at : Place) (o : Reached) (t : TagRef) (w : Work) → Lower w (bind at o t w)
lower_bind at o t w =
    lower_if (list_any (same_tag t) o.body.tags) _ _ lower_gives
    (lower_if (nat_lt (length o.body.tags) 16) _ _ (lower_write o.object _ w) lower_stops)

pub lower_unbind : (o : Reached) (t : TagRef) (w : Work) → Lower w (unbind o t w)
lower_unbind o t w = lower_write o.object _ w

pub lower_say : (at : Place) (bytes : List ℕ) (w : Work) → Lower w (say at bytes w)
lower_say at bytes w = lower_if (nat_le (length w.text + length bytes) 65536) _ _ (record { turns = omega arith }) lower_stops

lower_take_turn : (at : Place) (n : ℕ) (w : Work) → w.turns ≡ n → Lower w (take_turn at n w)
lower_take_turn at zero w e = lower_stops
lower_take_turn at (suc n) w e = record { turns = omega arith }

pub lower_turn : (at : Place) (w : Work) → Lower w (turn at w)
lower_turn at w = lower_take_turn at w.turns w refl

pub lower_enter : (at : Place) (depth : ℕ) (w : Work) → Lower w (enter at depth w)
lower_enter at depth w = lower_then (lower_turn at w) (λ x v. lower_if (nat_lt depth 100) _ _ lower_gives lower_stops)

used_take_turn : (at : Place) (n : ℕ) (w : Work) → w.turns ≡ n → Used w (take_turn at n w)
used_take_turn at zero w e = tt
used_take_turn at (suc n) w e = omega arith

pub used_turn : (at : Place) (w : Work) → Used w (turn at w)
used_turn at w = used_take_turn at w.turns w refl

used_enter_at : (at : Place) (depth : ℕ) (w : Work) (g : Got (Unit {0})) → Used w g → Used w (and_then g (λ x v. cond (nat_lt depth 100) (Gives (tt {0}) v) (faults fault.Depth at v)))
used_enter_at at depth w (Gives x v) u = here (nat_lt depth 100)
  where
    here : (b : Bool) → Used w (cond b (Gives (tt {0}) v) (faults fault.Depth at v))
    here true = u
    here false = tt
used_enter_at at depth w (Stops h v) u = tt

-- a call uses a turn
pub used_enter : (at : Place) (depth : ℕ) (w : Work) → Used w (enter at depth w)
used_enter at depth w = used_enter_at at depth w (turn at w) (used_turn at w)

pub lower_make : (at : Place) (b : Body) (w : Work) → Lower w (make at b w)
lower_make at b w =
    lower_if (nat_lt (length w.made) 65536 && nat_le (cells_in w.made + length b.cells) 4194304) _ _ (record { turns = omega arith }) lower_stops

pub lower_make_instance : (at : Place) (tag_type : ℕ) (w : Work) → Lower w (make_instance at tag_type w)
lower_make_instance at tag_type w = lower_if (nat_lt (length w.instances) 65536) _ _ (record { turns = omega arith }) lower_stops

pub lower_negate : (x : Value) (w : Work) → Lower w (negate x w)
lower_negate (value.Int n) w = lower_gives
lower_negate (value.Bool b) w = lower_stops
lower_negate value.Null w = lower_stops
lower_negate (value.Old id) w = lower_stops
lower_negate (value.New n) w = lower_stops

pub lower_invert : (x : Value) (w : Work) → Lower w (invert x w)
lower_invert (value.Bool b) w = lower_gives
lower_invert (value.Int n) w = lower_stops
lower_invert value.Null w = lower_stops
lower_invert (value.Old id) w = lower_stops
lower_invert (value.New n) w = lower_stops

pub lower_calculate : (at : Place) (o : Op) (x y : Value) (w : Work) → Lower w (calculate at o x y w)
lower_calculate at o (value.Int a) (value.Int b) w = lower_if (divides_by_zero o b) _ _ lower_stops (lower_known (arithmetic o a b) w)
lower_calculate at o (value.Int a) (value.Bool b) w = lower_stops
lower_calculate at o (value.Int a) value.Null w = lower_stops
lower_calculate at o (value.Int a) (value.Old id) w = lower_stops
lower_calculate at o (value.Int a) (value.New n) w = lower_stops
lower_calculate at o (value.Bool b) y w = lower_stops
lower_calculate at o value.Null y w = lower_stops
lower_calculate at o (value.Old id) y w = lower_stops
lower_calculate at o (value.New n) y w = lower_stops

lower_within : {A : Type 0} (at : Place) (o : Option A) (w : Work) → Lower w (within at o w)
lower_within at None w = lower_stops
lower_within at (Some x) w = lower_gives

pub lower_index_in : (at : Place) (b : Body) (x : Value) (w : Work) → Lower w (index_in at b x w)
lower_index_in at b (value.Int i) w = lower_within at (option_and_then (λ n. option_and_then (λ x. Some n) (slice_get b.cells n)) (index_of i)) w
lower_index_in at b (value.Bool c) w = lower_stops
lower_index_in at b value.Null w = lower_stops
lower_index_in at b (value.Old id) w = lower_stops
lower_index_in at b (value.New n) w = lower_stops

pub lower_make_array : (at : Place) (k : Kind) (x : Value) (w : Work) → Lower w (make_array at k x w)
lower_make_array at k (value.Int (pos n)) w =
    lower_if (nat_le n 65536) _ _ (lower_then (lower_make at (zero_array k n) w) (λ i v. lower_gives)) lower_stops
lower_make_array at k (value.Int (negsuc n)) w = lower_stops
lower_make_array at k (value.Bool b) w = lower_stops
lower_make_array at k value.Null w = lower_stops
lower_make_array at k (value.Old id) w = lower_stops
lower_make_array at k (value.New n) w = lower_stops

pub lower_say_number : (at : Place) (x : Value) (w : Work) → Lower w (say_number at x w)
lower_say_number at (value.Int n) w = lower_say at (signed_decimal n) w
lower_say_number at (value.Bool b) w = lower_stops
lower_say_number at value.Null w = lower_stops
lower_say_number at (value.Old id) w = lower_stops
lower_say_number at (value.New n) w = lower_stops

pub lower_say_truth : (at : Place) (x : Value) (w : Work) → Lower w (say_truth at x w)
lower_say_truth at (value.Bool b) w = lower_say at (text_of_truth b) w
lower_say_truth at (value.Int n) w = lower_stops
lower_say_truth at value.Null w = lower_stops
lower_say_truth at (value.Old id) w = lower_stops
lower_say_truth at (value.New n) w = lower_stops

pub lower_assert : (at : Place) (x : Value) (w : Work) → Lower w (assert_true at x w)
lower_assert at x w = lower_choose x (Gives tt) (faults fault.Assert at) w lower_gives lower_stops
