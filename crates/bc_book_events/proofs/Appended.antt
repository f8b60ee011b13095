-- What a commit appends to the pending list, and what it keeps, from the objects that move.
use Rattle.std.proofs.Common.{◌≡◌, ℕ, zero, suc, ◌+◌, ◌<◌, ◌≤◌, inl, inr, Bool, true, false, not, ◌&&◌, ◌||◌, ◌==◌, List, [], ◌∷◌, ◌++◌, map, length, length-append, length-set, set, Option, None, refl, sym, ap, ◌∙◌, arith}
use Rattle.std.specs.Prelude.{option_map, slice_get}
use Rattle.std.specs.List.{range_with_len}
use Rattle.std.proofs.lemmas.Bool.{cases_lt, eqb-false, or_parts, false≢true, cases_eq, eq-eqb, or_left, or_right}
use Rattle.std.proofs.lemmas.List.{length-map}
use Rattle.std.proofs.lemmas.List.Folds.{list_any-append}
use Rattle.std.proofs.lemmas.List.Kept.{AllPairs-filter}
use Rattle.std.proofs.lemmas.Option.{slice_get_past, slice_get_within}
use Rattle.bc_data.specs.Typed.{TypedProgram}
use Rattle.bc_data.specs.declared.run.Body.{Body}
use Rattle.bc_data.specs.declared.run.Invocation.{Invocation}
use Rattle.bc_data.specs.declared.run.Written.{Written}
use Rattle.bc_mean.specs.declared.plain.Plain.{Plain}
use Rattle.bc_mean.specs.Changes.{body_in, put_bodies}
use Rattle.bc_mean.specs.Enabled.{is_enabled, all_enabled}
use Rattle.bc_mean.specs.Orders.{IsAscending, precedes}
use Rattle.bc_mean.specs.Serial.{Failed, has_failure, listed, same_invocation}
use Rattle.bc_mean.proofs.Enabled.{all_ascending}
use Rattle.bc_mean.proofs.Orders.{one_ascending}
use Rattle.bc_book_events.specs.Book.{busy, is_running}
use Rattle.bc_book_events.specs.Reshaped.{appended, bare, failures_dropped, has, kept, names_any}
use Rattle.bc_book_events.specs.Laws.{AppendedMet, ChangesMove, KeptShort}
use Rattle.bc_book_events.specs.Steps.{failures_left}
use Rattle.bc_book_events.proofs.Exact.{listed_appended, ready}
use Rattle.bc_book_events.proofs.Members.{failures_split, filter_within}
use Rattle.bc_book_events.proofs.Reshaped.{stays_enabled, was_enabled}
use Rattle.bc_book_events.proofs.Running.{listed_busy, running_freed}

-- Where something is enabled behind a commit: it was pending, or it is open, and these are the ways in which it comes to be so.
wanted_bools : (p e r f s r2 d k m e2 : Bool) → p ≡ (e && (not r && not f)) → r ≡ (s || r2) → f ≡ (d || k) → (m ≡ false → e2 ≡ true → e ≡ true) →
    (e2 && (not (p && e2) && (not r2 && not k))) ≡ (e2 && ((m || (d || s)) && (not p && (not r2 && not k))))
wanted_bools p e r f s r2 d k m e2 x y z w = grind (arith, x, y, z, w)

appended_ascending : (P : TypedProgram) (T : Plain) (failures : List Failed) (running pending : List Invocation) → IsAscending (appended P T failures running pending)
appended_ascending P T failures running pending =
    AllPairs-filter (λ v w. precedes v w ≡ true) (λ v. not (listed (kept P T pending) v) && (not (listed running v) && not (has_failure failures v))) (all_enabled P T) (all_ascending P T)

pub appended_met : AppendedMet
appended_met b T reshaped changed worker v found exact held typed fits reshapes up h =
    one_ascending (appended b.program T left (busy others) b.pending) found (appended_ascending b.program T left (busy others) b.pending) up
    (λ w. listed_appended b.program T left (busy others) b.pending w
    ∙ (ap (λ (c : Bool). is_enabled b.program T w && (not (listed b.pending w && is_enabled b.program T w) && (not c && not (has_failure left w)))) (listed_busy others w)
    ∙ (wanted_bools (listed b.pending w) (is_enabled b.program b.store w) (is_running b.running w) (has_failure b.failures w) (same_invocation w v) (is_running others w) (has_failure (failures_dropped changed b.failures) w) (has_failure left w) (names_any reshaped w) (is_enabled b.program T w)
    (exact.pending w) (running_freed b.running worker v held w) (failures_split changed b.failures w)
    (λ still on. was_enabled b.program b.store T reshaped reshapes w still typed fits on)
    ∙ sym (h w))))
  where
    left : List Failed
    left = failures_left changed b.failures

    others : List (Option Invocation)
    others = set b.running worker None

kept_bools : (m e2 : Bool) → (m ≡ false → e2 ≡ true) → e2 ≡ (not m || e2)
kept_bools m e2 h = grind (arith, h)

pub kept_short : KeptShort
kept_short b T reshaped exact reshapes =
    filter_within (is_enabled b.program T) (λ v. not (names_any reshaped v) || is_enabled b.program T v) b.pending
    (λ v there. kept_bools (names_any reshaped v) (is_enabled b.program T v) (λ still. stays_enabled b.program b.store T reshaped reshapes v still (ready b exact v there).0))

-- objects that changes neither write nor make
pub set_else : {X : Type 0} (xs : List X) (i k : ℕ) (x : X) → (i ≡ k → ⊥) → slice_get (set xs i x) k ≡ slice_get xs k
set_else [] i k x n = refl
set_else (y ∷ ys) zero zero x n = absurd (n refl)
set_else (y ∷ ys) zero (suc k) x n = refl
set_else (y ∷ ys) (suc i) zero x n = refl
set_else (y ∷ ys) (suc i) (suc k) x n = set_else ys i k x (λ e. n (ap suc e))

pub put_else : (S : Plain) (ws : List Written) (bodies : List Body) (id : ℕ) → has (map (λ w. w.id) ws) id ≡ false → slice_get (put_bodies S ws bodies) id ≡ slice_get bodies id
put_else S [] bodies id h = refl
put_else S (w ∷ ws) bodies id h =
    let q = or_parts (w.id == id) (has (map (λ w. w.id) ws) id) h in
    put_else S ws (set bodies w.id (body_in S w.body)) id q.1 ∙ set_else bodies w.id id (body_in S w.body) (eqb-false w.id id q.0)

pub put_length : (S : Plain) (ws : List Written) (bodies : List Body) → length (put_bodies S ws bodies) ≡ length bodies
put_length S [] bodies = refl
put_length S (w ∷ ws) bodies = put_length S ws (set bodies w.id (body_in S w.body)) ∙ length-set bodies w.id (body_in S w.body)

pub get_front : {X : Type 0} (xs ys : List X) (k : ℕ) → k < length xs → slice_get (xs ++ ys) k ≡ slice_get xs k
get_front [] ys k h = absurd (omega arith)
get_front (x ∷ xs) ys zero h = refl
get_front (x ∷ xs) ys (suc k) h = get_front xs ys k (omega arith)

pub has_range : (a n x : ℕ) → a ≤ x → x < a + n → has (range_with_len a n) x ≡ true
has_range a zero x low high = absurd (omega arith)
has_range a (suc n) x low high = elim (cases_eq a x) [
  | inl e ↦ or_left (a == x) (has (range_with_len (a + 1) n) x) (eq-eqb a x e)
  | inr d ↦ let ne : a ≡ x → ⊥ = d in or_right (a == x) (has (range_with_len (a + 1) n) x) (has_range (a + 1) n x (omega (arith, ne)) (omega arith))
]

pub changes_move : ChangesMove
changes_move S c = record {
  bodies = λ id h.
      let ids = map (λ (w : Written). w.id) c.bodies in
      let new = range_with_len (length S.bodies) (length c.made) in
      let put = put_bodies S c.bodies S.bodies in
      let made = map (body_in S) c.made in
      let q = or_parts (has ids id) (has new id) (sym (list_any-append (λ other. other == id) ids new) ∙ h) in
      let size : length put ≡ length S.bodies = put_length S c.bodies S.bodies in
      elim (cases_lt id (length S.bodies)) [
        | inl l ↦ ap (option_map bare) (sym (get_front put made id (omega arith) ∙ put_else S c.bodies S.bodies id q.0))
        | inr l ↦ elim (cases_lt id (length S.bodies + length c.made)) [
          | inl k ↦ absurd (false≢true (sym q.1 ∙ has_range (length S.bodies) (length c.made) id l k))
          | inr k ↦ ap (option_map bare) (slice_get_past S.bodies id l ∙ sym (slice_get_past (put ++ made) id (omega (arith, size, length-append put made, length-map c.made (body_in S)))))
        ]
      ];
  types = λ n type e. get_front S.tags c.tags n (slice_get_within S.tags n type e) ∙ e;
}
