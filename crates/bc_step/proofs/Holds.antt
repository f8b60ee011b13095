-- Objects that were given, as contracts see them.
use Rattle.std.proofs.Common.{◌≡◌, ℕ, zero, suc, ◌+◌, ◌<◌, Bool, true, false, not, ◌==◌, cond, if◌then◌else◌, List, [], ◌∷◌, ◌++◌, length, map, get_or, take, refl, sym, ap, subst, ◌∙◌, Option, Some, None, arith}
use Rattle.std.specs.Prelude.{option_map, IsOk, OnOk, Result, Ok, Err}
use Rattle.std.specs.List.{list_any}
use Rattle.std.proofs.lemmas.Bool.{false≢true, and_from, and_parts, eq-eqb, eqb-true, not_from_false, not-true, or_from, or_parts}
use Rattle.std.proofs.lemmas.List.{take_more}
use Rattle.std.proofs.lemmas.List.Folds.{list_any-append, list_any_at}
use Rattle.bc_data.specs.declared.run.Body.{Body}
use Rattle.bc_data.specs.declared.run.Written.{Written}
use Rattle.bc_mean.specs.Enabled.{are_different}
use Rattle.bc_mean.specs.Work.{newest, put}
use Rattle.bc_code.specs.Given.{given_look, ids_of}
use Rattle.bc_step.specs.Area.{AreCopies, Held, copied, copies_of, given_of, with_id}
use Rattle.bc_step.specs.declared.held.Given.{Given}
use Rattle.bc_step.specs.Held.{HeldParts, HoldsNow, held_body, held_of, is_given, latest, look_in, unwritten, write_in}
use Rattle.bc_step.proofs.Lookups.{any_flip, flip, same_given}

pub ids_held : (ids : List ℕ) (gs : List Given) → length ids ≡ length gs → ids_of (given_of (held_of ids gs)) ≡ ids
ids_held [] gs len = refl
ids_held (k ∷ ks) [] len = absurd (omega (arith, len))
ids_held (k ∷ ks) (g ∷ gs) len = ap (λ (l : List ℕ). k ∷ l) (ids_held ks gs (omega (arith, len)))

pub held_long : (ids : List ℕ) (gs : List Given) → length ids ≡ length gs → length (held_of ids gs) ≡ length ids
held_long [] gs len = refl
held_long (k ∷ ks) [] len = absurd (omega (arith, len))
held_long (k ∷ ks) (g ∷ gs) len = ap (λ (n : ℕ). suc n) (held_long ks gs (omega (arith, len)))

-- whether it was given
pub has_held : (id : ℕ) (ids : List ℕ) (gs : List Given) → length ids ≡ length gs → list_any (λ k. id == k) ids ≡ is_given id (held_of ids gs)
has_held id ids gs len = any_flip id ids ∙ ap (λ (l : List ℕ). list_any (λ k. k == id) l) (sym (ids_held ids gs len))

-- the body that was given
given_at : (r : Bool) (b : Body) (g : Given) (o : Option Body) (p : Option Given) → b ≡ g.body → o ≡ option_map (λ g. g.body) p → cond r (Some b) o ≡ option_map (λ g. g.body) (cond r (Some g) p)
given_at true b g o p e h = ap (λ (x : Body). Some x) e
given_at false b g o p e h = h

pub given_held : (id : ℕ) (ids : List ℕ) (gs : List Given) → given_look (given_of (held_of ids gs)) id ≡ option_map (λ g. g.body) (look_in ids gs id)
given_held id [] gs = refl
given_held id (k ∷ ks) [] = refl
given_held id (k ∷ ks) (g ∷ gs) = given_at (k == id) g.body g _ _ refl (given_held id ks gs)

-- the copy of one that is found, or this body
abbrev pub latest_in : Option Given → Body → Body
latest_in None b = b
latest_in (Some g) b = latest g.copy b

newest_absent_at : (k id : ℕ) (o : Option Body) (ws : List Written) (b : Body) → (k == id) ≡ false → newest (copied k o ws) id b ≡ newest ws id b
newest_absent_at k id None ws b n = refl
newest_absent_at k id (Some c) ws b n = ap (λ (r : Bool). if r then c else newest ws id b) n

pub newest_absent : (id : ℕ) (ids : List ℕ) (gs : List Given) (b : Body) → list_any (λ k. k == id) ids ≡ false → newest (copies_of (held_of ids gs)) id b ≡ b
newest_absent id [] gs b h = refl
newest_absent id (k ∷ ks) [] b h = refl
newest_absent id (k ∷ ks) (g ∷ gs) b h =
    let p = or_parts (k == id) (list_any (λ k. k == id) ks) h in
    newest_absent_at k id g.copy (copies_of (held_of ks gs)) b p.0 ∙ newest_absent id ks gs b p.1

newest_here : (k id : ℕ) (o : Option Body) (ws : List Written) (b : Body) → (k == id) ≡ true → newest ws id b ≡ b → newest (copied k o ws) id b ≡ latest o b
newest_here k id None ws b e h = h
newest_here k id (Some c) ws b e h = ap (λ (r : Bool). if r then c else newest ws id b) e

-- the newest copy of an object, or the body that it had
pub newest_held : (id : ℕ) (ids : List ℕ) (gs : List Given) (b : Body) → are_different ids ≡ true → newest (copies_of (held_of ids gs)) id b ≡ latest_in (look_in ids gs id) b
newest_held id [] gs b d = refl
newest_held id (k ∷ ks) [] b d = refl
newest_held id (k ∷ ks) (g ∷ gs) b d =
    let p = and_parts (not (list_any (λ other. other == k) ks)) (are_different ks) d in
    by (k == id) refl (not-true (list_any (λ other. other == k) ks) p.0) (newest_held id ks gs b p.1)
  where
    by : (r : Bool) → (k == id) ≡ r → list_any (λ other. other == k) ks ≡ false → newest (copies_of (held_of ks gs)) id b ≡ latest_in (look_in ks gs id) b → newest (copied k g.copy (copies_of (held_of ks gs))) id b ≡ latest_in (if k == id then Some g else look_in ks gs id) b
    by true e n h =
        let same : k ≡ id = eqb-true k id e in
        newest_here k id g.copy (copies_of (held_of ks gs)) b e (newest_absent id ks gs b (ap (λ (x : ℕ). list_any (λ other. other == x) ks) (sym same) ∙ n))
        ∙ ap (λ (s : Bool). latest_in (if s then Some g else look_in ks gs id) b) (sym e)
    by false e n h =
        newest_absent_at k id g.copy (copies_of (held_of ks gs)) b e ∙ h
        ∙ ap (λ (s : Bool). latest_in (if s then Some g else look_in ks gs id) b) (sym e)

-- the body as the invocation sees it
seen_at : (o : Option Given) → option_map (λ b. latest_in o b) (option_map (λ g. g.body) o) ≡ option_map (λ g. latest g.copy g.body) o
seen_at None = refl
seen_at (Some g) = refl

map_same : (f h : Body → Body) (o : Option Body) → ((b : Body) → f b ≡ h b) → option_map f o ≡ option_map h o
map_same f h None e = refl
map_same f h (Some b) e = ap (λ (x : Body). Some x) (e b)

pub body_held : (id : ℕ) (ids : List ℕ) (gs : List Given) → are_different ids ≡ true → held_body (held_of ids gs) id ≡ option_map (λ g. latest g.copy g.body) (look_in ids gs id)
body_held id ids gs d =
    map_same (λ b. newest (copies_of (held_of ids gs)) id b) (λ b. latest_in (look_in ids gs id) b) (given_look (given_of (held_of ids gs)) id) (λ b. newest_held id ids gs b d)
    ∙ ap (λ (o : Option Body). option_map (λ b. latest_in (look_in ids gs id) b) o) (given_held id ids gs)
    ∙ seen_at (look_in ids gs id)

-- One object is written.

pub given_written : (ids : List ℕ) (gs : List Given) (id : ℕ) (b : Body) → given_of (held_of ids (write_in ids gs id b)) ≡ given_of (held_of ids gs)
given_written [] gs id b = refl
given_written (k ∷ ks) [] id b = refl
given_written (k ∷ ks) (g ∷ gs) id b = by (k == id) (given_written ks gs id b)
  where
    by : (r : Bool) → given_of (held_of ks (write_in ks gs id b)) ≡ given_of (held_of ks gs) → given_of (held_of (k ∷ ks) (if r then record g { copy = Some b } ∷ gs else g ∷ write_in ks gs id b)) ≡ given_of (held_of (k ∷ ks) (g ∷ gs))
    by true h = refl
    by false h = ap (λ (l : List Written). record { id = k; body = g.body } ∷ l) h

pub length_written : (ids : List ℕ) (gs : List Given) (id : ℕ) (b : Body) → length (write_in ids gs id b) ≡ length gs
length_written [] gs id b = refl
length_written (k ∷ ks) [] id b = refl
length_written (k ∷ ks) (g ∷ gs) id b = by (k == id) (length_written ks gs id b)
  where
    by : (r : Bool) → length (write_in ks gs id b) ≡ length gs → length (if r then record g { copy = Some b } ∷ gs else g ∷ write_in ks gs id b) ≡ length (g ∷ gs)
    by true h = refl
    by false h = ap suc h

-- this one, and the others
pub look_written : (ids : List ℕ) (gs : List Given) (id : ℕ) (b : Body) (g : Given) → look_in ids gs id ≡ Some g → look_in ids (write_in ids gs id b) id ≡ Some (record g { copy = Some b })
look_written [] gs id b g e = absurd (cc)
look_written (k ∷ ks) [] id b g e = absurd (cc)
look_written (k ∷ ks) (h ∷ gs) id b g e = by (k == id) refl (look_written ks gs id b g)
  where
    by : (r : Bool) → (k == id) ≡ r → (look_in ks gs id ≡ Some g → look_in ks (write_in ks gs id b) id ≡ Some (record g { copy = Some b })) → look_in (k ∷ ks) (if k == id then record h { copy = Some b } ∷ gs else h ∷ write_in ks gs id b) id ≡ Some (record g { copy = Some b })
    by true p rest =
        let same : h ≡ g = same_given h g (ap (λ (s : Bool). if s then Some h else look_in ks gs id) (sym p) ∙ e) in
        ap (λ (s : Bool). look_in (k ∷ ks) (if s then record h { copy = Some b } ∷ gs else h ∷ write_in ks gs id b) id) p
        ∙ ap (λ (s : Bool). if s then Some (record h { copy = Some b }) else look_in ks gs id) p
        ∙ ap (λ (x : Given). Some (record x { copy = Some b })) same
    by false p rest =
        ap (λ (s : Bool). look_in (k ∷ ks) (if s then record h { copy = Some b } ∷ gs else h ∷ write_in ks gs id b) id) p
        ∙ ap (λ (s : Bool). if s then Some h else look_in ks (write_in ks gs id b) id) p
        ∙ rest (ap (λ (s : Bool). if s then Some h else look_in ks gs id) (sym p) ∙ e)

pub look_other : (ids : List ℕ) (gs : List Given) (id other : ℕ) (b : Body) → (id == other) ≡ false → look_in ids (write_in ids gs id b) other ≡ look_in ids gs other
look_other [] gs id other b n = refl
look_other (k ∷ ks) [] id other b n = refl
look_other (k ∷ ks) (h ∷ gs) id other b n = by (k == id) refl (look_other ks gs id other b n)
  where
    by : (r : Bool) → (k == id) ≡ r → look_in ks (write_in ks gs id b) other ≡ look_in ks gs other → look_in (k ∷ ks) (if k == id then record h { copy = Some b } ∷ gs else h ∷ write_in ks gs id b) other ≡ look_in (k ∷ ks) (h ∷ gs) other
    by true p rest =
        let not_this : (k == other) ≡ false = ap (λ (x : ℕ). x == other) (eqb-true k id p) ∙ n in
        ap (λ (s : Bool). look_in (k ∷ ks) (if s then record h { copy = Some b } ∷ gs else h ∷ write_in ks gs id b) other) p
        ∙ ap (λ (s : Bool). if s then Some (record h { copy = Some b }) else look_in ks gs other) not_this
        ∙ ap (λ (s : Bool). if s then Some h else look_in ks gs other) (sym not_this)
    by false p rest =
        ap (λ (s : Bool). look_in (k ∷ ks) (if s then record h { copy = Some b } ∷ gs else h ∷ write_in ks gs id b) other) p
        ∙ ap (λ (o : Option Given). if k == other then Some h else o) rest

-- a copy that is put, and the others
put_same : (id : ℕ) (b c : Body) (cs : List Written) → newest (put id b cs) id c ≡ b
put_same id b c [] = ap (λ (s : Bool). if s then b else c) (eq-eqb id id refl)
put_same id b c (w ∷ cs) = by (w.id == id) refl (put_same id b c cs)
  where
    by : (r : Bool) → (w.id == id) ≡ r → newest (put id b cs) id c ≡ b → newest (if r then record { id = id; body = b } ∷ cs else w ∷ put id b cs) id c ≡ b
    by true p rest = ap (λ (s : Bool). if s then b else newest cs id c) (eq-eqb id id refl)
    by false p rest = ap (λ (s : Bool). if s then w.body else newest (put id b cs) id c) p ∙ rest

put_other : (id other : ℕ) (b c : Body) (cs : List Written) → (id == other) ≡ false → newest (put id b cs) other c ≡ newest cs other c
put_other id other b c [] n = ap (λ (s : Bool). if s then b else c) n
put_other id other b c (w ∷ cs) n = by (w.id == id) refl (put_other id other b c cs n)
  where
    by : (r : Bool) → (w.id == id) ≡ r → newest (put id b cs) other c ≡ newest cs other c → newest (if r then record { id = id; body = b } ∷ cs else w ∷ put id b cs) other c ≡ newest (w ∷ cs) other c
    by true p rest =
        ap (λ (s : Bool). if s then b else newest cs other c) n
        ∙ ap (λ (s : Bool). if s then w.body else newest cs other c) (sym (ap (λ (x : ℕ). x == other) (eqb-true w.id id p) ∙ n))
    by false p rest = ap (λ (x : Body). if w.id == other then w.body else x) rest

pub copies_written : (ids : List ℕ) (gs : List Given) (id : ℕ) (b : Body) (g : Given) (cs : List Written) → are_different ids ≡ true → look_in ids gs id ≡ Some g → AreCopies cs (held_of ids gs) → AreCopies (put id b cs) (held_of ids (write_in ids gs id b))
copies_written ids gs id b g cs d e are other c = by (id == other) refl
  where
    by : (r : Bool) → (id == other) ≡ r → newest (put id b cs) other c ≡ newest (copies_of (held_of ids (write_in ids gs id b))) other c
    by true p =
        let same : id ≡ other = eqb-true id other p in
        ap (λ (x : ℕ). newest (put id b cs) x c) (sym same) ∙ put_same id b c cs
        ∙ ap (λ (o : Option Given). latest_in o c) (sym (look_written ids gs id b g e))
        ∙ ap (λ (x : ℕ). latest_in (look_in ids (write_in ids gs id b) x) c) same
        ∙ sym (newest_held other ids (write_in ids gs id b) c d)
    by false p =
        put_other id other b c cs p ∙ are other c ∙ newest_held other ids gs c d
        ∙ ap (λ (o : Option Given). latest_in o c) (sym (look_other ids gs id other b p))
        ∙ sym (newest_held other ids (write_in ids gs id b) c d)

-- One object more.

pub held_more : (ids : List ℕ) (gs : List Given) (id : ℕ) (b : Body) → length ids ≡ length gs → held_of (ids ++ id ∷ []) (gs ++ unwritten b ∷ []) ≡ held_of ids gs ++ record { id = id; body = b; copy = None } ∷ []
held_more [] [] id b len = refl
held_more [] (g ∷ gs) id b len = absurd (omega (arith, len))
held_more (k ∷ ks) [] id b len = absurd (omega (arith, len))
held_more (k ∷ ks) (g ∷ gs) id b len = ap (λ (l : List Held). record { id = k; body = g.body; copy = g.copy } ∷ l) (held_more ks gs id b (omega (arith, len)))

not_last : (xs : List ℕ) (x id : ℕ) → list_any (λ o. o == x) xs ≡ false → (id == x) ≡ false → list_any (λ o. o == x) (xs ++ id ∷ []) ≡ false
not_last xs x id h n =
    list_any-append (λ o. o == x) xs (id ∷ []) ∙ or_from (list_any (λ o. o == x) xs) (list_any (λ o. o == x) (id ∷ [])) h (or_from (id == x) false n refl)

pub different_more : (xs : List ℕ) (id : ℕ) → are_different xs ≡ true → list_any (λ o. o == id) xs ≡ false → are_different (xs ++ id ∷ []) ≡ true
different_more [] id d h = refl
different_more (x ∷ xs) id d h =
    let s = or_parts (x == id) (list_any (λ o. o == id) xs) h in
    let p = and_parts (not (list_any (λ o. o == x) xs)) (are_different xs) d in
    and_from (not (list_any (λ o. o == x) (xs ++ id ∷ []))) (are_different (xs ++ id ∷ []))
    (not_from_false (list_any (λ o. o == x) (xs ++ id ∷ [])) (not_last xs x id (not-true (list_any (λ o. o == x) xs) p.0) (flip x id false s.0)))
    (different_more xs id p.1 s.1)

pub held_at_first : (ids : List ℕ) (bodies : List Body) → held_of ids (map unwritten bodies) ≡ with_id ids bodies
held_at_first [] bodies = refl
held_at_first (k ∷ ks) [] = refl
held_at_first (k ∷ ks) (b ∷ bodies) = ap (λ (l : List Held). record { id = k; body = b; copy = None } ∷ l) (held_at_first ks bodies)

-- none of different numbers stands before its place
pub not_before : (xs : List ℕ) (i : ℕ) → are_different xs ≡ true → i < length xs → list_any (λ k. get_or xs i 0 == k) (take i xs) ≡ false
not_before [] i d h = absurd (omega (arith, h))
not_before (y ∷ ys) zero d h = refl
not_before (y ∷ ys) (suc i) d h =
    let p = and_parts (not (list_any (λ o. o == y) ys)) (are_different ys) d in
    let within : i < length ys = omega (arith, h) in
    or_from (get_or ys i 0 == y) (list_any (λ k. get_or ys i 0 == k) (take i ys)) (by within (get_or ys i 0 == y) refl (not-true (list_any (λ o. o == y) ys) p.0)) (not_before ys i p.1 within)
  where
    by : i < length ys → (r : Bool) → (get_or ys i 0 == y) ≡ r → list_any (λ o. o == y) ys ≡ false → r ≡ false
    by within false q n = refl
    by within true q n = absurd (false≢true (sym n ∙ list_any_at (λ o. o == y) ys i 0 within q))

pub inserted : (keys more : List ℕ) (x : ℕ) → list_any (λ k. x == k) keys ≡ false → more ≡ (if list_any (λ k. x == k) keys then keys else (keys ++ x ∷ [])) → more ≡ keys ++ x ∷ []
inserted keys more x absent new = new ∙ ap (λ (r : Bool). if r then keys else (keys ++ x ∷ [])) absent

-- the numbers of a set, one more
pub set_more : (xs keys more : List ℕ) (i : ℕ) → are_different xs ≡ true → i < length xs → keys ≡ take i xs → more ≡ (if list_any (λ k. get_or xs i 0 == k) keys then keys else (keys ++ get_or xs i 0 ∷ [])) → more ≡ take (i + 1) xs
set_more xs keys more i d h same new =
    let x : ℕ = get_or xs i 0 in
    let absent : list_any (λ k. x == k) keys ≡ false = ap (λ (l : List ℕ). list_any (λ k. x == k) l) same ∙ not_before xs i d h in
    inserted keys more x absent new ∙ ap (λ (l : List ℕ). l ++ x ∷ []) same ∙ sym (take_more xs i 0 h)

-- one that is there, and what it becomes
pub record Found (o : Option Given) (b : Body) : Type 0 where
  pub given : Given
  pub is : o ≡ Some given
  pub body : latest given.copy given.body ≡ b

found_in : (o : Option Given) (b : Body) → option_map (λ g. latest g.copy g.body) o ≡ Some b → Found o b
found_in None b e = absurd (cc)
found_in (Some g) b e = record { given = g; is = refl; body = cc }

pub found_held : (ids : List ℕ) (gs : List Given) (id spare : ℕ) (h : HeldParts) (b : Body) → are_different ids ≡ true → record { held = held_of ids gs; spare = spare } ≡ h → held_body h.held id ≡ Some b → Found (look_in ids gs id) b
found_held ids gs id spare h b d v e =
    found_in (look_in ids gs id) b (sym (body_held id ids gs d) ∙ ap (λ (x : HeldParts). held_body x.held id) v ∙ e)

pub holds_now : (ids : List ℕ) (gs new : List Given) (id spare now_spare : ℕ) (g : Given) (b : Body) (old : HeldParts) → are_different ids ≡ true → look_in ids gs id ≡ Some g → new ≡ write_in ids gs id b → now_spare ≡ spare → record { held = held_of ids gs; spare = spare } ≡ old → HoldsNow old (record { held = held_of ids new; spare = now_spare }) id b
holds_now ids gs new id spare now_spare g b old d e n s v =
    subst (λ (h : HeldParts). HoldsNow h (record { held = held_of ids new; spare = now_spare }) id b) v record {
      copies = λ cs are. subst (λ (l : List Given). AreCopies (put id b cs) (held_of ids l)) (sym n) (copies_written ids gs id b g cs d e are);
      given = ap (λ (l : List Given). given_of (held_of ids l)) n ∙ given_written ids gs id b;
      spare = s;
    }

pub when_ok : {X E : Type 0} (r : Result X E) (P : Type 0) → IsOk r → OnOk r P → P
when_ok (Ok x) P i h = h
when_ok (Err e) P i h = absurd (cc)
