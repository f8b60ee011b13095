-- The reshaped objects of changes: what holds of each, sums over them, and their order.
use Rattle.std.proofs.Common.{◌≡◌, ℕ, suc, ◌+◌, ◌<◌, ◌≤◌, List, [], ◌∷◌, length, map, Some, subst, ap, arith, add-zero, zero-add}
use Rattle.std.specs.Prelude.{All, AllPairs, slice_get, sum_by}
use Rattle.std.specs.List.{AllByRecursion, range_with_len}
use Rattle.std.proofs.lemmas.Bool.{cond_both}
use Rattle.std.proofs.lemmas.List.Elements.{All-from_recursion, recursion_from_All, All-append}
use Rattle.std.proofs.lemmas.List.Sums.{sum_by-cons, sum_by-append}
use Rattle.bc_data.specs.declared.run.Body.{Body}
use Rattle.bc_data.specs.declared.run.Written.{Written}
use Rattle.bc_data.specs.declared.run.Changes.{Changes}
use Rattle.bc_mean.specs.declared.plain.Plain.{Plain}
use Rattle.bc_mean.proofs.Lists.{Chain, chain_from_pairs, chain_append, chain_map, chain_range, across}
use Rattle.bc_book_reshaped.specs.declared.reshaped.Reshaped.{Reshaped}
use Rattle.bc_book_reshaped.specs.declared.reshaped.Reshaped.TheVariants as object
use Rattle.bc_book_reshaped.specs.Reshaped.{id_of, is_reshaped, written_reshaped, made_reshaped, reshaped_in}
use Rattle.bc_book_reshaped.proofs.Puts.{Below}

-- the elements stand from this place on
abbrev pub StandsAt : {X : Type 0} → ℕ → List X → List X → Type 0
StandsAt at xs all = (j : ℕ) → slice_get all (at + j) ≡ slice_get xs j

pub stands_head : {X : Type 0} (at : ℕ) (x : X) (xs all : List X) → StandsAt at (x ∷ xs) all → slice_get all at ≡ Some x
stands_head at x xs all h = subst (λ n. slice_get all n ≡ Some x) (add-zero at) (h 0)

pub stands_tail : {X : Type 0} (at : ℕ) (x : X) (xs all : List X) → StandsAt at (x ∷ xs) all → StandsAt (at + 1) xs all
stands_tail at x xs all h j = let e : at + suc j ≡ at + 1 + j = omega arith in subst (λ n. slice_get all n ≡ slice_get xs j) e (h (suc j))

pub stands_all : {X : Type 0} (xs : List X) → StandsAt 0 xs xs
stands_all xs j = ap (slice_get xs) (zero-add j)

-- the new one at this place
abbrev pub new_at : ℕ → ℕ → Reshaped
new_at objects at = object.Made (objects + at) at

module _ (S : Plain) (c : Changes) (Q : Reshaped → Type 0) (one : (w : Written) (at : ℕ) → slice_get c.bodies at ≡ Some w → Q (object.Written w.id at)) where
  each_written : (at : ℕ) (ws : List Written) → StandsAt at ws c.bodies → AllByRecursion Q (written_reshaped S at ws)
  each_written at [] s = tt
  each_written at (w ∷ ws) s =
      let rest = each_written (at + 1) ws (stands_tail at w ws c.bodies s) in
      cond_both (is_reshaped S w) (object.Written w.id at ∷ written_reshaped S (at + 1) ws) (written_reshaped S (at + 1) ws) (AllByRecursion Q) (λ _. (one w at (stands_head at w ws c.bodies s), rest)) (λ _. rest)

each_made : (objects : ℕ) (made : List Body) (Q : Reshaped → Type 0) → ((b : Body) (at : ℕ) → slice_get made at ≡ Some b → Q (new_at objects at)) → (at : ℕ) (bs : List Body) → StandsAt at bs made → AllByRecursion Q (map (new_at objects) (range_with_len at (length bs)))
each_made objects made Q one at [] s = tt
each_made objects made Q one at (b ∷ bs) s = (one b at (stands_head at b bs made s), each_made objects made Q one (at + 1) bs (stands_tail at b bs made s))

-- what holds of each
pub each_reshaped :
    (S : Plain) (c : Changes) (Q : Reshaped → Type 0)
    → ((w : Written) (at : ℕ) → slice_get c.bodies at ≡ Some w → Q (object.Written w.id at))
    → ((b : Body) (at : ℕ) → slice_get c.made at ≡ Some b → Q (new_at (length S.bodies) at))
    → All Q (reshaped_in S c)
each_reshaped S c Q one other =
    All-append Q (written_reshaped S 0 c.bodies) (made_reshaped (length S.bodies) (length c.made))
    (All-from_recursion Q (written_reshaped S 0 c.bodies) (each_written S c Q one 0 c.bodies (stands_all c.bodies)))
    (All-from_recursion Q (made_reshaped (length S.bodies) (length c.made)) (each_made (length S.bodies) c.made Q other 0 c.made (stands_all c.made)))

module _ (S : Plain) (c : Changes) (g : Reshaped → ℕ) (h : Written → ℕ) (one : (w : Written) (at : ℕ) → slice_get c.bodies at ≡ Some w → g (object.Written w.id at) ≤ h w) where
  sum_written : (at : ℕ) (ws : List Written) → StandsAt at ws c.bodies → sum_by g (written_reshaped S at ws) ≤ sum_by h ws
  sum_written at [] s = omega arith
  sum_written at (w ∷ ws) s =
      let head : g (object.Written w.id at) ≤ h w = one w at (stands_head at w ws c.bodies s) in
      let rest : sum_by g (written_reshaped S (at + 1) ws) ≤ sum_by h ws = sum_written (at + 1) ws (stands_tail at w ws c.bodies s) in
      let all : sum_by h (w ∷ ws) ≡ h w + sum_by h ws = sum_by-cons h w ws in
      cond_both (is_reshaped S w) (object.Written w.id at ∷ written_reshaped S (at + 1) ws) (written_reshaped S (at + 1) ws) (λ ms. sum_by g ms ≤ sum_by h (w ∷ ws))
      (λ _. omega (arith, sum_by-cons g (object.Written w.id at) (written_reshaped S (at + 1) ws), head, rest, all)) (λ _. omega (arith, rest, all))

sum_made : (objects : ℕ) (made : List Body) (g : Reshaped → ℕ) (h : Body → ℕ) → ((b : Body) (at : ℕ) → slice_get made at ≡ Some b → g (new_at objects at) ≤ h b) → (at : ℕ) (bs : List Body) → StandsAt at bs made → sum_by g (map (new_at objects) (range_with_len at (length bs))) ≤ sum_by h bs
sum_made objects made g h one at [] s = omega arith
sum_made objects made g h one at (b ∷ bs) s =
    let head : g (new_at objects at) ≤ h b = one b at (stands_head at b bs made s) in
    let rest : sum_by g (map (new_at objects) (range_with_len (at + 1) (length bs))) ≤ sum_by h bs = sum_made objects made g h one (at + 1) bs (stands_tail at b bs made s) in
    omega (arith, sum_by-cons g (new_at objects at) (map (new_at objects) (range_with_len (at + 1) (length bs))), sum_by-cons h b bs, head, rest)

-- a sum over the reshaped objects is at most that over all changes
pub sum_reshaped :
    (S : Plain) (c : Changes) (g : Reshaped → ℕ) (h : Written → ℕ) (k : Body → ℕ)
    → ((w : Written) (at : ℕ) → slice_get c.bodies at ≡ Some w → g (object.Written w.id at) ≤ h w)
    → ((b : Body) (at : ℕ) → slice_get c.made at ≡ Some b → g (new_at (length S.bodies) at) ≤ k b)
    → sum_by g (reshaped_in S c) ≤ sum_by h c.bodies + sum_by k c.made
sum_reshaped S c g h k one other =
    let written : sum_by g (written_reshaped S 0 c.bodies) ≤ sum_by h c.bodies = sum_written S c g h one 0 c.bodies (stands_all c.bodies) in
    let made : sum_by g (made_reshaped (length S.bodies) (length c.made)) ≤ sum_by k c.made = sum_made (length S.bodies) c.made g k other 0 c.made (stands_all c.made) in
    omega (arith, sum_by-append g (written_reshaped S 0 c.bodies) (made_reshaped (length S.bodies) (length c.made)), written, made)

-- their numbers ascend
written_above : (S : Plain) (x at : ℕ) (ws : List Written) → AllByRecursion (λ id. x < id) (map (λ (w : Written). w.id) ws) → AllByRecursion (λ m. x < id_of m) (written_reshaped S at ws)
written_above S x at [] h = tt
written_above S x at (w ∷ ws) h =
    let rest = written_above S x (at + 1) ws h.1 in
    cond_both (is_reshaped S w) (object.Written w.id at ∷ written_reshaped S (at + 1) ws) (written_reshaped S (at + 1) ws) (AllByRecursion (λ m. x < id_of m)) (λ _. (h.0, rest)) (λ _. rest)

written_chain : (S : Plain) (at : ℕ) (ws : List Written) → Chain (λ (x y : ℕ). x < y) (map (λ (w : Written). w.id) ws) → Chain Below (written_reshaped S at ws)
written_chain S at [] h = tt
written_chain S at (w ∷ ws) h =
    let rest = written_chain S (at + 1) ws h.1 in
    cond_both (is_reshaped S w) (object.Written w.id at ∷ written_reshaped S (at + 1) ws) (written_reshaped S (at + 1) ws) (Chain Below) (λ _. (written_above S w.id (at + 1) ws h.0, rest)) (λ _. rest)

written_below : (S : Plain) (n at : ℕ) (ws : List Written) → AllByRecursion (λ w. w.id < n) ws → AllByRecursion (λ m. id_of m < n) (written_reshaped S at ws)
written_below S n at [] h = tt
written_below S n at (w ∷ ws) h =
    let rest = written_below S n (at + 1) ws h.1 in
    cond_both (is_reshaped S w) (object.Written w.id at ∷ written_reshaped S (at + 1) ws) (written_reshaped S (at + 1) ws) (AllByRecursion (λ m. id_of m < n)) (λ _. (h.0, rest)) (λ _. rest)

pub reshaped_chain : (S : Plain) (c : Changes) → AllPairs (λ i j. i < j) (map (λ (w : Written). w.id) c.bodies) → All (λ w. w.id < length S.bodies) c.bodies → Chain Below (reshaped_in S c)
reshaped_chain S c up there =
    let n = length S.bodies in
    let written = written_reshaped S 0 c.bodies in
    let made = made_reshaped n (length c.made) in
    chain_append Below written made
    (written_chain S 0 c.bodies (chain_from_pairs (λ (i j : ℕ). i < j) (map (λ (w : Written). w.id) c.bodies) up))
    (chain_map (λ (i j : ℕ). i < j) Below (new_at n) (λ x y l. omega arith) (range_with_len 0 (length c.made)) (chain_range 0 (length c.made)))
    (across Below (λ m. id_of m < n) (λ m. n ≤ id_of m) (λ l m low high. omega (arith, low, high)) written made
    (written_below S n 0 c.bodies (recursion_from_All (λ w. w.id < n) c.bodies there))
    (each_made n c.made (λ m. n ≤ id_of m) (λ b at e. omega arith) 0 c.made (stands_all c.made)))
