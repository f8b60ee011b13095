-- Objects in lists, each once.
use Rattle.std.proofs.Common.{◌≡◌, ℕ, zero, suc, inl, inr, Bool, true, false, not, ◌==◌, cond, List, [], ◌∷◌, ◌++◌, refl, ◌∙◌, subst, arith}
use Rattle.std.specs.List.{AllByRecursion}
use Rattle.std.proofs.lemmas.Bool.{false≢true, and_from, and_parts, eq-eqb, eqb-true, not_from_false, not-true, or_cases, or_from, or_left, or_parts, or_right}
use Rattle.std.proofs.lemmas.List.Folds.{list_any-append}
use Rattle.bc_data.specs.declared.run.Body.{Body}
use Rattle.bc_data.specs.declared.run.Written.{Written}
use Rattle.bc_mean.specs.Enabled.{are_different}
use Rattle.bc_mean.specs.Work.{put}
use Rattle.bc_mean.proofs.Lists.{each_weaker}
use Rattle.bc_law_locality.specs.Growth.{AreIn, AreWithin, has}

pub has_more : (xs ys : List ℕ) (id : ℕ) → has xs id ≡ true → has (xs ++ ys) id ≡ true
has_more xs ys id h = list_any-append (λ other. other == id) xs ys ∙ or_left (has xs id) (has ys id) h

pub has_here : (xs ys : List ℕ) (id : ℕ) → has (xs ++ id ∷ ys) id ≡ true
has_here xs ys id =
    list_any-append (λ other. other == id) xs (id ∷ ys)
    ∙ or_right (has xs id) (has (id ∷ ys) id) (or_left (id == id) (has ys id) (eq-eqb id id refl))

-- what holds of each holds of one among them
pub one_of : (P : ℕ → Type 0) (xs : List ℕ) (id : ℕ) → AllByRecursion P xs → has xs id ≡ true → P id
one_of P [] id a h = absurd (false≢true h)
one_of P (x ∷ xs) id a h = elim (or_cases (x == id) (has xs id) h) [
  | inl e ↦ subst P (eqb-true x id e) a.0
  | inr e ↦ one_of P xs id a.1 e
]

eq_swap : (x y : ℕ) → (x == y) ≡ false → (y == x) ≡ false
eq_swap x y e = grind (arith)

not_last : (xs : List ℕ) (x id : ℕ) → has xs x ≡ false → (id == x) ≡ false → has (xs ++ id ∷ []) x ≡ false
not_last xs x id h n = list_any-append (λ other. other == x) xs (id ∷ []) ∙ or_from (has xs x) (has (id ∷ []) x) h (or_from (id == x) false n refl)

pub different_more : (xs : List ℕ) (id : ℕ) → are_different xs ≡ true → has xs id ≡ false → are_different (xs ++ id ∷ []) ≡ true
different_more [] id d h = refl
different_more (x ∷ xs) id d h =
    let s = or_parts (x == id) (has xs id) h in
    let p = and_parts (not (has xs x)) (are_different xs) d in
    and_from (not (has (xs ++ id ∷ []) x)) (are_different (xs ++ id ∷ []))
    (not_from_false (has (xs ++ id ∷ []) x) (not_last xs x id (not-true (has xs x) p.0) (eq_swap x id s.0)))
    (different_more xs id p.1 s.1)

pub in_more : (objects xs ys : List ℕ) → AreIn objects xs → AreIn objects (xs ++ ys)
in_more objects xs ys h n id e = has_more xs ys id (h n id e)

pub in_itself : (objects : List ℕ) → AreIn objects objects
in_itself [] n id e = absurd (cc)
in_itself (x ∷ xs) zero id e = or_left (x == id) (has xs id) (let s : x ≡ id = cc in eq-eqb x id s)
in_itself (x ∷ xs) (suc n) id e = or_right (x == id) (has xs id) (in_itself xs n id e)

pub within_more : (changed : List Written) (xs ys : List ℕ) → AreWithin changed xs → AreWithin changed (xs ++ ys)
within_more changed xs ys h = each_weaker (λ (c : Written). has xs c.id ≡ true) (λ (c : Written). has (xs ++ ys) c.id ≡ true) (λ c k. has_more xs ys c.id k) changed h

pub within_put : (id : ℕ) (b : Body) (changed : List Written) (xs : List ℕ) → has xs id ≡ true → AreWithin changed xs → AreWithin (put id b changed) xs
within_put id b [] xs h a = (h, tt)
within_put id b (c ∷ cs) xs h a = at (c.id == id) (within_put id b cs xs h a.1)
  where
    at : (same : Bool) → AreWithin (put id b cs) xs → AreWithin (cond same (record { id = id; body = b } ∷ cs) (c ∷ put id b cs)) xs
    at true later = (h, a.1)
    at false later = (a.0, later)
