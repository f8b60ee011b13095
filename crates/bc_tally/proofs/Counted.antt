-- Counts of what lists name, one element on and put together.
use Rattle.std.proofs.Common.{◌≡◌, ℕ, zero, suc, ◌+◌, ◌<◌, ◌==◌, true, cond, List, [], ◌∷◌, ◌++◌, length, take, drop, get_or, count_by, sym, subst, ◌∙◌, arith, Some, slice_get}
use Rattle.std.proofs.lemmas.Bool.{false≢true}
use Rattle.std.proofs.lemmas.List.{take_at}
use Rattle.std.proofs.lemmas.List.Sums.{sum_by-append, sum_by_more, sum_by-drop_more}
use Rattle.bc_tally.specs.Counts.{Tells}
use Rattle.bc_tally.specs.Laws.{NoneIsNamed}

-- how often a list names the object
abbrev pub times : ℕ → List ℕ → ℕ
times id named = count_by (λ other. other == id) named

pub tells_same : (counts : List ℕ) (f g : ℕ → ℕ) → Tells counts f → ((id : ℕ) → f id ≡ g id) → Tells counts g
tells_same counts f g h e id n a b = h id n a b ∙ e id

pub one_more : (ids : List ℕ) (i id m : ℕ) → i < length ids → (m + times id (take i ids)) + cond (get_or ids i 0 == id) 1 0 ≡ m + times id (take (i + 1) ids)
one_more ids i id m h = omega (arith, sum_by_more (λ other. cond (other == id) 1 0) ids i 0 h)

pub one_less : (ids : List ℕ) (i id m : ℕ) → i < length ids → m + times id (drop i ids) ≡ (m + times id (drop (i + 1) ids)) + cond (get_or ids i 0 == id) 1 0
one_less ids i id m h = omega (arith, sum_by-drop_more (λ other. cond (other == id) 1 0) ids i 0 h)

pub between : (id : ℕ) (before ids after : List ℕ) → times id (before ++ (ids ++ after)) ≡ times id (before ++ after) + times id ids
between id before ids after =
    let f : ℕ → ℕ = λ other. cond (other == id) 1 0 in
    let a : times id (before ++ (ids ++ after)) ≡ times id before + times id (ids ++ after) = sum_by-append f before (ids ++ after) in
    let b : times id (ids ++ after) ≡ times id ids + times id after = sum_by-append f ids after in
    let d : times id (before ++ after) ≡ times id before + times id after = sum_by-append f before after in
    omega arith

pub tells_of : (xs ys : List ℕ) (f : ℕ → ℕ) → xs ≡ ys → Tells ys f → Tells xs f
tells_of xs ys f e h = subst (λ (zs : List ℕ). Tells zs f) (sym e) h

-- the counts that are written back
pub written : (n : ℕ) (xs ys : List ℕ) (f : ℕ → ℕ) → length xs ≡ n → Tells xs f → Tells (take n (xs ++ ys)) f
written n xs ys f e h = subst (λ (zs : List ℕ). Tells zs f) (sym (take_at xs ys n e)) h

none_here : (counts : List ℕ) (id : ℕ) → (get_or counts id 1 == 0) ≡ true → slice_get counts id ≡ Some 0
none_here [] id h = absurd (false≢true h)
none_here (n ∷ counts) zero h = grind arith
none_here (n ∷ counts) (suc id) h = none_here counts id h

pub none_is_named : NoneIsNamed
none_is_named counts named id h e = sym (h id 0 (none_here counts id e) (omega arith))
