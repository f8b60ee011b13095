-- What a source in memory gave, and what it has left.
use Rattle.std.proofs.Common.{◌≡◌, ℕ, ◌+◌, ◌-◌, List, ◌++◌, length, take, drop, ap, sym, ◌∙◌, subst, arith, length-drop}
use Rattle.std.proofs.lemmas.List.{take_all, take-append-drop, drop-drop}

given_at : (xs buf : List ℕ) (at n : ℕ) → take n buf ≡ take n (take (length xs - at) (drop at xs)) → drop at xs ≡ take n buf ++ drop (at + n) xs
given_at xs buf at n front =
    let all : take (length xs - at) (drop at xs) ≡ drop at xs = take_all (length xs - at) (drop at xs) (omega (arith, length-drop at xs)) in
    let piece : take n buf ≡ take n (drop at xs) = front ∙ ap (take n) all in
    sym (take-append-drop n (drop at xs)) ∙ ap (λ p. p ++ drop n (drop at xs)) (sym piece) ∙ ap (λ r. take n buf ++ r) (drop-drop n at xs)

-- what was left is the piece that was given, and what is left behind it
pub given_piece : (xs ys buf : List ℕ) (at n : ℕ) → ys ≡ xs → take n buf ≡ take n (take (length ys - at) (drop at ys)) → drop at xs ≡ take n buf ++ drop (at + n) xs
given_piece xs ys buf at n same front =
    let P : List ℕ → Type 0 = λ zs. take n buf ≡ take n (take (length zs - at) (drop at zs)) in
    given_at xs buf at n (subst P same front)
