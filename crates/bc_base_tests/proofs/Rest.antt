-- What stays of a buffer where a read wrote to its front alone.
use Rattle.std.proofs.Common.{◌≡◌, ℕ, ◌≤◌, List, ◌++◌, length, take, drop, ap, ◌∙◌, sym, arith}
use Rattle.std.specs.Prelude.{Result, Ok, Err, IfOk}
use Rattle.std.proofs.lemmas.List.{take-append-drop, drop-append-le}

rest_at : (front buf : List ℕ) (most n : ℕ) → length front ≡ length (take most buf) → n ≤ length (take most buf) → drop n front ≡ drop n (take most buf) → drop n (front ++ drop most buf) ≡ drop n buf
rest_at front buf most n len few rest =
    drop-append-le n front (drop most buf) (omega arith)
    ∙ ap (λ (r : List ℕ). r ++ drop most buf) rest
    ∙ sym (drop-append-le n (take most buf) (drop most buf) few)
    ∙ ap (drop n) (take-append-drop most buf)

-- behind what was read the buffer stays, also behind the part that was handed on
pub rest_kept : {E : Type 0} (result : Result ℕ E) (front buf : List ℕ) (most : ℕ) → length front ≡ length (take most buf) → IfOk result (λ n. n ≤ length (take most buf)) → IfOk result (λ n. drop n front ≡ drop n (take most buf)) → IfOk result (λ n. drop n (front ++ drop most buf) ≡ drop n buf)
rest_kept (Ok n) front buf most len few rest = rest_at front buf most n len few rest
rest_kept (Err e) front buf most len few rest = tt
