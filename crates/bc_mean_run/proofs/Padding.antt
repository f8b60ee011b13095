-- Lists that grow up to a length, and copies that take each other's place.
use Rattle.std.proofs.Common.{◌≡◌, ℕ, suc, ◌+◌, ◌-◌, ◌<◌, List, [], ◌∷◌, ◌++◌, length, take, drop, get_or, set, refl, ap, sym, ◌∙◌, arith, append_assoc, length-append}
use Rattle.std.specs.Prelude.{replicate, slice_set}
use Rattle.std.proofs.lemmas.List.{drop_more, take-append-drop, take-set, drop-set}
use Rattle.std.proofs.lemmas.Bool.Decides.{nat_tests}
use Rattle.bc_data.specs.declared.run.Body.{Body}
use Rattle.bc_data.specs.declared.run.Written.{Written}
use Rattle.bc_mean.specs.Work.{put}

pad_by : {A : Type 0} (xs : List A) (n k : ℕ) (v : A) → n - length xs ≡ suc k → n - length (xs ++ v ∷ []) ≡ k → (xs ++ v ∷ []) ++ replicate (n - length (xs ++ v ∷ [])) v ≡ xs ++ replicate (n - length xs) v
pad_by xs n k v e f = ap (λ m. (xs ++ v ∷ []) ++ replicate m v) f ∙ append_assoc xs (v ∷ []) (replicate k v) ∙ ap (λ m. xs ++ replicate m v) (sym e)

pub pad_more : {A : Type 0} (xs : List A) (n : ℕ) (v : A) → length xs < n → (xs ++ v ∷ []) ++ replicate (n - length (xs ++ v ∷ [])) v ≡ xs ++ replicate (n - length xs) v
pad_more xs n v within = pad_by xs n (n - length (xs ++ v ∷ [])) v (omega (arith, length-append xs (v ∷ []))) refl

-- the copy stands at this place
pub put_here : (id : ℕ) (b : Body) (cs : List Written) (i : ℕ) (c : Written) → i < length cs → c ≡ get_or cs i c → c.id ≡ id → put id b cs ≡ take i cs ++ put id b (drop i cs) → put id b cs ≡ slice_set cs i (record { id = id; body = b })
put_here id b cs i c within is same so_far =
    let x : Written = record { id = id; body = b } in
    let here : put id b (drop i cs) ≡ x ∷ drop (i + 1) cs =
    ap (put id b) (drop_more cs i c within ∙ ap (λ d. d ∷ drop (i + 1) cs) (sym is)) ∙ grind (arith, nat_tests, same) in
    let there : take i cs ++ x ∷ drop (i + 1) cs ≡ set cs i x =
    ap (λ l. l ++ x ∷ drop (i + 1) cs) (sym (take-set cs i x)) ∙ ap (λ l. take i (set cs i x) ++ l) (sym (drop-set cs i x within)) ∙ take-append-drop i (set cs i x) in
    so_far ∙ ap (λ l. take i cs ++ l) here ∙ there
