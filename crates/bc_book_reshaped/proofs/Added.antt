-- The reshaped objects of one change more.
use Rattle.std.proofs.Common.{◌≡◌, ℕ, ◌+◌, ◌<◌, Bool, true, false, cond, List, [], ◌∷◌, ◌++◌, length, take, get_or, refl, sym, ap, ◌∙◌, arith, add-zero, append_assoc}
use Rattle.std.proofs.lemmas.List.{length-take-le, take_more}
use Rattle.std.proofs.lemmas.List.FromFn.{map-range_with_len_more}
use Rattle.bc_data.specs.declared.run.Written.{Written}
use Rattle.bc_mean.specs.declared.plain.Plain.{Plain}
use Rattle.bc_book_reshaped.specs.declared.reshaped.Reshaped.{Reshaped}
use Rattle.bc_book_reshaped.specs.declared.reshaped.Reshaped.TheVariants as object
use Rattle.bc_book_reshaped.specs.Reshaped.{is_reshaped, written_reshaped, made_reshaped}
use Rattle.bc_book_reshaped.proofs.Members.{new_at}

-- the one that is written at this place, if it is reshaped
abbrev pub if_reshaped : Bool → Written → ℕ → List Reshaped
if_reshaped b w at = cond b (object.Written w.id at ∷ []) []

cond_append : (b : Bool) (m : Reshaped) (ms ns : List Reshaped) → cond b (m ∷ (ms ++ ns)) (ms ++ ns) ≡ cond b (m ∷ ms) ms ++ ns
cond_append true m ms ns = refl
cond_append false m ms ns = refl

written_push : (S : Plain) (at : ℕ) (ws : List Written) (w : Written) → written_reshaped S at (ws ++ w ∷ []) ≡ written_reshaped S at ws ++ if_reshaped (is_reshaped S w) w (at + length ws)
written_push S at [] w = ap (if_reshaped (is_reshaped S w) w) (sym (add-zero at))
written_push S at (v ∷ ws) w =
    let e : at + 1 + length ws ≡ at + length (v ∷ ws) = omega arith in
    ap (λ (ms : List Reshaped). cond (is_reshaped S v) (object.Written v.id at ∷ ms) ms) (written_push S (at + 1) ws w ∙ ap (λ n. written_reshaped S (at + 1) ws ++ if_reshaped (is_reshaped S w) w n) e)
    ∙ cond_append (is_reshaped S v) (object.Written v.id at) (written_reshaped S (at + 1) ws) (if_reshaped (is_reshaped S w) w (at + length (v ∷ ws)))

pub written_added :
    (S : Plain) (bodies : List Written) (at : ℕ) (w : Written) (b : Bool) (old ms : List Reshaped)
    → at < length bodies
    → w ≡ get_or bodies at w
    → b ≡ is_reshaped S w
    → ms ≡ old ++ written_reshaped S 0 (take at bodies)
    → ms ++ if_reshaped b w at ≡ old ++ written_reshaped S 0 (take (at + 1) bodies)
written_added S bodies at w b old ms h there e so =
    let ws = take at bodies in
    let size : at ≡ 0 + length ws = omega (arith, length-take-le at bodies (omega arith)) in
    let more : take (at + 1) bodies ≡ ws ++ w ∷ [] = take_more bodies at w h ∙ ap (λ (v : Written). ws ++ v ∷ []) (sym there) in
    ap (λ (l : List Reshaped). l ++ if_reshaped b w at) so
    ∙ (append_assoc old (written_reshaped S 0 ws) (if_reshaped b w at)
    ∙ ap (λ (l : List Reshaped). old ++ l)
    (ap (λ (c : Bool). written_reshaped S 0 ws ++ if_reshaped c w at) e
    ∙ (ap (λ n. written_reshaped S 0 ws ++ if_reshaped (is_reshaped S w) w n) size ∙ (sym (written_push S 0 ws w) ∙ ap (written_reshaped S 0) (sym more)))))

pub made_added : (objects at : ℕ) (old ms : List Reshaped) → ms ≡ old ++ made_reshaped objects at → ms ++ new_at objects at ∷ [] ≡ old ++ made_reshaped objects (at + 1)
made_added objects at old ms so =
    ap (λ (l : List Reshaped). l ++ new_at objects at ∷ []) so
    ∙ (append_assoc old (made_reshaped objects at) (new_at objects at ∷ []) ∙ ap (λ (l : List Reshaped). old ++ l) (sym (map-range_with_len_more (new_at objects) 0 at at (omega arith))))
