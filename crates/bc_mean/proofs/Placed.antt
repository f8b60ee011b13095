-- Bodies in their objects' places.
use Rattle.std.proofs.Common.{◌≡◌, ℕ, ◌<◌, List, [], ◌∷◌, ◌++◌, length, map, slice_set, refl, sym, ap, subst, ◌∙◌}
use Rattle.std.specs.List.{AllByRecursion}
use Rattle.std.specs.Prelude.{All}
use Rattle.std.proofs.lemmas.List.{length-set, set-append_left}
use Rattle.std.proofs.lemmas.List.Elements.{All-from_recursion, recursion_from_All}
use Rattle.bc_data.specs.declared.run.Body.{Body}
use Rattle.bc_data.specs.declared.run.Written.{Written}
use Rattle.bc_mean.specs.declared.plain.Plain.{Plain}
use Rattle.bc_mean.specs.Changes.{body_in, put_bodies}
use Rattle.bc_mean.specs.Commit.{placed, written_in}

pub length-placed : (ws : List Written) (bodies : List Body) → length (placed ws bodies) ≡ length bodies
length-placed [] bodies = refl
length-placed (w ∷ ws) bodies = length-placed ws (slice_set bodies w.id w.body) ∙ length-set bodies w.id w.body

pub placed_more : (ws : List Written) (w : Written) (bodies : List Body) → placed (ws ++ w ∷ []) bodies ≡ slice_set (placed ws bodies) w.id w.body
placed_more [] w bodies = refl
placed_more (v ∷ ws) w bodies = placed_more ws w (slice_set bodies v.id v.body)

-- an object that is there
abbrev pub IsThere : List Body → Written → Type 0
IsThere bodies w = w.id < length bodies

placed_before : (ws : List Written) (bodies more : List Body) → AllByRecursion (IsThere bodies) ws → placed ws (bodies ++ more) ≡ placed ws bodies ++ more
placed_before [] bodies more h = refl
placed_before (w ∷ ws) bodies more h =
    ap (placed ws) (set-append_left bodies more w.id w.body h.0)
    ∙ placed_before ws (slice_set bodies w.id w.body) more (subst (λ (n : ℕ). AllByRecursion (λ v. v.id < n) ws) (sym (length-set bodies w.id w.body)) h.1)

placed_written : (S : Plain) (ws : List Written) (bodies : List Body) → placed (map (written_in S) ws) bodies ≡ put_bodies S ws bodies
placed_written S [] bodies = refl
placed_written S (w ∷ ws) bodies = placed_written S ws (slice_set bodies w.id (body_in S w.body))

there : (S : Plain) (n : ℕ) (ws : List Written) → AllByRecursion (λ w. w.id < n) ws → AllByRecursion (λ w. w.id < n) (map (written_in S) ws)
there S n [] h = tt
there S n (w ∷ ws) h = (h.0, there S n ws h.1)

pub written_there : (S : Plain) (n : ℕ) (ws : List Written) → All (λ w. w.id < n) ws → All (λ w. w.id < n) (map (written_in S) ws)
written_there S n ws h = All-from_recursion (λ w. w.id < n) (map (written_in S) ws) (there S n ws (recursion_from_All (λ w. w.id < n) ws h))

-- new bodies behind the others do not matter
pub placed_in : (S : Plain) (ws : List Written) (more : List Body) → All (IsThere S.bodies) ws → placed (map (written_in S) ws) (S.bodies ++ more) ≡ put_bodies S ws S.bodies ++ more
placed_in S ws more h =
    placed_before (map (written_in S) ws) S.bodies more (there S (length S.bodies) ws (recursion_from_All (IsThere S.bodies) ws h))
    ∙ ap (λ bodies. bodies ++ more) (placed_written S ws S.bodies)
