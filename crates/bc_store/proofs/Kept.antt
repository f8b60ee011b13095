-- The sum of the cells and the limits, kept by changes.
use Rattle.std.proofs.Common.{◌≡◌, ℕ, zero, suc, ◌+◌, ◌-◌, ◌^◌, ◌≤◌, min, cond, List, [], ◌∷◌, ◌++◌, length, map, refl, sym, ap, ap₂, subst, ◌∙◌, Some, None, length-append, arith}
use Rattle.std.specs.Prelude.{All, nat_lt, slice_set, slice_get, IfSome}
use Rattle.std.specs.List.{AllByRecursion, sum_by}
use Rattle.std.proofs.lemmas.List.{map-set}
use Rattle.std.proofs.lemmas.List.Elements.{recursion_from_All}
use Rattle.std.proofs.lemmas.List.Sums.{sum_by-cons, sum_by-append}
use Rattle.std.proofs.lemmas.Bool.Decides.{nat_tests}
use Rattle.bc_data.specs.declared.run.Body.{Body}
use Rattle.bc_data.specs.declared.run.Written.{Written}
use Rattle.bc_data.specs.declared.run.Changes.{Changes}
use Rattle.bc_data.specs.declared.run.FaultKind.TheVariants as fault
use Rattle.bc_mean.specs.declared.plain.Plain.{Plain}
use Rattle.bc_mean.specs.Commit.{placed}
use Rattle.bc_mean.specs.Store.{cells_in}
use Rattle.bc_mean.proofs.Placed.{length-placed}
use Rattle.bc_store.specs.Resolved.{put_in}
use Rattle.bc_store.specs.Store.{KeepsLimits, KeepsSize, CanPublish}

-- the cells of a body
abbrev size : Body → ℕ
size b = length b.cells

cells_by_sizes : (bodies : List Body) → cells_in bodies ≡ sum_by (λ (n : ℕ). n) (map size bodies)
cells_by_sizes [] = refl
cells_by_sizes (b ∷ bodies) =
    sum_by-cons size b bodies ∙ ap (λ n. size b + n) (cells_by_sizes bodies) ∙ sym (sum_by-cons (λ (n : ℕ). n) (size b) (map size bodies))

set_size : (bodies : List Body) (id n : ℕ) → IfSome (slice_get bodies id) (λ b. n ≡ size b) → slice_set (map size bodies) id n ≡ map size bodies
set_size [] id n h = refl
set_size (b ∷ bodies) zero n h = ap (λ m. m ∷ map size bodies) h
set_size (b ∷ bodies) (suc id) n h = ap (λ l. size b ∷ l) (set_size bodies id n h)

-- bodies of the old sizes in their places leave the sizes as they were
sizes_placed : (S : Plain) (ws : List Written) (bodies : List Body) → map size bodies ≡ map size S.bodies → AllByRecursion (KeepsSize S) ws → map size (placed ws bodies) ≡ map size S.bodies
sizes_placed S [] bodies e h = e
sizes_placed S (w ∷ ws) bodies e h =
    sizes_placed S ws (slice_set bodies w.id w.body) (map-set size bodies w.id w.body ∙ ap (λ l. slice_set l w.id (size w.body)) e ∙ set_size S.bodies w.id (size w.body) h.0) h.1

cells_placed : (S : Plain) (ws : List Written) → All (KeepsSize S) ws → cells_in (placed ws S.bodies) ≡ cells_in S.bodies
cells_placed S ws h =
    cells_by_sizes (placed ws S.bodies)
    ∙ ap (sum_by (λ (n : ℕ). n)) (sizes_placed S ws S.bodies refl (recursion_from_All (KeepsSize S) ws h))
    ∙ sym (cells_by_sizes S.bodies)

-- the cells of the store are the kept ones and the new ones
cells_put : (S : Plain) (c : Changes) → All (KeepsSize S) c.bodies → cells_in (placed c.bodies S.bodies ++ c.made) ≡ cells_in S.bodies + cells_in c.made
cells_put S c h =
    sum_by-append size (placed c.bodies S.bodies) c.made ∙ ap (λ n. n + cells_in c.made) (cells_placed S c.bodies h)

no_fault : (a b c d : ℕ) → cond (nat_lt 65536 a) (Some fault.Objects) (cond (nat_lt 4194304 b) (Some fault.Cells) (cond (nat_lt 65536 c) (Some fault.Tags) (cond (nat_lt 16777216 d) (Some fault.Output) None))) ≡ None → (a ≤ 65536) × (b ≤ 4194304) × (c ≤ 65536) × (d ≤ 16777216)
no_fault a b c d h = (grind (arith, nat_tests), grind (arith, nat_tests), grind (arith, nat_tests), grind (arith, nat_tests))

limits_put : (S : Plain) (c : Changes) → CanPublish S c → KeepsLimits (put_in S c)
limits_put S c h =
    let low = no_fault (length S.bodies + length c.made) (cells_in S.bodies + cells_in c.made) (length S.tags + length c.tags) (length S.output + length c.text) h.room in
    record {
      objects = omega (arith, length-append (placed c.bodies S.bodies) c.made, length-placed c.bodies S.bodies, low.0);
      cells = omega (arith, cells_put S c h.sizes, low.1);
      instances = omega (arith, length-append S.tags c.tags, low.2);
      output = omega (arith, length-append S.output c.text, low.3);
    }

-- the kept sum with that of the new bodies
pub sum_put : (S : Plain) (c : Changes) (kept more : ℕ) (made bodies : List Body) → CanPublish S c → kept ≡ cells_in S.bodies → more ≡ min (cells_in made) (2 ^ 64 - 1) → made ≡ c.made → bodies ≡ placed c.bodies S.bodies ++ c.made → kept + more ≡ cells_in bodies
sum_put S c kept more made bodies h k m e f =
    let low = no_fault (length S.bodies + length c.made) (cells_in S.bodies + cells_in c.made) (length S.tags + length c.tags) (length S.output + length c.text) h.room in
    omega (arith, k, m, ap cells_in e, ap cells_in f, cells_put S c h.sizes, low.1)

-- a store of these parts
abbrev pub plain : List Body → List ℕ → List ℕ → Plain
plain bodies tags output = record { bodies = bodies; tags = tags; output = output }

pub limits_of : (S : Plain) (c : Changes) (bodies : List Body) (tags output : List ℕ) → CanPublish S c → bodies ≡ placed c.bodies S.bodies ++ c.made → tags ≡ S.tags ++ c.tags → output ≡ S.output ++ c.text → KeepsLimits (plain bodies tags output)
limits_of S c bodies tags output h e f g =
    let same : plain bodies tags output ≡ put_in S c = ap (λ b. plain b tags output) e ∙ ap₂ (plain (placed c.bodies S.bodies ++ c.made)) f g in
    subst KeepsLimits (sym same) (limits_put S c h)
