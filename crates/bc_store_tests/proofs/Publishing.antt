-- Changes that were looked at can be published.
use Rattle.std.proofs.Common.{◌≡◌, ℕ, ◌+◌, ◌<◌, ◌≤◌, cond, List, [], ◌∷◌, length, map, Option, Some, None, refl, arith}
use Rattle.std.specs.Prelude.{All, IsNone, nat_lt}
use Rattle.std.specs.List.{AllByRecursion}
use Rattle.std.proofs.lemmas.Bool.Decides.{nat_tests}
use Rattle.bc_data.specs.declared.run.Changes.{Changes}
use Rattle.bc_data.specs.declared.run.FaultKind.TheVariants as fault
use Rattle.bc_data.specs.declared.run.Written.{Written}
use Rattle.bc_mean.specs.declared.plain.Plain.{Plain}
use Rattle.bc_mean.specs.Changes.{fault_of_room}
use Rattle.bc_mean.specs.Commit.{IsMadeBody}
use Rattle.bc_mean.specs.Store.{cells_in}
use Rattle.bc_mean.proofs.Lists.{Chain, pairs_from_chain}
use Rattle.bc_store.specs.Store.{CanPublish}
use Rattle.bc_store_tests.specs.Checked.{Ascend, CanWrite}

abbrev ids : List Written → List ℕ
ids ws = map (λ w. w.id) ws

ids_from : (ws : List Written) (a b : ℕ) → a < b → Ascend b ws → AllByRecursion (λ i. a < i) (ids ws)
ids_from [] a b l h = tt
ids_from (w ∷ ws) a b l h = (omega (arith, l, h.0), ids_from ws a (w.id + 1) (omega (arith, l, h.0)) h.1)

ids_ascend : (ws : List Written) (from : ℕ) → Ascend from ws → Chain (λ i j. i < j) (ids ws)
ids_ascend [] from h = tt
ids_ascend (w ∷ ws) from h = (ids_from ws w.id (w.id + 1) (omega arith) h.1, ids_ascend ws (w.id + 1) h.1)

no_fault : (a b c d : ℕ) → cond (nat_lt 65536 a) (Some fault.Objects) (cond (nat_lt 4194304 b) (Some fault.Cells) (cond (nat_lt 65536 c) (Some fault.Tags) (cond (nat_lt 16777216 d) (Some fault.Output) None))) ≡ None → (a ≤ 65536) × (c ≤ 65536)
no_fault a b c d h = (grind (arith, nat_tests), grind (arith, nat_tests))

pub can_publish : (S : Plain) (c : Changes) → fault_of_room S c ≡ None → All (CanWrite S c) c.bodies → All (IsMadeBody c) c.made → Ascend 0 c.bodies → CanPublish S c
can_publish S c room write made ascend =
    let low = no_fault (length S.bodies + length c.made) (cells_in S.bodies + cells_in c.made) (length S.tags + length c.tags) (length S.output + length c.text) room in
    record {
      room = room;
      there = record {
        objects = low.0;
        instances = low.1;
        present = λ k d within. (write k d within).there;
        changed = λ k d within. (write k d within).made;
        made = made;
      };
      ascending = pairs_from_chain (λ i j. i < j) (ids c.bodies) (ids_ascend c.bodies 0 ascend);
      sizes = λ k d within. (write k d within).size;
    }

pub none_is : {X : Type 0} (o : Option X) → IsNone o → o ≡ None
none_is None h = refl
none_is (Some x) h = absurd (cc)
