use Rattle.std.proofs.Common.{◌≡◌, ℕ, true, take, map}
use Rattle.bc_params_sets.specs.Members.{has}
use Rattle.bc_params_search.specs.Tied.{Keeps}
use Rattle.bc_params_search.proofs.candidates.add_bound.Given as goal

-- the objects of the bindings so far
abbrev pub invariant-loop-binding : goal.invariant-loop-binding
invariant-loop-binding l = record {
  kept : Keeps l.fn.chosen.members l.chosen.members;
  added : (x : ℕ) → has (map (λ b. b.object) (take l.binding-index l.bindings)) x ≡ true → has l.chosen.members x ≡ true;
}
