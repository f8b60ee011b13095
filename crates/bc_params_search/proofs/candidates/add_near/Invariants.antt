use Rattle.std.proofs.Common.{◌≡◌, ℕ, true, take, map}
use Rattle.bc_params_sets.specs.Members.{has}
use Rattle.bc_params_sets.specs.Bindings.{is_bound}
use Rattle.bc_params_search.specs.Tied.{Keeps}
use Rattle.bc_params_search.proofs.candidates.add_near.Given as goal

-- the objects that carry one of the instances so far
abbrev pub invariant-loop-binding : goal.invariant-loop-binding
invariant-loop-binding l = record {
  kept : Keeps l.fn.chosen.members l.chosen.members;
  near : (n x : ℕ) → has (map (λ b. b.instance) (take l.binding-index l.binding-items)) n ≡ true → is_bound l.tags.bound (record { object = x; tag_type = l.tag_type; instance = n }) ≡ true → has l.chosen.members x ≡ true;
}
