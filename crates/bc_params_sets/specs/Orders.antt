-- The two orders in which bindings are kept.
use Rattle.std.specs.Prelude.{◌≡◌, ℕ, ◌<◌, ◌≤◌, Bool, true, false, ◌&&◌, ◌||◌, ◌==◌, nat_lt, nat_le, List, length, slice_index_or, AllPairs, Result, MatchResult}
use Rattle.std.specs.List.Sorted.{IsPartitionPoint}
use Rattle.bc_params_sets.specs.Bindings.{is_bound}
use Rattle.bc_params_sets.specs.declared.tag_index.Binding.{Binding}
use Rattle.bc_params_sets.specs.declared.ordered.Order.{Order}
use Rattle.bc_params_sets.specs.declared.ordered.Order.TheVariants as order
use Rattle.bc_params_sets.specs.declared.ordered.Key.{Key}

-- the numbers of a binding, in the turn in which the order asks them
abbrev pub key_of : Order → Binding → Key
key_of order.ByObject b = record { first = b.object; second = b.tag_type; third = b.instance }
key_of order.ByInstance b = record { first = b.instance; second = b.tag_type; third = b.object }

abbrev pub is_less : Key → Key → Bool
is_less a b = nat_lt a.first b.first || (a.first == b.first && (nat_lt a.second b.second || (a.second == b.second && nat_lt a.third b.third)))

abbrev pub precedes : Order → Binding → Binding → Bool
precedes o b c = is_less (key_of o b) (key_of o c)

abbrev pub InOrder : Order → List Binding → Type 0
InOrder o bs = AllPairs (λ b c. precedes o b c ≡ true) bs

-- in the run of the bindings with these two numbers, and before the run
abbrev pub is_in_run : Order → ℕ → ℕ → Binding → Bool
is_in_run o first second b = ((key_of o b).first == first) && ((key_of o b).second == second)

abbrev pub is_before_run : Order → ℕ → ℕ → Binding → Bool
is_before_run o first second b = nat_lt (key_of o b).first first || ((key_of o b).first == first && nat_lt (key_of o b).second second)

-- in the run or before it
abbrev pub is_within_run : Order → ℕ → ℕ → Binding → Bool
is_within_run o first second b = nat_lt (key_of o b).first first || ((key_of o b).first == first && nat_le (key_of o b).second second)

-- The place of a binding; or it isn't there, and stood behind all before the place and before all from there on.
pub record Fresh (o : Order) (bs : List Binding) (b : Binding) (i : ℕ) : Type 0 where
  pub within : i ≤ length bs
  pub none : is_bound bs b ≡ false
  pub below : (k : ℕ) (d : Binding) → k < i → precedes o (slice_index_or bs k d) b ≡ true
  pub above : (k : ℕ) (d : Binding) → i ≤ k → k < length bs → precedes o b (slice_index_or bs k d) ≡ true

abbrev pub IsFind : Order → List Binding → Binding → Result ℕ ℕ → Type 0
IsFind o bs b r = MatchResult r (λ i. (i < length bs) × ((d : Binding) → slice_index_or bs i d ≡ b)) (Fresh o bs b)

-- where a run starts, and where it ends
abbrev pub Starts : Order → ℕ → ℕ → List Binding → ℕ → Type 0
Starts o f s bs i = IsPartitionPoint (λ x. is_before_run o f s x ≡ true) (λ x. is_before_run o f s x ≡ false) bs i

abbrev pub Ends : Order → ℕ → ℕ → List Binding → ℕ → Type 0
Ends o f s bs i = IsPartitionPoint (λ x. is_within_run o f s x ≡ true) (λ x. is_within_run o f s x ≡ false) bs i
