-- The laws of failures, as facts that contracts name.
use Rattle.std.specs.Prelude.{◌≡◌, ℕ, Bool, ◌&&◌, true, false, List, AllPairs, filter, length, map, take}
use Rattle.std.specs.List.{list_any}
use Rattle.std.specs.List.Sorted.{IsPermutation}
use Rattle.bc_data.specs.declared.run.Invocation.{Invocation}
use Rattle.bc_mean.specs.Orders.{precedes, IsAscending}
use Rattle.bc_mean.specs.Serial.{Failed, has_failure, listed, same_invocation}
use Rattle.bc_failed.specs.Ordered.{failure_of, ordered}

-- no two are of one invocation
abbrev pub Once : List Failed → Type 0
Once fs = AllPairs (λ f g. same_invocation f.v g.v ≡ false) fs

-- Where no two failures are of one invocation, each precedes all later ones in the order, and so do the first n of them.
pub record OrderAscends : Type 0 where
  pub failures : (fs : List Failed) → Once fs → AllPairs (λ f g. precedes f.v g.v ≡ true) (ordered fs)
  pub invocations : (fs : List Failed) → Once fs → IsAscending (map (λ f. f.v) (ordered fs))
  pub first :
      (fs : List Failed) (n : ℕ)
      → Once fs
      → AllPairs (λ f g. precedes f.v g.v ≡ true) (take n (ordered fs))

-- The order has exactly the failures.
pub record OrderExact : Type 0 where
  pub permutation : (fs : List Failed) → IsPermutation (map failure_of fs) (ordered fs)
  pub length : (fs : List Failed) → length (ordered fs) ≡ length fs
  pub has :
      (fs : List Failed) (v : Invocation)
      → list_any (λ g. same_invocation v g.v) (ordered fs) ≡ has_failure fs v
  pub listed : (fs : List Failed) (v : Invocation) → listed (map (λ f. f.v) (ordered fs)) v ≡ has_failure fs v

-- What is left by a test still has no two failures of one invocation.
abbrev pub FilterOnce : Type 0
FilterOnce = (p : Failed → Bool) (fs : List Failed) → Once fs → Once (filter p fs)

-- What is left are exactly the failures that pass.
abbrev pub FilterExact : Type 0
FilterExact =
    (p : Failed → Bool) (fs : List Failed) (v : Invocation)
    → has_failure (filter p fs) v ≡ list_any (λ f. same_invocation v f.v && p f) fs
