-- The laws of lists of invocations, as facts that contracts name.
use Rattle.std.specs.Prelude.{◌≡◌, ℕ, Bool, true, false, not, ◌&&◌, List, AllPairs, filter}
use Rattle.bc_data.specs.declared.run.Invocation.{Invocation}
use Rattle.bc_mean.specs.Serial.{listed, same_invocation}
use Rattle.bc_pending.specs.Lists.{Lists, Moves}

-- each of them stands there once
abbrev pub Once : List Invocation → Type 0
Once vs = AllPairs (λ v w. same_invocation v w ≡ false) vs

-- What is left of a list by a test stands there once if it did before.
abbrev pub FilterOnce : Type 0
FilterOnce = (p : Invocation → Bool) (vs : List Invocation) → Once vs → Once (filter p vs)

-- What is left are exactly the listed ones that pass.
abbrev pub FilterExact : Type 0
FilterExact = (p : Invocation → Bool) (vs : List Invocation) (v : Invocation) → listed (filter p vs) v ≡ (listed vs v && p v)

-- One that moves was listed. Where each stood there once, exactly the others are left, each once.
pub record MoveExact : Type 0 where
  pub was :
      (test : Invocation → Bool) (worker : ℕ) (v : Invocation) (old new : Lists)
      → Moves test worker v old new
      → listed old.listed v ≡ true
  pub once :
      (test : Invocation → Bool) (worker : ℕ) (v : Invocation) (old new : Lists)
      → Moves test worker v old new
      → Once old.listed
      → Once new.listed
  pub left :
      (test : Invocation → Bool) (worker : ℕ) (v w : Invocation) (old new : Lists)
      → Moves test worker v old new
      → Once old.listed
      → listed new.listed w ≡ (listed old.listed w && not (same_invocation v w))
