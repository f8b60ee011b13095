-- The laws of the definitions, as facts that contracts name.
use Rattle.std.specs.Prelude.{◌≡◌, ℕ, ◌⊎◌, false, true, List, ◌++◌, slice_get, All, IsSome}
use Rattle.bc_data.specs.Typed.{TypedProgram}
use Rattle.bc_data.specs.declared.run.Invocation.{Invocation}
use Rattle.bc_data.specs.declared.run.Stop.{Stop}
use Rattle.bc_mean.specs.declared.plain.Plain.{Plain}
use Rattle.bc_mean.specs.Enabled.{is_enabled, all_enabled}
use Rattle.bc_mean.specs.Orders.{precedes, IsAscending}
use Rattle.bc_mean.specs.Serial.{Course, EndsAs, course_at_start, listed, replay, serial_step}
use Rattle.bc_mean.specs.Sound.{IsSound}

-- Invocations have a strict total order.
pub record StrictlyOrdered : Type 0 where
  pub irreflexive : (v : Invocation) → precedes v v ≡ false
  pub transitive : (u v w : Invocation) → precedes u v ≡ true → precedes v w ≡ true → precedes u w ≡ true
  pub total : (v w : Invocation) → (v ≡ w) ⊎ ((precedes v w ≡ true) ⊎ (precedes w v ≡ true))

-- All enabled invocations stand in order, each once.
abbrev pub AllAscending : Type 0
AllAscending = (P : TypedProgram) (S : Plain) → IsAscending (all_enabled P S)

-- They are exactly the enabled ones.
abbrev pub AllExact : Type 0
AllExact = (P : TypedProgram) (S : Plain) (v : Invocation) → listed (all_enabled P S) v ≡ is_enabled P S v

-- An ascending list is determined by its members.
abbrev pub OneAscending : Type 0
OneAscending =
    (vs ws : List Invocation) → IsAscending vs → IsAscending ws → ((v : Invocation) → listed vs v ≡ listed ws v) → vs ≡ ws

-- Whether an invocation is enabled depends on the bodies of the objects and the types of the instances that it names alone.
abbrev pub NamedAlone : Type 0
NamedAlone =
    (P : TypedProgram) (S T : Plain) (v : Invocation)
    → All (λ id. slice_get S.bodies id ≡ slice_get T.bodies id) v.objects
    → All (λ n. slice_get S.tags n ≡ slice_get T.tags n) v.tags
    → is_enabled P S v ≡ is_enabled P T v

-- A history that replays does so up to each of its entries.
abbrev pub ReplayPrefix : Type 0
ReplayPrefix =
    (P : TypedProgram) (input : List ℕ) (history more : List Invocation)
    → IsSome (replay P input (history ++ more))
    → IsSome (replay P input history)

-- A run ends in one way, if at all.
abbrev pub EndsOnce : Type 0
EndsOnce =
    (P : TypedProgram) (limit : ℕ) (from r q : Course) (s t : Stop)
    → EndsAs P limit from r s
    → EndsAs P limit from q t
    → (r ≡ q) × (s ≡ t)

-- A run is sound at its start, after each step, and so at its end.
pub record KeepsSound : Type 0 where
  pub start : (P : TypedProgram) (input : List ℕ) (limit : ℕ) → IsSound P input limit (course_at_start P input)
  pub step :
      (P : TypedProgram) (input : List ℕ) (limit : ℕ) (r : Course)
      → IsSound P input limit r
      → IsSound P input limit (serial_step P limit r)
  pub end :
      (P : TypedProgram) (input : List ℕ) (limit : ℕ) (from r : Course) (s : Stop)
      → IsSound P input limit from
      → EndsAs P limit from r s
      → IsSound P input limit r
