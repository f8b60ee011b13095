-- Replay of a history, the pending order, and the serial run.
use Rattle.std.specs.Prelude.{◌≡◌, ℕ, zero, suc, Bool, not, if◌then◌else◌, ◌&&◌, ◌==◌, nat_eq, nat_lt, List, [], ◌∷◌, ◌++◌, length, filter, All, Option, Some, None, option_and_then}
use Rattle.std.specs.List.{list_any}
use Rattle.std.specs.Cmp.Lexicographic.{pointwise}
use Rattle.bc_data.specs.Limits.{most_enabled}
use Rattle.bc_data.specs.Typed.{TypedProgram}
use Rattle.bc_data.specs.declared.run.Invocation.{Invocation}
use Rattle.bc_data.specs.declared.run.Fault.{Fault}
use Rattle.bc_data.specs.declared.run.Ran.{Ran}
use Rattle.bc_data.specs.declared.run.Ran.TheVariants as ran
use Rattle.bc_data.specs.declared.run.Stop.{Stop}
use Rattle.bc_data.specs.declared.run.Stop.TheVariants as stop
use Rattle.bc_mean.specs.declared.plain.Plain.{Plain}
use Rattle.bc_mean.specs.Store.{start_store}
use Rattle.bc_mean.specs.Enabled.{is_enabled, all_enabled}
use Rattle.bc_mean.specs.Changes.{apply_changes, changed_objects}
use Rattle.bc_mean.specs.Outcome.{outcome}

-- more invocations are enabled than the pending list can hold
abbrev pub is_crowded : TypedProgram → Plain → Bool
is_crowded P S = nat_lt most_enabled (length (all_enabled P S))

-- a store, unless it is crowded
abbrev pub unless_crowded : TypedProgram → Plain → Option Plain
unless_crowded P T = if is_crowded P T then None else Some T

abbrev pub after_ran : TypedProgram → Plain → Ran → Option Plain
after_ran P S (ran.Commit c) = unless_crowded P (apply_changes S c)
after_ran P S (ran.Faulted f) = None

-- the store after a commit, if the invocation is enabled, commits and does not leave the store crowded
abbrev pub after_commit : TypedProgram → Plain → Invocation → Option Plain
after_commit P S v = if is_enabled P S v then after_ran P S (outcome P S v).ran else None

-- a history from a store on
abbrev pub replay_from : TypedProgram → Plain → List Invocation → Option Plain
replay_from P S [] = Some S
replay_from P S (v ∷ vs) = option_and_then (λ T. replay_from P T vs) (after_commit P S v)

-- The last store of a history: each entry is enabled in the store that the ones before it leave, and commits there.
abbrev pub replay : TypedProgram → List ℕ → List Invocation → Option Plain
replay P input history = replay_from P (start_store input) history

abbrev pub IsFault : Ran → Type 0
IsFault (ran.Commit c) = ⊥
IsFault (ran.Faulted f) = Unit {0}

-- nothing that is enabled could commit
abbrev pub IsQuiet : TypedProgram → Plain → Type 0
IsQuiet P S = All (λ v. IsFault (outcome P S v).ran) (all_enabled P S)

abbrev pub same_invocation : Invocation → Invocation → Bool
same_invocation v w = (v.task == w.task) && pointwise nat_eq v.objects w.objects && pointwise nat_eq v.tags w.tags

abbrev pub listed : List Invocation → Invocation → Bool
listed vs v = list_any (same_invocation v) vs

-- an invocation that faulted, its fault, and the objects that it touched
pub record Failed : Type 0 where
  pub v : Invocation
  pub fault : Fault
  pub touched : List ℕ

abbrev pub has_failure : List Failed → Invocation → Bool
has_failure failures v = list_any (λ f. same_invocation v f.v) failures

-- Those that stay enabled keep their order. Behind them come, ascending, the enabled ones that are not among them, not
-- running and without a failure.
abbrev pub pending_after : TypedProgram → Plain → List Failed → List Invocation → List Invocation → List Invocation
pending_after P T failures running pending =
    let kept = filter (is_enabled P T) pending in
    kept ++ filter (λ v. not (listed kept v) && (not (listed running v) && not (has_failure failures v))) (all_enabled P T)

-- a failure that touched none of these objects
abbrev pub is_untouched : List ℕ → Failed → Bool
is_untouched changed f = not (list_any (λ id. list_any (λ other. other == id) changed) f.touched)

-- a run of one thread so far
pub record Course : Type 0 where
  pub store : Plain
  pub history : List Invocation
  pub pending : List Invocation
  pub failures : List Failed
  pub ended : Option Stop

abbrev pub course_at_start : TypedProgram → List ℕ → Course
course_at_start P input = record {
  store = start_store input;
  history = [];
  pending = all_enabled P (start_store input);
  failures = [];
  ended = None;
}

-- the invocation joins the history, and the store becomes T
abbrev pub committed : TypedProgram → Plain → Invocation → List Invocation → Course → Course
committed P T v rest r =
    let left = filter (is_untouched (changed_objects r.store T)) r.failures in
    record { store = T; history = r.history ++ v ∷ []; pending = pending_after P T left [] rest; failures = left; ended = None }

-- The pending list plays no part any more: where no commit is left, the invocation that would have run still heads it.
abbrev pub stopped : Stop → Course → Course
stopped s r = record r { ended = Some s }

-- A commit: the limit is tested first, then how many invocations it would leave enabled.
abbrev pub try_commit : TypedProgram → ℕ → Plain → Invocation → List Invocation → Course → Course
try_commit P limit T v rest r =
    if length r.history == limit then stopped (stop.Spent v) r
    else if is_crowded P T then stopped (stop.Crowded v) r
    else committed P T v rest r

abbrev pub step_ran : TypedProgram → ℕ → Ran → List ℕ → Invocation → List Invocation → Course → Course
step_ran P limit (ran.Faulted f) touched v rest r = record r { pending = rest; failures = r.failures ++ record { v = v; fault = f; touched = touched } ∷ [] }
step_ran P limit (ran.Commit c) touched v rest r = try_commit P limit (apply_changes r.store c) v rest r

-- the first pending invocation runs, or nothing is pending
abbrev pub step_pending : TypedProgram → ℕ → List Invocation → Course → Course
step_pending P limit [] r = stopped stop.End r
step_pending P limit (v ∷ rest) r = step_ran P limit (outcome P r.store v).ran (outcome P r.store v).touched v rest r

abbrev pub step_unless : TypedProgram → ℕ → Option Stop → Course → Course
step_unless P limit (Some s) r = r
step_unless P limit None r = step_pending P limit r.pending r

-- one step of the run, which stays as it is where it has ended
abbrev pub serial_step : TypedProgram → ℕ → Course → Course
serial_step P limit r = step_unless P limit r.ended r

abbrev pub serial_steps : TypedProgram → ℕ → ℕ → Course → Course
serial_steps P limit zero r = r
serial_steps P limit (suc n) r = serial_steps P limit n (serial_step P limit r)

-- The run that goes on from a course ends in r, by this stop. A run that has ended stays as it is, so there is at most
-- one such end.
pub record EndsAs (P : TypedProgram) (limit : ℕ) (from r : Course) (s : Stop) : Type 0 where
  pub steps : ℕ
  pub reached : serial_steps P limit steps from ≡ r
  pub ended : r.ended ≡ Some s

-- the serial run of a program on an input, with at most this many commits
abbrev pub IsSerialRun : TypedProgram → List ℕ → ℕ → Course → Stop → Type 0
IsSerialRun P input limit r s = EndsAs P limit (course_at_start P input) r s
