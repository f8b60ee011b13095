-- What is reshaped from one store to the next, and what an incremental search for newly enabled invocations has to find.
use Rattle.std.specs.Prelude.{◌≡◌, ℕ, Bool, false, not, ◌&&◌, ◌||◌, ◌==◌, List, [], ◌++◌, filter, length, map, slice_get, slice_set, option_map, Option, Some, None}
use Rattle.std.specs.List.{list_any, range_with_len}
use Rattle.bc_data.specs.Typed.{TypedProgram}
use Rattle.bc_data.specs.declared.run.Body.{Body}
use Rattle.bc_data.specs.declared.run.Changes.{Changes}
use Rattle.bc_data.specs.declared.run.Invocation.{Invocation}
use Rattle.bc_mean.specs.declared.plain.Plain.{Plain}
use Rattle.bc_mean.specs.Enabled.{is_enabled, all_enabled}
use Rattle.bc_mean.specs.Serial.{Failed, has_failure, is_untouched, listed, same_invocation}
use Rattle.bc_book_events.specs.Book.{BookState, is_running}
use Rattle.bc_book_events.specs.Steps.{failures_left}

abbrev pub has : List ℕ → ℕ → Bool
has ids id = list_any (λ other. other == id) ids

-- the invocation names one of these objects
abbrev pub names_any : List ℕ → Invocation → Bool
names_any ids v = list_any (has ids) v.objects

-- what guards and tags are tested on: a body without its cells
abbrev pub bare : Body → Body
bare b = record { kind = b.kind; cells = []; flags = b.flags; tags = b.tags }

abbrev pub bare_at : Plain → ℕ → Option Body
bare_at S id = option_map bare (slice_get S.bodies id)

-- Objects that are not among these keep their kind, flags and tags, or are in neither store. Instances keep their types.
pub record ReshapesOnly (reshaped : List ℕ) (S T : Plain) : Type 0 where
  pub bodies : (id : ℕ) → has reshaped id ≡ false → bare_at S id ≡ bare_at T id
  pub types : (n type : ℕ) → slice_get S.tags n ≡ Some type → slice_get T.tags n ≡ Some type

-- the objects that changes write or make
abbrev pub reshaped_by : Plain → Changes → List ℕ
reshaped_by S c = map (λ w. w.id) c.bodies ++ range_with_len (length S.bodies) (length c.made)

-- the pending ones that are still enabled
abbrev pub kept : TypedProgram → Plain → List Invocation → List Invocation
kept P T pending = filter (is_enabled P T) pending

-- the enabled ones that are not kept, not running and without a failure
abbrev pub appended : TypedProgram → Plain → List Failed → List Invocation → List Invocation → List Invocation
appended P T failures running pending =
    filter (λ v. not (listed (kept P T pending) v) && (not (listed running v) && not (has_failure failures v))) (all_enabled P T)

abbrev pub failures_dropped : List ℕ → List Failed → List Failed
failures_dropped changed failures = filter (λ f. not (is_untouched changed f)) failures

-- The worker's invocation v leaves it with a change of store, in which these objects are reshaped and failures that touched
-- the changed ones are dropped. Where w is enabled then, it is newly pending exactly where it names an object that
-- is reshaped, or its failure was dropped, or it is v itself; and it was not pending, no other worker has it, and no
-- failure of it is left.
abbrev pub is_wanted : List ℕ → List ℕ → ℕ → Invocation → BookState → Invocation → Bool
is_wanted reshaped changed worker v b w =
    (names_any reshaped w || (has_failure (failures_dropped changed b.failures) w || same_invocation w v))
    && (not (listed b.pending w) && (not (is_running (slice_set b.running worker None) w) && not (has_failure (failures_left changed b.failures) w)))
