-- The run goes on turn by turn, and is over where a stop is set or memory was wanting.
use Rattle.std.proofs.Common.{◌≡◌, ℕ, zero, suc, ◌<◌, Bool, true, false, not, List, [], ◌∷◌, length, length-set, Option, Some, None, refl, sym, ap, subst, ◌∙◌}
use Rattle.std.specs.Prelude.{is_some, slice_set}
use Rattle.std.specs.List.{list_any}
use Rattle.std.specs.Option.{option_or}
use Rattle.std.proofs.lemmas.Bool.{true≢false}
use Rattle.bc_data.specs.Typed.{TypedProgram}
use Rattle.bc_data.specs.declared.run.Invocation.{Invocation}
use Rattle.bc_data.specs.declared.run.Stop.{Stop}
use Rattle.bc_data.specs.declared.run.Stop.TheVariants as stop
use Rattle.bc_mean.specs.Serial.{Course, serial_step, serial_steps}
use Rattle.bc_book_events.specs.Book.{BookState, held_by}
use Rattle.bc_book_events.specs.Events.{given_up, halt}
use Rattle.bc_book_events.specs.Steps.{given, put_back, stopped}
use Rattle.bc_book_events.specs.Turns.{IsAt, IsSameRun, turn}
use Rattle.bc_book_events.proofs.SameRun.{same_then}
use Rattle.bc_book_events.proofs.Turns.{turns_are_steps}
use Rattle.bc_book.proofs.Events.{halt_as}
use Rattle.bc_serial.specs.Run.{Finishes, HasTaken, course_after, course_of, stop_of}
use Rattle.bc_serial.proofs.Taking.{any, is_taken, taken_held}

-- some turns on
pub record GoesOn (b d : BookState) : Type 0 where
  pub steps : ℕ
  pub same : IsSameRun b d
  pub at : IsAt d (course_after b steps)

-- one step behind many
last_step : (P : TypedProgram) (limit n : ℕ) (r : Course) → serial_step P limit (serial_steps P limit n r) ≡ serial_steps P limit (suc n) r
last_step P limit zero r = refl
last_step P limit (suc n) r = last_step P limit n (serial_step P limit r)

pub turn_more : (b d : BookState) → GoesOn b d → GoesOn b (turn 0 d)
turn_more b d g =
    let r = course_after b g.steps in
    record {
      steps = suc g.steps;
      same = same_then b d (turn 0 d) g.same (turns_are_steps.same 0 d);
      at =
          subst (IsAt (turn 0 d)) (last_step b.program b.limit g.steps (course_of b))
          (subst (λ (P : TypedProgram). IsAt (turn 0 d) (serial_step P b.limit r)) g.same.program
          (subst (λ (limit : ℕ). IsAt (turn 0 d) (serial_step d.program limit r)) g.same.limit (turns_are_steps.one 0 d r g.at)));
    }

-- no stop is set, by the loop's test
pub goes_still : (o p : Option Stop) (test : Bool) → p ≡ o → is_some p ≡ not test → test ≡ true → o ≡ None
goes_still o p test same value on = sym same ∙ none p (value ∙ ap not on)
  where
    none : (p : Option Stop) → is_some p ≡ false → p ≡ None
    none None h = refl
    none (Some s) h = absurd (true≢false h)

-- The worker is free again.
idle_again : (running : List (Option Invocation)) (slot : Option Invocation) → list_any is_some running ≡ false → list_any is_some (slice_set (slice_set running 0 slot) 0 None) ≡ false
idle_again [] slot idle = refl
idle_again (None ∷ rest) slot idle = idle
idle_again (Some v ∷ rest) slot idle = absurd (true≢false idle)

-- Memory was wanting, and the worker has what it took.
module _ (b d e : BookState) (g : GoesOn b d) (going : d.stop ≡ None) (taken : HasTaken d e) (worker : 0 < length d.running) where
  abbrev given_book : BookState
  given_book = given 0 any taken.v d

  halted_is : halt 0 e ≡ stopped stop.Memory (put_back 0 taken.v given_book)
  halted_is =
      halt_as e 0
      ∙ ap (λ (o : Option Invocation). stopped stop.Memory (given_up 0 o e)) (taken_held d e taken.v taken.took worker)
      ∙ ap (λ (x : BookState). stopped stop.Memory (put_back 0 taken.v x)) (is_taken d e taken.v taken.took).book

  halted_stop : option_or d.stop (Some stop.Memory) ≡ Some (stop_of (course_after b g.steps).ended)
  halted_stop =
      ap (λ (o : Option Stop). option_or o (Some stop.Memory)) going
      ∙ ap (λ (o : Option Stop). Some (stop_of o)) (sym going ∙ g.at.stop)

  halted_size : length (slice_set (slice_set d.running 0 (Some taken.v)) 0 None) ≡ length d.running
  halted_size = length-set (slice_set d.running 0 (Some taken.v)) 0 None ∙ length-set d.running 0 (Some taken.v)

  pub halted : Finishes b (halt 0 e)
  halted =
      subst (Finishes b) (sym halted_is)
      (record {
        steps = g.steps;
        same = record { program = g.same.program; input = g.same.input; limit = g.same.limit; workers = halted_size ∙ g.same.workers };
        store = g.at.store;
        history = g.at.history;
        failures = g.at.failures;
        stop = halted_stop;
        idle = idle_again d.running (Some taken.v) g.at.idle;
      })

-- Halting leaves the workers there.
pub halt_size : (b : BookState) → length (halt 0 b).running ≡ length b.running
halt_size b = ap (λ (x : BookState). length x.running) (halt_as b 0) ∙ left (held_by b.running 0)
  where
    left : (o : Option Invocation) → length (given_up 0 o b).running ≡ length b.running
    left None = refl
    left (Some v) = length-set b.running 0 None
