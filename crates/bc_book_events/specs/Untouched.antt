-- What a commit leaves as it was.
use Rattle.std.specs.Prelude.{◌≡◌, ℕ, ◌<◌, true, length, slice_get, All}
use Rattle.bc_data.specs.Typed.{TypedProgram}
use Rattle.bc_data.specs.declared.run.Body.{Body}
use Rattle.bc_data.specs.declared.run.Changes.{Changes}
use Rattle.bc_mean.specs.declared.plain.Plain.{Plain}
use Rattle.bc_mean.specs.Changes.{apply_changes, changed_objects, same_body}
use Rattle.bc_mean.specs.Enabled.{IsEnabled}
use Rattle.bc_mean.specs.Serial.{Failed, is_untouched}
use Rattle.bc_book_events.specs.Reshaped.{has}

-- Objects that a failure touched, and that no change changed, have their bodies. So its invocation stays enabled where it
-- touched the objects that it names, also where the store behind the changes is crowded.
pub record UntouchedKeeps : Type 0 where
  pub same : (a b : Body) → same_body a b ≡ true → a ≡ b
  pub body :
      (S : Plain) (c : Changes) (f : Failed) (id : ℕ)
      → is_untouched (changed_objects S (apply_changes S c)) f ≡ true
      → has f.touched id ≡ true
      → id < length S.bodies
      → slice_get S.bodies id ≡ slice_get (apply_changes S c).bodies id
  pub enabled :
      (P : TypedProgram) (S : Plain) (c : Changes) (f : Failed)
      → IsEnabled P S f.v
      → All (λ id. has f.touched id ≡ true) f.v.objects
      → is_untouched (changed_objects S (apply_changes S c)) f ≡ true
      → IsEnabled P (apply_changes S c) f.v
