-- How the work of a run grows.
use Rattle.std.specs.Prelude.{◌≡◌, ℕ, ◌≤◌, Bool, true, ◌==◌, List, ◌++◌, length, slice_get, Some}
use Rattle.std.specs.List.{AllByRecursion, list_any}
use Rattle.bc_data.specs.declared.run.Written.{Written}
use Rattle.bc_mean.specs.Enabled.{are_different}
use Rattle.bc_mean.specs.Work.{Work, Got, Gives, Stops}

-- the work that a run ends with
abbrev pub work_of : {A : Type 0} → Got A → Work
work_of (Gives x w) = w
work_of (Stops h w) = w

abbrev pub has : List ℕ → ℕ → Bool
has ids id = list_any (λ other. other == id) ids

-- each object of a list is among those touched
abbrev pub AreIn : List ℕ → List ℕ → Type 0
AreIn objects touched = (n id : ℕ) → slice_get objects n ≡ Some id → has touched id ≡ true

-- the objects of the store that have a copy are among those touched
abbrev pub AreWithin : List Written → List ℕ → Type 0
AreWithin changed touched = AllByRecursion (λ c. has touched c.id ≡ true) changed

-- What was touched stays so, and no object is touched twice. Turns are only used up. Text and instances are only added, and
-- no new object goes. A copy is that of a touched object, where the objects of the parameters are touched.
pub record Grows (objects : List ℕ) (w v : Work) : Type 0 where
  pub rest : List ℕ
  pub touched : v.touched ≡ w.touched ++ rest
  pub once : are_different w.touched ≡ true → are_different v.touched ≡ true
  pub turns : v.turns ≤ w.turns
  pub made : length w.made ≤ length v.made
  pub new_instances : List ℕ
  pub instances : v.instances ≡ w.instances ++ new_instances
  pub new_text : List ℕ
  pub text : v.text ≡ w.text ++ new_text
  pub within : AreIn objects w.touched → AreWithin w.changed w.touched → AreWithin v.changed v.touched
