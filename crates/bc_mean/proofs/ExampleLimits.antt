-- The worked examples at the edges of the limits hold.
use Rattle.std.proofs.Common.{refl, ◌≡◌, ℕ, ◌+◌, ◌<◌, ◌≤◌, true, false, List, ◌++◌, length, nat_lt, ◌∙◌, arith, length-append}
use Rattle.std.proofs.lemmas.Bool.{le-leb, le-ltb, lt-leb, lt-ltb}
use Rattle.std.specs.Prelude.{if◌then◌else◌, nat_le, None, Option, Some}
use Rattle.bc_data.specs.declared.run.Changes.{Changes}
use Rattle.bc_data.specs.declared.run.FaultKind.{FaultKind}
use Rattle.bc_data.specs.declared.run.FaultKind.TheVariants as fault
use Rattle.bc_data.specs.declared.run.Invocation.{Invocation}
use Rattle.bc_data.specs.declared.run.Place.{Place}
use Rattle.bc_mean.specs.declared.plain.Plain.{Plain}
use Rattle.bc_mean.specs.Enabled.{all_enabled}
use Rattle.bc_mean.specs.Store.{cells_in}
use Rattle.bc_mean.specs.Examples.{ExitExamples, OutputExamples, RoomExamples, TextExamples}

within : {X : Type 0} (n a : ℕ) (x y : X) → a ≤ n → (if nat_lt n a then x else y) ≡ y
within n a x y h = rw (le-ltb n a h) refl

past : {X : Type 0} (n a : ℕ) (x y : X) → n < a → (if nat_lt n a then x else y) ≡ x
past n a x y h = rw (lt-ltb n a h) refl

-- the tests of room on the four sums
abbrev room_of : ℕ → ℕ → ℕ → ℕ → Option FaultKind
room_of objects cells tags output =
    if nat_lt 65536 objects then Some fault.Objects
    else if nat_lt 4194304 cells then Some fault.Cells
    else if nat_lt 65536 tags then Some fault.Tags
    else if nat_lt 16777216 output then Some fault.Output
    else None

full_room : (a b c d : ℕ) → a ≡ 65536 → b ≡ 4194304 → c ≡ 65536 → d ≡ 16777216 → room_of a b c d ≡ None
full_room a b c d ea eb ec ed = rw (ea, eb, ec, ed) refl

no_objects : (a b c d : ℕ) → a ≡ 65537 → room_of a b c d ≡ Some fault.Objects
no_objects a b c d ea = rw ea refl

no_cells : (a b c d : ℕ) → a ≤ 65536 → b ≡ 4194305 → room_of a b c d ≡ Some fault.Cells
no_cells a b c d ha eb = within 65536 a _ _ ha ∙ past 4194304 b _ _ (omega arith)

no_tags : (a b c d : ℕ) → a ≤ 65536 → b ≤ 4194304 → c ≡ 65537 → room_of a b c d ≡ Some fault.Tags
no_tags a b c d ha hb ec = within 65536 a _ _ ha ∙ within 4194304 b _ _ hb ∙ past 65536 c _ _ (omega arith)

no_output : (a b c d : ℕ) → a ≤ 65536 → b ≤ 4194304 → c ≤ 65536 → d ≡ 16777217 → room_of a b c d ≡ Some fault.Output
no_output a b c d ha hb hc ed =
    within 65536 a _ _ ha ∙ within 4194304 b _ _ hb ∙ within 65536 c _ _ hc ∙ past 16777216 d _ _ (omega arith)

pub room_holds : (S : Plain) (c : Changes) → RoomExamples S c
room_holds S c = record {
  all_full = full_room a b t d;
  objects = no_objects a b t d;
  cells = no_cells a b t d;
  tags = no_tags a b t d;
  output = no_output a b t d;
}
  where
    a : ℕ
    a = length S.bodies + length c.made

    b : ℕ
    b = cells_in S.bodies + cells_in c.made

    t : ℕ
    t = length S.tags + length c.tags

    d : ℕ
    d = length S.output + length c.text

pub text_holds : (at : Place) (first second : List ℕ) → TextExamples at first second
text_holds at first second = record {
  full = λ e.
      let e1 : nat_le (0 + length first) 65536 ≡ true = le-leb _ _ (omega arith) in
      let e2 : nat_le (length first + length second) 65536 ≡ true = le-leb _ _ (omega arith) in
      let e3 : nat_lt 16777216 (0 + length (first ++ second)) ≡ false = le-ltb _ _ (omega (arith, length-append first second)) in
      rw (e1, e2, e3) refl;
  too_long = λ h e.
      let e1 : nat_le (0 + length first) 65536 ≡ true = le-leb _ _ (omega arith) in
      let e2 : nat_le (length first + length second) 65536 ≡ false = lt-leb _ _ (omega arith) in
      rw (e1, e2) refl;
  first_too_long = λ e.
      let e1 : nat_le (0 + length first) 65536 ≡ false = lt-leb _ _ (omega arith) in
      rw e1 refl;
}

pub exits_hold : ExitExamples
exits_hold = record { sets_a_set_flag = refl; clears_and_sets = refl; clears = refl }

pub output_holds : (output text : List ℕ) (history : List Invocation) → OutputExamples output text history
unfolding all_enabled
output_holds output text history = record {
  no_room = λ h e.
      let e1 : nat_le (0 + length text) 65536 ≡ true = le-leb _ _ (omega arith) in
      let e2 : nat_lt 16777216 (length output + length text) ≡ true = lt-ltb _ _ (omega arith) in
      rw (e1, e2) refl;
  before_the_limit = λ h e k.
      let e1 : nat_le (0 + length text) 65536 ≡ true = le-leb _ _ (omega arith) in
      let e2 : nat_lt 16777216 (length output + length text) ≡ true = lt-ltb _ _ (omega arith) in
      rw (e1, e2) refl;
}
