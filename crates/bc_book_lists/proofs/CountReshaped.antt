-- What is enabled behind changes is counted by those that name an object that was reshaped.
use Rattle.std.proofs.Common.{◌≡◌, ℕ, ◌+◌, Bool, true, false, not, ◌&&◌, List, filter, length, refl, sym, ap, ◌∙◌, arith}
use Rattle.std.proofs.lemmas.List.Filters.{length-filter_both}
use Rattle.std.proofs.lemmas.List.Kept.{AllPairs-filter}
use Rattle.bc_data.specs.Typed.{TypedProgram}
use Rattle.bc_data.specs.WellTyped.{IsWellTyped}
use Rattle.bc_mean.specs.declared.plain.Plain.{Plain}
use Rattle.bc_mean.specs.Orders.{IsAscending, precedes}
use Rattle.bc_mean.specs.Serial.{listed}
use Rattle.bc_mean.specs.Store.{Fits}
use Rattle.bc_mean.proofs.Enabled.{all_ascending, all_exact}
use Rattle.bc_mean.proofs.Orders.{listed_filter, one_ascending}
use Rattle.bc_book_events.specs.Reshaped.{ReshapesOnly, names_any}
use Rattle.bc_book_events.proofs.Reshaped.{stays_enabled, was_enabled}
use Rattle.bc_book_lists.specs.Search.{IsListOf}
use Rattle.bc_data.specs.declared.run.Invocation.{Invocation}
use Rattle.bc_mean.specs.Enabled.{all_enabled, is_enabled}

-- those that name an object that was reshaped, and the others
both_tests : (e m : Bool) → (e && m) ≡ (m && e)
both_tests e m = grind arith

else_bools : (e e2 m : Bool) → (m ≡ false → e ≡ true → e2 ≡ true) → (m ≡ false → e2 ≡ true → e ≡ true) → (e && not m) ≡ (e2 && not m)
else_bools e e2 m h k = grind (arith, h, k)

part : (P : TypedProgram) (S : Plain) (test : Invocation → Bool) → IsAscending (filter test (all_enabled P S))
part P S test = AllPairs-filter (λ v w. precedes v w ≡ true) test (all_enabled P S) (all_ascending P S)

part_members : (P : TypedProgram) (S : Plain) (test : Invocation → Bool) (w : Invocation) → listed (filter test (all_enabled P S)) w ≡ (is_enabled P S w && test w)
part_members P S test w = listed_filter test (all_enabled P S) w ∙ ap (λ (b : Bool). b && test w) (all_exact P S w)

pub whole : (P : TypedProgram) (S : Plain) (reshaped : List ℕ) (us : List Invocation) → IsListOf (λ w. names_any reshaped w && is_enabled P S w) us → us ≡ filter (names_any reshaped) (all_enabled P S)
whole P S reshaped us is =
    one_ascending us (filter (names_any reshaped) (all_enabled P S)) is.ascending (part P S (names_any reshaped))
    (λ w. is.members w ∙ (sym (both_tests (is_enabled P S w) (names_any reshaped w)) ∙ sym (part_members P S (names_any reshaped) w)))

sums : (m k r q u w x y : ℕ) → m + r ≡ x → k + q ≡ y → r ≡ q → u ≡ m → w ≡ k → y + u ≡ x + w
sums m k r q u w x y a b c d e = omega arith

-- What is enabled behind changes is counted by those that name an object that was reshaped, before and after.
pub count_reshaped :
    (P : TypedProgram) (S T : Plain) (reshaped : List ℕ) (us ws : List Invocation)
    → ReshapesOnly reshaped S T
    → IsWellTyped P
    → Fits P S
    → IsListOf (λ w. names_any reshaped w && is_enabled P S w) us
    → IsListOf (λ w. names_any reshaped w && is_enabled P T w) ws
    → length (all_enabled P T) + length us ≡ length (all_enabled P S) + length ws
count_reshaped P S T reshaped us ws reshapes typed fits before behind =
    let other : Invocation → Bool = λ w. not (names_any reshaped w) in
    let same : filter other (all_enabled P S) ≡ filter other (all_enabled P T) =
    one_ascending (filter other (all_enabled P S)) (filter other (all_enabled P T)) (part P S other) (part P T other)
    (λ w. part_members P S other w
    ∙ (else_bools (is_enabled P S w) (is_enabled P T w) (names_any reshaped w) (λ still on. stays_enabled P S T reshaped reshapes w still on) (λ still on. was_enabled P S T reshaped reshapes w still typed fits on)
    ∙ sym (part_members P T other w))) in
    let a : length (filter (names_any reshaped) (all_enabled P S)) + length (filter other (all_enabled P S)) ≡ length (all_enabled P S) = length-filter_both (names_any reshaped) other (λ w. refl) (all_enabled P S) in
    let b : length (filter (names_any reshaped) (all_enabled P T)) + length (filter other (all_enabled P T)) ≡ length (all_enabled P T) = length-filter_both (names_any reshaped) other (λ w. refl) (all_enabled P T) in
    sums (length (filter (names_any reshaped) (all_enabled P S))) (length (filter (names_any reshaped) (all_enabled P T))) (length (filter other (all_enabled P S))) (length (filter other (all_enabled P T))) (length us) (length ws) (length (all_enabled P S)) (length (all_enabled P T)) a b (ap length same) (ap length (whole P S reshaped us before)) (ap length (whole P T reshaped ws behind))
