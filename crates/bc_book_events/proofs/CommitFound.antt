-- A commit, as it is found from what was reshaped.
use Rattle.std.proofs.Common.{◌≡◌, ℕ, Bool, false, ◌||◌, ◌==◌, List, [], ◌∷◌, ◌++◌, map, set, Option, None, refl, sym, ap, ap₂, ◌∙◌, arith}
use Rattle.std.specs.List.{list_any}
use Rattle.std.proofs.lemmas.List.Folds.{list_any-append}
use Rattle.std.proofs.lemmas.Bool.{eq-eqb, eqb-true}
use Rattle.bc_data.specs.declared.run.Invocation.{Invocation}
use Rattle.bc_data.specs.declared.run.Written.{Written}
use Rattle.bc_mean.specs.declared.plain.Plain.{Plain}
use Rattle.bc_mean.specs.Changes.{apply_changes}
use Rattle.bc_mean.specs.Serial.{Failed}
use Rattle.bc_mean.proofs.Orders.{both_ways}
use Rattle.bc_book_events.specs.Book.{BookState, busy}
use Rattle.bc_book_events.specs.Reshaped.{appended, has, kept, names_any}
use Rattle.bc_book_events.specs.SoundLaws.{CommitMet}
use Rattle.bc_book_events.specs.Steps.{failures_left}
use Rattle.bc_book_events.proofs.Appended.{appended_met, kept_short}
use Rattle.bc_book_events.proofs.Written.{writes_are_changes}

pub commit_met : CommitMet
commit_met b worker v c reshaped found sound held fits exits reshapes up members =
    let T = apply_changes b.store c in
    let written = map (λ (u : Written). u.id) c.bodies in
    let others = set b.running worker None in
    ap (λ (ids : List ℕ). with_lists b T v others (kept b.program T b.pending ++ appended b.program T (failures_left ids b.failures) (busy others) b.pending) (failures_left ids b.failures)) (writes_are_changes b.program b.store v c fits exits)
    ∙ ap₂ (λ (front : List Invocation) (behind : List Invocation). with_lists b T v others (front ++ behind) (failures_left written b.failures))
    (kept_short b T reshaped sound.exact reshapes)
    (appended_met b T reshaped written worker v found sound.exact held sound.typed fits reshapes up members)
  where
    with_lists : BookState → Plain → Invocation → List (Option Invocation) → List Invocation → List Failed → BookState
    with_lists b T v others pending failures = record b { store = T; history = b.history ++ v ∷ []; pending = pending; running = others; failures = failures }

-- objects that move one by one
pub names_any_push : (ids : List ℕ) (id : ℕ) (v : Invocation) → names_any (ids ++ id ∷ []) v ≡ (names_any ids v || list_any (λ other. other == id) v.objects)
names_any_push ids id v = go v.objects
  where
    swap_bools : (a e b c : Bool) → ((a || (e || false)) || (b || c)) ≡ ((a || b) || (e || c))
    swap_bools a e b c = grind arith

    same : (x : ℕ) → (id == x) ≡ (x == id)
    same x = both_ways (id == x) (x == id) (λ h. eq-eqb x id (sym (eqb-true id x h))) (λ h. eq-eqb id x (sym (eqb-true x id h)))

    go : (xs : List ℕ) → list_any (has (ids ++ id ∷ [])) xs ≡ (list_any (has ids) xs || list_any (λ other. other == id) xs)
    go [] = refl
    go (x ∷ xs) =
        ap₂ (λ (a : Bool) (b : Bool). a || b) (list_any-append (λ other. other == x) ids (id ∷ [])) (go xs)
        ∙ (swap_bools (has ids x) (id == x) (list_any (has ids) xs) (list_any (λ other. other == id) xs)
        ∙ ap (λ (e : Bool). (has ids x || list_any (has ids) xs) || (e || list_any (λ other. other == id) xs)) (same x))
