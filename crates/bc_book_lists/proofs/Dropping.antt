-- Lists from which objects are taken out one by one.
use Rattle.std.proofs.Common.{◌≡◌, ℕ, Bool, true, false, cond, not, ◌&&◌, ◌||◌, List, [], ◌∷◌, ◌++◌, filter, refl, sym, ap, ap₂, ◌∙◌, arith}
use Rattle.std.specs.List.{list_any}
use Rattle.bc_data.specs.Typed.{TypedProgram}
use Rattle.bc_data.specs.declared.run.Invocation.{Invocation}
use Rattle.bc_mean.specs.declared.plain.Plain.{Plain}
use Rattle.bc_mean.specs.Enabled.{is_enabled}
use Rattle.bc_failed.specs.Records.{leaves, touches}
use Rattle.bc_mean.specs.Serial.{Failed, is_untouched}
use Rattle.bc_pending.specs.Lists.{names, stays}
use Rattle.bc_params_sets.specs.Kept.{Kept, is_enabled_by}
use Rattle.bc_book_events.specs.Reshaped.{has, names_any}
use Rattle.bc_book_events.specs.Steps.{failures_left}
use Rattle.bc_book_events.proofs.CommitFound.{names_any_push}
use Rattle.bc_params.proofs.Searchable.{program_binds}
use Rattle.bc_params_search.proofs.Sets.{enabled_by_sets}
use Rattle.bc_book_lists.specs.Search.{AreOf, stays_behind}
use Rattle.bc_book_lists.proofs.Adding.{none_of_none}

-- two filters are one
filter_twice : {X : Type 0} (p q r : X → Bool) → ((x : X) → r x ≡ (p x && q x)) → (xs : List X) → filter q (filter p xs) ≡ filter r xs
filter_twice p q r h [] = refl
filter_twice {X = X} p q r h (x ∷ xs) = at (p x) (q x) (r x) (h x) refl (filter_twice p q r h xs)
  where
    at : (a b c : Bool) → c ≡ (a && b) → q x ≡ b → filter q (filter p xs) ≡ filter r xs → filter q (cond a (x ∷ filter p xs) (filter p xs)) ≡ cond c (x ∷ filter r xs) (filter r xs)
    at true b c e k rest =
        ap (λ (t : Bool). cond t (x ∷ filter q (filter p xs)) (filter q (filter p xs))) (k ∙ sym e)
        ∙ ap (λ (l : List X). cond c (x ∷ l) l) rest
    at false b c e k rest = rest ∙ sym (ap (λ (t : Bool). cond t (x ∷ filter r xs) (filter r xs)) e)

stays_bools : (a n e m : Bool) → m ≡ (a || n) → (not m || e) ≡ ((not a || e) && (not n || e))
stays_bools a n e m h = grind (arith, h)

pub drops_more : (kept : Kept) (ids : List ℕ) (id : ℕ) (old mid : List Invocation) → mid ≡ filter (stays_behind kept ids) old → filter (stays id (is_enabled_by kept)) mid ≡ filter (stays_behind kept (ids ++ id ∷ [])) old
drops_more kept ids id old mid e =
    ap (filter (stays id (is_enabled_by kept))) e
    ∙ filter_twice (stays_behind kept ids) (stays id (is_enabled_by kept)) (stays_behind kept (ids ++ id ∷ []))
    (λ w. stays_bools (names_any ids w) (names id w) (is_enabled_by kept w) (names_any (ids ++ id ∷ []) w) (names_any_push ids id w)) old

pub drops_none : (kept : Kept) (old : List Invocation) → old ≡ filter (stays_behind kept []) old
drops_none kept [] = refl
drops_none kept (w ∷ ws) =
    ap (λ (l : List Invocation). w ∷ l) (drops_none kept ws)
    ∙ sym (ap (λ (b : Bool). cond (not b || is_enabled_by kept w) (w ∷ filter (stays_behind kept []) ws) (filter (stays_behind kept []) ws)) (none_of_none w.objects))

not_bools : (a n m : Bool) → m ≡ (a || n) → not m ≡ (not a && not n)
not_bools a n m h = grind (arith, h)

pub leaves_more : (ids : List ℕ) (id : ℕ) (old mid : List Failed) → mid ≡ failures_left ids old → filter (leaves id) mid ≡ failures_left (ids ++ id ∷ []) old
leaves_more ids id old mid e =
    ap (filter (leaves id)) e
    ∙ filter_twice (is_untouched ids) (leaves id) (is_untouched (ids ++ id ∷ []))
    (λ f. not_bools (list_any (has ids) f.touched) (touches id f) (list_any (has (ids ++ id ∷ [])) f.touched) (names_any_push ids id (record { task = 0; objects = f.touched; tags = [] }))) old

pub leaves_none : (old : List Failed) → old ≡ failures_left [] old
leaves_none [] = refl
leaves_none (f ∷ fs) =
    ap (λ (l : List Failed). f ∷ l) (leaves_none fs)
    ∙ sym (ap (λ (b : Bool). cond (not b) (f ∷ failures_left [] fs) (failures_left [] fs)) (none_of_none f.touched))

pub same_filter : {X : Type 0} (p q : X → Bool) → ((x : X) → p x ≡ q x) → (xs : List X) → filter p xs ≡ filter q xs
same_filter p q h [] = refl
same_filter p q h (x ∷ xs) = ap₂ (λ (b : Bool) (l : List _). cond b (x ∷ l) l) (h x) (same_filter p q h xs)

-- the sets tell what is enabled
pub by_sets : (P : TypedProgram) (S : Plain) (kept : Kept) → AreOf P S kept → (w : Invocation) → is_enabled_by kept w ≡ is_enabled P S w
by_sets P S kept of w = enabled_by_sets P S kept (program_binds P of.typed) of.sets w
