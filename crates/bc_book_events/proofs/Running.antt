-- What workers have, where one more gets an invocation or one is freed.
use Rattle.std.proofs.Common.{◌≡◌, ◌≢◌, ℕ, zero, suc, ◌<◌, inl, inr, Bool, true, false, ◌||◌, List, [], ◌∷◌, length, length-set, set, Option, Some, None, refl, sym, ap, ◌∙◌, subst, arith}
use Rattle.std.proofs.lemmas.Bool.{false≢true, or_cases, or_left, or_right, false_from_ne_true, cases_eq, cases_lt}
use Rattle.std.proofs.lemmas.Option.{same_Some, none-some}
use Rattle.std.proofs.lemmas.List.{get_or_past, get_or-set_same}
use Rattle.bc_data.specs.declared.run.Invocation.{Invocation}
use Rattle.bc_mean.specs.Enabled.{is_some_and}
use Rattle.bc_mean.specs.Serial.{listed, same_invocation}
use Rattle.bc_mean.proofs.Orders.{same_itself, same_true}
use Rattle.bc_book_events.specs.Book.{held_by, is_running, busy}

-- no two workers have one invocation
abbrev pub Alone : List (Option Invocation) → Type 0
Alone running = (worker other : ℕ) (v : Invocation) → held_by running worker ≡ Some v → held_by running other ≡ Some v → worker ≡ other

pub listed_busy : (running : List (Option Invocation)) (v : Invocation) → listed (busy running) v ≡ is_running running v
listed_busy [] v = refl
listed_busy (None ∷ rest) v = listed_busy rest v
listed_busy (Some u ∷ rest) v = ap (λ (b : Bool). same_invocation v u || b) (listed_busy rest v)

pub held_here : (running : List (Option Invocation)) (worker : ℕ) (v : Invocation) → held_by running worker ≡ Some v → is_running running v ≡ true
held_here [] worker v h = absurd (none-some v h)
held_here (slot ∷ rest) (suc n) v h = or_right (is_some_and slot (same_invocation v)) (is_running rest v) (held_here rest n v h)
held_here (None ∷ rest) zero v h = absurd (none-some v h)
held_here (Some u ∷ rest) zero v h = or_left (same_invocation v u) (is_running rest v) (subst (λ (z : Invocation). same_invocation v z ≡ true) (sym (same_Some u v h)) (same_itself v))

-- what some worker has, one of them has
pub holder : (running : List (Option Invocation)) (v : Invocation) → is_running running v ≡ true → (worker : ℕ) × (held_by running worker ≡ Some v)
holder [] v h = absurd (false≢true h)
holder (None ∷ rest) v h = let q = holder rest v h in (suc q.0, q.1)
holder (Some u ∷ rest) v h = elim (or_cases (same_invocation v u) (is_running rest v) h) [
  | inl e ↦ (zero, ap (λ (z : Invocation). Some z) (sym (same_true v u e)))
  | inr e ↦ let q = holder rest v e in (suc q.0, q.1)
]

pub held_within : (running : List (Option Invocation)) (worker : ℕ) (v : Invocation) → held_by running worker ≡ Some v → worker < length running
held_within running worker v h = elim (cases_lt worker (length running)) [
  | inl l ↦ l
  | inr l ↦ absurd (none-some v (sym (get_or_past running worker None l) ∙ h))
]

-- a slot behind a write
pub held_same : (running : List (Option Invocation)) (worker : ℕ) (slot : Option Invocation) → worker < length running → held_by (set running worker slot) worker ≡ slot
held_same running worker slot l = get_or-set_same running worker slot None l

pub held_other : (running : List (Option Invocation)) (worker other : ℕ) (slot : Option Invocation) → other ≢ worker → held_by (set running worker slot) other ≡ held_by running other
held_other [] worker other slot n = refl
held_other (s ∷ rest) zero zero slot n = absurd (n refl)
held_other (s ∷ rest) zero (suc k) slot n = refl
held_other (s ∷ rest) (suc i) zero slot n = refl
held_other (s ∷ rest) (suc i) (suc k) slot n = held_other rest i k slot (λ e. n (ap suc e))

-- the worker is freed of v
pub running_freed : (running : List (Option Invocation)) (worker : ℕ) (v : Invocation) → held_by running worker ≡ Some v → (w : Invocation) → is_running running w ≡ (same_invocation w v || is_running (set running worker None) w)
running_freed [] worker v h w = absurd (none-some v h)
running_freed (slot ∷ rest) zero v h w = ap (λ (o : Option Invocation). is_some_and o (same_invocation w) || is_running rest w) h
running_freed (slot ∷ rest) (suc n) v h w = swapped (is_some_and slot (same_invocation w)) (same_invocation w v) (is_running (set rest n None) w) (is_running rest w) (running_freed rest n v h w)
  where
    swapped : (a b c d : Bool) → d ≡ (b || c) → (a || d) ≡ (b || (a || c))
    swapped a b c d e = grind (arith, e)

-- the worker, which has none, gets v
pub running_given : (running : List (Option Invocation)) (worker : ℕ) (v : Invocation) → held_by running worker ≡ None → worker < length running → (w : Invocation) → is_running (set running worker (Some v)) w ≡ (same_invocation w v || is_running running w)
running_given [] worker v h l w = absurd (omega arith)
running_given (slot ∷ rest) zero v h l w = ap (λ (o : Option Invocation). same_invocation w v || (is_some_and o (same_invocation w) || is_running rest w)) (sym h)
running_given (slot ∷ rest) (suc n) v h l w = swapped (is_some_and slot (same_invocation w)) (same_invocation w v) (is_running rest w) (is_running (set rest n (Some v)) w) (running_given rest n v h (omega arith) w)
  where
    swapped : (a b c d : Bool) → d ≡ (b || c) → (a || d) ≡ (b || (a || c))
    swapped a b c d e = grind (arith, e)

pub alone_freed : (running : List (Option Invocation)) (worker : ℕ) → Alone running → Alone (set running worker None)
alone_freed running worker alone i j v a b = alone i j v (before i a) (before j b)
  where
    before : (k : ℕ) → held_by (set running worker None) k ≡ Some v → held_by running k ≡ Some v
    before k h = elim (cases_eq k worker) [
      | inl e ↦ absurd (gone k e h)
      | inr d ↦ sym (held_other running worker k None d) ∙ h
    ]
      where
        gone : (k : ℕ) → k ≡ worker → held_by (set running worker None) k ≡ Some v → ⊥
        gone k e h =
            let there : k < length running = let l : k < length (set running worker None) = held_within (set running worker None) k v h in let n : length (set running worker None) ≡ length running = length-set running worker None in omega (arith, l, n) in
            none-some v (sym (held_same running worker None (omega arith)) ∙ subst (λ (z : ℕ). held_by (set running worker None) z ≡ Some v) e h)

-- the one that the worker is freed of is no other worker's
pub not_running_freed : (running : List (Option Invocation)) (worker : ℕ) (v : Invocation) → Alone running → held_by running worker ≡ Some v → is_running (set running worker None) v ≡ false
not_running_freed running worker v alone h = false_from_ne_true (is_running (set running worker None) v) (λ t.
    let q = holder (set running worker None) v t in
    elim (cases_eq q.0 worker) [
      | inl e ↦ none-some v (sym (held_same running worker None (held_within running worker v h)) ∙ subst (λ (z : ℕ). held_by (set running worker None) z ≡ Some v) e q.1)
      | inr d ↦ d (alone q.0 worker v (sym (held_other running worker q.0 None d) ∙ q.1) h)
    ])

pub alone_given : (running : List (Option Invocation)) (worker : ℕ) (v : Invocation) → Alone running → is_running running v ≡ false → Alone (set running worker (Some v))
alone_given running worker v alone free i j w a b = elim (cases_eq i worker) [
  | inl e ↦ elim (cases_eq j worker) [
    | inl f ↦ e ∙ sym f
    | inr d ↦ absurd (false≢true (sym free ∙ held_here running j v (sym (held_other running worker j (Some v) d) ∙ (b ∙ ap (λ (z : Invocation). Some z) (sym (its i e a))))))
  ]
  | inr d ↦ elim (cases_eq j worker) [
    | inl f ↦ absurd (false≢true (sym free ∙ held_here running i v (sym (held_other running worker i (Some v) d) ∙ (a ∙ ap (λ (z : Invocation). Some z) (sym (its j f b))))))
    | inr n ↦ alone i j w (sym (held_other running worker i (Some v) d) ∙ a) (sym (held_other running worker j (Some v) n) ∙ b)
  ]
]
  where
    its : (k : ℕ) → k ≡ worker → held_by (set running worker (Some v)) k ≡ Some w → v ≡ w
    its k e h =
        let l : k < length (set running worker (Some v)) = held_within (set running worker (Some v)) k w h in
        let n : length (set running worker (Some v)) ≡ length running = length-set running worker (Some v) in
        same_Some v w (sym (held_same running worker (Some v) (omega (arith, l, n, e))) ∙ subst (λ (z : ℕ). held_by (set running worker (Some v)) z ≡ Some w) e h)
