-- A walk over a list, element by element, as the definition goes over the tree's sequence.
use Rattle.std.proofs.Common.{◌≡◌, ℕ, ◌+◌, ◌<◌, List, [], ◌∷◌, ◌++◌, length, take, drop, get_or, refl, ap, sym, ◌∙◌}
use Rattle.std.proofs.lemmas.List.{take_more, take-append-drop}
use Rattle.bc_data.specs.SourceTree.{Sequence, Empty, More}
use Rattle.bc_data.specs.View.{onto_by}
use Rattle.bc_types_rules.specs.Got.{Got, Gives, ◌>>=◌}
use Rattle.bc_types_rules.specs.Numbering.{try_fold}
use Rattle.bc_names.specs.Answers.{Stops}
use Rattle.bc_names.specs.declared.fault.TypeFault.{TypeFault}
use Rattle.bc_names.specs.declared.fault.TypeFault.TheVariants as fault

module _ {S A B : Type 0} (step : S → B → Got S) (see : A → B) where
  onto_by-append : (xs ys : List A) (front : Sequence B) → onto_by see (xs ++ ys) front ≡ onto_by see ys (onto_by see xs front)
  onto_by-append [] ys front = refl
  onto_by-append (x ∷ xs) ys front = onto_by-append xs ys (More front (see x))

  -- what is behind a fault isn't looked at
  fails_on : (start : S) (xs : List A) (front : Sequence B) (g : Got S) → ((go : S → Got S) → (g >>= go) ≡ g) → try_fold step start front ≡ g → try_fold step start (onto_by see xs front) ≡ g
  fails_on start [] front g stays e = e
  fails_on start (x ∷ xs) front g stays e = fails_on start xs (More front (see x)) g stays (ap (λ h. h >>= λ t. step t (see x)) e ∙ stays (λ t. step t (see x)))

  -- the walk over a list
  abbrev pub walk : S → List A → Got S
  walk start xs = try_fold step start (onto_by see xs Empty)

  walk_more : (start s : S) (xs : List A) (i : ℕ) (x : A) → i < length xs → x ≡ get_or xs i x → walk start (take i xs) ≡ Gives s → walk start (take (i + 1) xs) ≡ step s (see x)
  walk_more start s xs i x within is e =
      ap (walk start) (take_more xs i x within)
      ∙ ap (try_fold step start) (onto_by-append (take i xs) (get_or xs i x ∷ []) Empty)
      ∙ ap (λ h. h >>= λ t. step t (see (get_or xs i x))) e
      ∙ ap (λ y. step s (see y)) (sym is)

  pub walk_on : (start s t : S) (xs : List A) (i : ℕ) (x : A) → i < length xs → x ≡ get_or xs i x → walk start (take i xs) ≡ Gives s → step s (see x) ≡ Gives t → walk start (take (i + 1) xs) ≡ Gives t
  walk_on start s t xs i x within is e next = walk_more start s xs i x within is e ∙ next

  pub walk_stops : (z : TypeFault) (start s : S) (xs : List A) (i : ℕ) (x : A) → i < length xs → x ≡ get_or xs i x → walk start (take i xs) ≡ Gives s → Stops z (step s (see x)) → Stops z (walk start xs)
  walk_stops fault.Memory start s xs i x within is e stop = tt
  walk_stops (fault.Refused kind at) start s xs i x within is e stop =
      ap (walk start) (sym (take-append-drop (i + 1) xs))
      ∙ ap (try_fold step start) (onto_by-append (take (i + 1) xs) (drop (i + 1) xs) Empty)
      ∙ fails_on start (drop (i + 1) xs) (onto_by see (take (i + 1) xs) Empty) _ (λ go. refl) (walk_more start s xs i x within is e ∙ stop)
