-- Walks over a list, element by element, as the definition goes over the tree's sequence.
use Rattle.std.proofs.Common.{◌≡◌, ℕ, ◌+◌, ◌<◌, List, [], ◌∷◌, length, take, get_or, refl, ap, sym, ◌∙◌, subst}
use Rattle.bc_data.specs.SourceTree.{Sequence, Empty, More}
use Rattle.bc_data.specs.View.{onto, onto_by}
use Rattle.bc_types_rules.specs.Got.{Got, Gives}
use Rattle.bc_types_rules.specs.Numbering.{try_fold}
use Rattle.bc_names.specs.Answers.{Stops}
use Rattle.bc_names.specs.declared.fault.TypeFault.{TypeFault}
use Rattle.bc_names.proofs.Walk.{walk_on, walk_stops}

onto_same : {A : Type 0} (xs : List A) (front : Sequence A) → onto xs front ≡ onto_by (λ x. x) xs front
onto_same [] front = refl
onto_same (x ∷ xs) front = onto_same xs (More front x)

module _ {S A : Type 0} (step : S → A → Got S) (start s : S) (xs : List A) (i : ℕ) (x : A) where
  abbrev fold : List A → Got S
  fold ys = try_fold step start (onto ys Empty)

  same : (ys : List A) → fold ys ≡ try_fold step start (onto_by (λ y. y) ys Empty)
  same ys = ap (try_fold step start) (onto_same ys Empty)

  -- one element more
  pub fold_on : (t : S) → i < length xs → x ≡ get_or xs i x → fold (take i xs) ≡ Gives s → step s x ≡ Gives t → fold (take (i + 1) xs) ≡ Gives t
  fold_on t within is e next = same (take (i + 1) xs) ∙ walk_on step (λ y. y) start s t xs i x within is (sym (same (take i xs)) ∙ e) next

  -- a fault at an element is the whole walk's
  pub fold_stops : (z : TypeFault) → i < length xs → x ≡ get_or xs i x → fold (take i xs) ≡ Gives s → Stops z (step s x) → Stops z (fold xs)
  fold_stops z within is e stop = subst (Stops z) (sym (same xs)) (walk_stops step (λ y. y) z start s xs i x within is (sym (same (take i xs)) ∙ e) stop)
