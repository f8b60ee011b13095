-- Where an invocation stands in an ascending list.
use Rattle.std.proofs.Common.{◌≡◌, ℕ, zero, suc, ◌<◌, inl, inr, true, false, List, [], ◌∷◌, length, get_or, Option, Some, slice_get, sym, ap, subst, ◌∙◌, arith}
use Rattle.std.specs.Prelude.{Any}
use Rattle.std.specs.List.Sorted.{IsPartitionPoint}
use Rattle.std.proofs.lemmas.Bool.{cases_order, false≢true}
use Rattle.std.proofs.lemmas.List.Folds.{Any-from_list_any}
use Rattle.std.proofs.lemmas.Option.{slice_get-get_or}
use Rattle.bc_data.specs.declared.run.Invocation.{Invocation}
use Rattle.bc_mean.specs.Enabled.{is_some_and}
use Rattle.bc_mean.specs.Orders.{IsAscending, precedes}
use Rattle.bc_mean.specs.Serial.{listed, same_invocation}
use Rattle.bc_mean.proofs.Orders.{both_ways, listed_here, listed_later, never_before_itself, same_itself, same_true}

at_place : (vs : List Invocation) (i : ℕ) (v : Invocation) → is_some_and (slice_get vs i) (same_invocation v) ≡ true → listed vs v ≡ true
at_place [] i v h = absurd (false≢true h)
at_place (w ∷ ws) zero v h = subst (λ (z : Invocation). listed (w ∷ ws) z ≡ true) (sym (same_true v w h)) (listed_here w ws)
at_place (w ∷ ws) (suc i) v h = listed_later w ws v (at_place ws i v h)

module _ (vs : List Invocation) (v : Invocation) (i : ℕ) (up : IsAscending vs) (point : IsPartitionPoint (λ w. precedes w v ≡ true) (λ w. precedes w v ≡ false) vs i) where
  its_place : (k : ℕ) (w : Invocation) → k < length vs → get_or vs k w ≡ v → is_some_and (slice_get vs i) (same_invocation v) ≡ true
  its_place k w l e = elim (cases_order k i) [
    | inl same ↦
        ap (λ (n : ℕ). is_some_and (slice_get vs n) (same_invocation v)) (sym same)
        ∙ ap (λ (o : Option Invocation). is_some_and o (same_invocation v)) (slice_get-get_or vs k w l ∙ ap (λ (z : Invocation). Some z) e)
        ∙ same_itself v
    | inr d ↦ elim d [
      | inl low ↦ absurd (false≢true (sym (never_before_itself v) ∙ subst (λ (z : Invocation). precedes z v ≡ true) e (point.0 k w (omega arith) low)))
      | inr high ↦ absurd (false≢true (sym (point.1 i w (omega arith) (omega (arith, l, high))) ∙ subst (λ (z : Invocation). precedes (get_or vs i w) z ≡ true) e (up i k w high l)))
    ]
  ]

  pub listed_in_order : is_some_and (slice_get vs i) (same_invocation v) ≡ listed vs v
  listed_in_order = both_ways (is_some_and (slice_get vs i) (same_invocation v)) (listed vs v) (at_place vs i v)
      (λ h. let w : Any (λ x. same_invocation v x ≡ true) vs = Any-from_list_any (same_invocation v) vs h in its_place w.0 w.1 w.2 (w.3 ∙ sym (same_true v w.1 w.4)))
