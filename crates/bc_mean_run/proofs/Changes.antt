-- The bodies that a run changed, one more at a time.
use Rattle.std.proofs.Common.{◌≡◌, ℕ, zero, suc, ◌+◌, ◌<◌, List, [], ◌∷◌, ◌++◌, length, get_or, Option, Some, None, refl, ap, sym, ◌∙◌, arith}
use Rattle.std.specs.Prelude.{option_to_list, slice_get}
use Rattle.std.specs.List.{filter_map, range_with_len}
use Rattle.std.proofs.lemmas.List.Elements.{filter_map-append}
use Rattle.std.proofs.lemmas.Option.{slice_get_read}
use Rattle.bc_data.specs.declared.run.Body.{Body}
use Rattle.bc_data.specs.declared.run.Written.{Written}
use Rattle.bc_mean.specs.Work.{Work}
use Rattle.bc_mean.specs.Changes.{written_of}

range_more : (a n : ℕ) → range_with_len a (suc n) ≡ range_with_len a n ++ (a + n) ∷ []
range_more a zero = ap (λ b. b ∷ []) (omega arith)
range_more a (suc n) = ap (λ l. a ∷ l) (range_more (a + 1) n ∙ ap (λ b. range_with_len (a + 1) n ++ b ∷ []) (omega arith))

one_alone : {A : Type 0} (f : ℕ → Option A) (i : ℕ) (o : Option A) → o ≡ f i → filter_map f (i ∷ []) ≡ option_to_list o
one_alone f i None e = simp (sym e)
one_alone f i (Some x) e = simp (sym e)

kept_more : {A : Type 0} (f : ℕ → Option A) (i : ℕ) (o : Option A) → o ≡ f i → filter_map f (range_with_len 0 (i + 1)) ≡ filter_map f (range_with_len 0 i) ++ option_to_list o
kept_more f i o e =
    let next : i + 1 ≡ suc i = omega arith in
    let last : 0 + i ≡ i = omega arith in
    ap (λ n. filter_map f (range_with_len 0 n)) next ∙ ap (filter_map f) (range_more 0 i ∙ ap (λ b. range_with_len 0 i ++ b ∷ []) last)
    ∙ filter_map-append f (range_with_len 0 i) (i ∷ []) ∙ ap (λ l. filter_map f (range_with_len 0 i) ++ l) (one_alone f i o e)

pub written_more : (w : Work) (bodies : List Body) (i : ℕ) (b : Body) (o : Option Written) (all next : List Written) → i < length bodies → b ≡ get_or bodies i b → o ≡ written_of w i (Some b) → all ≡ filter_map (λ id. written_of w id (slice_get bodies id)) (range_with_len 0 i) → next ≡ all ++ option_to_list o → next ≡ filter_map (λ id. written_of w id (slice_get bodies id)) (range_with_len 0 (i + 1))
written_more w bodies i b o all next within is one before added =
    let at : o ≡ written_of w i (slice_get bodies i) = one ∙ ap (written_of w i) (sym (slice_get_read bodies _ i b refl within is)) in
    added ∙ ap (λ l. l ++ option_to_list o) before ∙ sym (kept_more (λ id. written_of w id (slice_get bodies id)) i o at)
