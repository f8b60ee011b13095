-- A list gone through element by element, as the definition goes over the tree's sequence.
use Rattle.std.proofs.Common.{◌≡◌, ℕ, ◌+◌, ◌<◌, List, [], ◌∷◌, ◌++◌, length, map, take, get_or, refl, ap, sym, ◌∙◌}
use Rattle.std.proofs.lemmas.List.{take_more, map-append}
use Rattle.bc_data.specs.SourceTree.{Sequence, Empty, More}
use Rattle.bc_data.specs.View.{onto, onto_by}
use Rattle.bc_types_rules.specs.Declared.{fold_all}

onto_push : {A : Type 0} (xs : List A) (x : A) (front : Sequence A) → onto (xs ++ x ∷ []) front ≡ More (onto xs front) x
onto_push [] x front = refl
onto_push (y ∷ ys) x front = onto_push ys x (More front y)

pub onto_by-append : {A B : Type 0} (see : A → B) (xs ys : List A) (front : Sequence B) → onto_by see (xs ++ ys) front ≡ onto_by see ys (onto_by see xs front)
onto_by-append see [] ys front = refl
onto_by-append see (x ∷ xs) ys front = onto_by-append see xs ys (More front (see x))

take_next : {A : Type 0} (xs : List A) (i : ℕ) (x : A) → i < length xs → x ≡ get_or xs i x → take (i + 1) xs ≡ take i xs ++ x ∷ []
take_next xs i x within is = take_more xs i x within ∙ ap (λ v. take i xs ++ v ∷ []) (sym is)

-- one element more
pub fold_next : {S A B : Type 0} (step : S → B → S) (see : A → B) (start s : S) (xs : List A) (i : ℕ) (x : A) → i < length xs → x ≡ get_or xs i x → s ≡ fold_all step start (onto_by see (take i xs) Empty) → step s (see x) ≡ fold_all step start (onto_by see (take (i + 1) xs) Empty)
fold_next step see start s xs i x within is e =
    ap (λ t. step t (see x)) e
    ∙ ap (fold_all step start) (sym (onto_by-append see (take i xs) (x ∷ []) Empty))
    ∙ ap (λ ys. fold_all step start (onto_by see ys Empty)) (sym (take_next xs i x within is))

-- what each element is
abbrev each : {A B : Type 0} → (A → B) → Sequence A → List B
each of xs = fold_all (λ ts x. ts ++ of x ∷ []) [] xs

-- likewise one element more
pub each_next : {A B C : Type 0} (see : C → B) (of : A → B) (cs : List C) (c : C) (xs : List A) (i : ℕ) (x : A) → i < length xs → x ≡ get_or xs i x → map see cs ≡ each of (onto (take i xs) Empty) → see c ≡ of x → map see (cs ++ c ∷ []) ≡ each of (onto (take (i + 1) xs) Empty)
each_next see of cs c xs i x within is e f =
    map-append see cs (c ∷ [])
    ∙ ap (λ ts. ts ++ see c ∷ []) e
    ∙ ap (λ t. each of (onto (take i xs) Empty) ++ t ∷ []) f
    ∙ ap (each of) (sym (onto_push (take i xs) x Empty))
    ∙ ap (λ ys. each of (onto ys Empty)) (sym (take_next xs i x within is))
