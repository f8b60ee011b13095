-- Lists and walks that go side by side.
use Rattle.std.proofs.Common.{◌≡◌, ◌⊎◌, inl, inr, ℕ, ◌+◌, ◌<◌, List, [], ◌∷◌, ◌++◌, length, Some, All, get_or, slice_get, refl, ap, sym, subst, ◌∙◌, arith, length-append}
use Rattle.std.proofs.lemmas.Bool.{cases_lt}
use Rattle.std.proofs.lemmas.List.{get_or_append_left, get_or_push}
use Rattle.std.proofs.lemmas.List.Elements.{All-get_or}
use Rattle.std.proofs.lemmas.Option.{get_or_from_slice_get, slice_get-get_or, slice_get_within}
use Rattle.bc_data.specs.SourceTree.{Sequence, Empty, More}
use Rattle.bc_types_rules.specs.Declared.{fold_all}
use Rattle.bc_types_rules.specs.ExpressionRules.{Each}

-- an element that is there
pub element_at : {A : Type 0} (xs : List A) (x : A) (i : ℕ) → i < length xs → (y : A) × (slice_get xs i ≡ Some y)
element_at xs x i within = (get_or xs i x, slice_get-get_or xs i x within)

-- the same with no element to begin with
pub element_within : {A : Type 0} (xs : List A) (i : ℕ) → i < length xs → (y : A) × (slice_get xs i ≡ Some y)
element_within [] i within = absurd (omega arith)
element_within (x ∷ xs) i within = element_at (x ∷ xs) x i within

-- what holds of each element holds of one that is there
pub holds_at : {A : Type 0} (P : A → Type 0) (xs : List A) (i : ℕ) (x : A) → All P xs → slice_get xs i ≡ Some x → P x
holds_at P xs i x each at = subst P (get_or_from_slice_get xs i x x at) (All-get_or P xs i x (slice_get_within xs i x at) each)

-- An element of a list with one more is one of those before, or the last.
pub old_or_last :
    {A : Type 0} (xs : List A) (x : A) (i : ℕ) (y : A) → slice_get (xs ++ x ∷ []) i ≡ Some y
    → (slice_get xs i ≡ Some y) ⊎ ((i ≡ length xs) × (y ≡ x))
old_or_last xs x i y at =
    let within = slice_get_within (xs ++ x ∷ []) i y at in
    let size = length-append xs (x ∷ []) in
    let here = get_or_from_slice_get (xs ++ x ∷ []) i y y at in
    elim (cases_lt i (length xs)) [
      | inl before ↦ inl (slice_get-get_or xs i y before ∙ ap Some (sym (get_or_append_left xs (x ∷ []) y i before) ∙ here))
      | inr behind ↦
          let last : length xs ≡ i = omega arith in
          inr (sym last, sym here ∙ get_or_push xs x y i last)
    ]

-- an element that is there stays behind one more
pub stays : {A : Type 0} (xs : List A) (x : A) (i : ℕ) (y : A) → slice_get xs i ≡ Some y → slice_get (xs ++ x ∷ []) i ≡ Some y
stays xs x i y at =
    let within = slice_get_within xs i y at in
    let size = length-append xs (x ∷ []) in
    slice_get-get_or (xs ++ x ∷ []) i y (omega arith) ∙ ap Some (get_or_append_left xs (x ∷ []) y i within ∙ get_or_from_slice_get xs i y y at)

-- two lists of one length, whose elements at each place are related
pub record Paired {A B : Type 0} (R : A → B → Type 0) (xs : List A) (ys : List B) : Type 0 where
  pub size : length xs ≡ length ys
  pub each : (i : ℕ) (x : A) (y : B) → slice_get xs i ≡ Some x → slice_get ys i ≡ Some y → R x y

pub paired_more : {A B : Type 0} (R : A → B → Type 0) (xs : List A) (ys : List B) (x : A) (y : B) → Paired R xs ys → R x y → Paired R (xs ++ x ∷ []) (ys ++ y ∷ [])
paired_more R xs ys x y p h =
    record {
      size = length-append xs (x ∷ []) ∙ ap (λ n. n + 1) p.size ∙ sym (length-append ys (y ∷ []));
      each = λ i u v at at_2. which i u v (old_or_last xs x i u at) (old_or_last ys y i v at_2);
    }
  where
    which : (i : ℕ) (u : _) (v : _) → (slice_get xs i ≡ Some u) ⊎ ((i ≡ length xs) × (u ≡ x)) → (slice_get ys i ≡ Some v) ⊎ ((i ≡ length ys) × (v ≡ y)) → R u v
    which i u v (inl a) (inl b) = p.each i u v a b
    which i u v (inl a) (inr b) =
        let within = slice_get_within xs i u a in
        let same = p.size in
        let last = b.0 in
        absurd (omega arith)
    which i u v (inr a) (inl b) =
        let within = slice_get_within ys i v b in
        let same = p.size in
        let last = a.0 in
        absurd (omega arith)
    which i u v (inr a) (inr b) = subst (λ u. R u v) (sym a.1) (subst (λ v. R x v) (sym b.1) h)

pub paired_one : {A B : Type 0} (R : A → B → Type 0) (x : A) (y : B) → R x y → Paired R (x ∷ []) (y ∷ [])
paired_one {A} {B} R x y h = paired_more R [] [] x y (record { size = refl; each = λ i u v at. absurd (none i u at) }) h
  where
    none : (i : ℕ) (u : A) → slice_get [] i ≡ Some u → ⊥
    none i u at = let within = slice_get_within [] i u at in omega arith

-- the partner of an element
pub partner : {A B : Type 0} (R : A → B → Type 0) (xs : List A) (ys : List B) (i : ℕ) (x : A) → Paired R xs ys → slice_get xs i ≡ Some x → (y : B) × (slice_get ys i ≡ Some y) × R x y
partner R xs ys i x p at =
    let within = slice_get_within xs i x at in
    let same = p.size in
    let y = element_within ys i (omega arith) in
    (y.0, y.1, p.each i x y.0 at y.1)

pub partner_back : {A B : Type 0} (R : A → B → Type 0) (xs : List A) (ys : List B) (i : ℕ) (y : B) → Paired R xs ys → slice_get ys i ≡ Some y → (x : A) × (slice_get xs i ≡ Some x) × R x y
partner_back R xs ys i y p at =
    let within = slice_get_within ys i y at in
    let same = p.size in
    let x = element_within xs i (omega arith) in
    (x.0, x.1, p.each i x.0 y x.1 at)

-- what holds of two values holds of equal ones
pub moved : {A B : Type 0} (R : A → B → Type 0) (x u : A) (y v : B) → u ≡ x → v ≡ y → R x y → R u v
moved R x u y v e f h = subst (λ u. R u v) (sym e) (subst (λ v. R x v) (sym f) h)

-- A relation that holds at the start and that each step of two walks keeps holds at their ends.
pub both_walks :
    {S T A : Type 0} (R : S → T → Type 0) (F : S → A → S → Type 0) (G : T → A → T → Type 0)
    → ((s : S) (t : T) (a : A) (u : S) (v : T) → R s t → F s a u → G t a v → R u v)
    → (s : S) (t : T) → R s t → (xs : Sequence A) (u : S) (v : T) → Each F s xs u → Each G t xs v → R u v
both_walks R F G step s t start Empty u v f g = subst (λ u. R u v) (sym f) (subst (λ v. R s v) (sym g) start)
both_walks R F G step s t start (More front last) u v f g =
    step f.0 g.0 last u v (both_walks R F G step s t start front f.0 g.0 f.1 g.1) f.2 g.2

-- a fold as a walk
pub fold_walks : {S A : Type 0} (f : S → A → S) (s : S) (xs : Sequence A) → Each (λ s a t. t ≡ f s a) s xs (fold_all f s xs)
fold_walks f s Empty = refl
fold_walks f s (More front last) = (fold_all f s front, fold_walks f s front, refl)

-- what holds of each element of a sequence
abbrev pub IsEvery : {A : Type 0} → (A → Type 0) → Sequence A → Type 0
IsEvery Q Empty = Unit {0}
IsEvery Q (More front last) = IsEvery Q front × Q last

-- What holds at the start and is kept by each step on such an element holds at the end.
pub walk_keeps :
    {S A : Type 0} (R : S → Type 0) (Q : A → Type 0) (F : S → A → S → Type 0)
    → ((s : S) (a : A) (t : S) → R s → Q a → F s a t → R t)
    → (s : S) → R s → (xs : Sequence A) (t : S) → IsEvery Q xs → Each F s xs t → R t
walk_keeps R Q F step s start Empty t every f = subst R (sym f) start
walk_keeps R Q F step s start (More front last) t every f =
    step f.0 last t (walk_keeps R Q F step s start front f.0 every.0 f.1) every.1 f.2
