-- Classes and methods that a program has, and their weights.
use Rattle.std.proofs.Common.{◌≡◌, ℕ, ◌<◌, ◌≤◌, List, get_or, length, Option, Some, None, ap, ◌∙◌, subst, arith}
use Rattle.std.specs.Prelude.{slice_get, sum_by, option_and_then}
use Rattle.std.proofs.lemmas.Option.{slice_get_within, get_or_from_slice_get}
use Rattle.std.proofs.lemmas.List.Sums.{get_or-le-sum_by}
use Rattle.bc_data.specs.Typed.{TypedClass, TypedMethod}
use Rattle.bc_mean.specs.Work.{Work, Stops, Wrong, known}
use Rattle.bc_mean_run.specs.Weights.{above_all, class_weight, method_weight}

-- an element weighs no more than all
weighs : {X : Type 0} (f : X → ℕ) (xs : List X) (i : ℕ) (x : X) → slice_get xs i ≡ Some x → f x ≤ sum_by f xs
weighs f xs i x e =
    let within : i < length xs = slice_get_within xs i x e in
    let is : get_or xs i x ≡ x = get_or_from_slice_get xs i x x e in
    subst (λ y. f y ≤ sum_by f xs) is (get_or-le-sum_by f xs i x within)

pub class_below : (K : List TypedClass) (c : ℕ) (k : TypedClass) → slice_get K c ≡ Some k → class_weight k < above_all K
class_below K c k e =
    let h = weighs class_weight K c k e in omega arith

pub method_below : (K : List TypedClass) (c n : ℕ) (k : TypedClass) (m : TypedMethod) → slice_get K c ≡ Some k → slice_get k.methods n ≡ Some m → method_weight m < above_all K
method_below K c n k m e f =
    let g = class_below K c k e in
    let h = weighs method_weight k.methods n m f in omega arith

pub no_class : (K : List TypedClass) (c : ℕ) (w : Work) → slice_get K c ≡ None → known (slice_get K c) w ≡ Stops Wrong w
no_class K c w e = ap (λ o. known o w) e

-- the method of a class that is there, or not
abbrev find : ℕ → Option TypedClass → Option TypedMethod
find n o = option_and_then (λ (k : TypedClass). slice_get k.methods n) o

pub no_method_class : (K : List TypedClass) (c n : ℕ) (w : Work) → slice_get K c ≡ None → known (find n (slice_get K c)) w ≡ Stops Wrong w
no_method_class K c n w e = ap (λ o. known (find n o) w) e

pub no_method : (K : List TypedClass) (c n : ℕ) (k : TypedClass) (w : Work) → slice_get K c ≡ Some k → slice_get k.methods n ≡ None → known (find n (slice_get K c)) w ≡ Stops Wrong w
no_method K c n k w e f = ap (λ o. known (find n o) w) e ∙ ap (λ o. known o w) f
