-- The rules, where the values on top of the stack are known.
use Rattle.std.proofs.Common.{◌≡◌, ℕ, zero, suc, ◌+◌, ◌<◌, ◌≤◌, List, [], ◌∷◌, ◌++◌, length, take, drop, reverse, get_or, refl, ap, ◌∙◌, sym, arith, append-nil, append_assoc, add-one, length-drop, drop-cons, Option, Some, None}
use Rattle.std.proofs.lemmas.List.{reverse-append, reverse-reverse, length-reverse, take-append-drop, length-take-le, drop-drop, drop_all}
use Rattle.std.specs.Prelude.{Result, Ok, Err, IfOk}
use Rattle.bc_data.specs.declared.run.Value.{Value}
use Rattle.bc_mean.specs.Work.{Work, Got, Gives, Stops, and_then}
use Rattle.bc_code.specs.Instructions.{Did, Stuck, goes, on_one, on_two, taken}

pub one : (st rest : List Value) (x : Value) (k : Value → List Value → Did) → st ≡ x ∷ rest → on_one st k ≡ k x rest
one st rest x k e = ap (λ z. on_one z k) e

pub two : (st rest : List Value) (x y : Value) (k : Value → Value → List Value → Did) → st ≡ y ∷ x ∷ rest → on_two st k ≡ k x y rest
two st rest x y k e = ap (λ z. on_two z k) e

-- what holds of a result where something else does
pub mapped : {A E : Type 0} (r : Result A E) (P Q : A → Type 0) → ((a : A) → P a → Q a) → IfOk r P → IfOk r Q
mapped (Ok a) P Q f h = f a h
mapped (Err e) P Q f h = h

pub goes_then : {A B : Type 0} (g : Got A) (f : A → Work → Got B) (k : B → Work → Did) → goes (and_then g f) k ≡ goes g (λ x w. goes (f x w) k)
goes_then (Gives x w) f k = refl
goes_then (Stops h w) f k = refl

-- so many values, which are the last ones of a list
taken_turned_from : (zs ys rest : List Value) (k : List Value → List Value → Did) → taken (length zs) ys (zs ++ rest) k ≡ k (reverse zs ++ ys) rest
taken_turned_from [] ys rest k = refl
taken_turned_from (z ∷ zs) ys rest k =
    taken_turned_from zs (z ∷ ys) rest k ∙ ap (λ l. k l rest) (sym (append_assoc (reverse zs) (z ∷ []) ys) ∙ ap (λ l. l ++ ys) (sym (reverse-append (z ∷ []) zs)))

pub taken_turned : (xs rest : List Value) (n : ℕ) (k : List Value → List Value → Did) → n ≡ length xs → taken n [] (reverse xs ++ rest) k ≡ k xs rest
taken_turned xs rest n k e =
    ap (λ m. taken m [] (reverse xs ++ rest) k) (e ∙ sym (length-reverse xs))
    ∙ taken_turned_from (reverse xs) [] rest k
    ∙ ap (λ l. k l rest) (append-nil (reverse (reverse xs)) ∙ reverse-reverse xs)

taken_short_from : (n : ℕ) (xs st : List Value) (k : List Value → List Value → Did) → length st < n → taken n xs st k ≡ Stuck
taken_short_from zero xs st k h = absurd (omega arith)
taken_short_from (suc n) xs [] k h = refl
taken_short_from (suc n) xs (x ∷ st) k h = taken_short_from n (x ∷ xs) st k (omega arith)

-- too few values for the arguments and the object below them
pub call_short : (n : ℕ) (xs st : List Value) (k : List Value → Value → List Value → Did) → length st ≤ n → taken n xs st (λ ys rest. on_one rest (k ys)) ≡ Stuck
call_short zero xs [] k h = refl
call_short zero xs (x ∷ st) k h = absurd (omega arith)
call_short (suc n) xs [] k h = refl
call_short (suc n) xs (x ∷ st) k h = call_short n (x ∷ xs) st k (omega arith)

-- too few values for the object and the arguments below it
pub make_short : (n : ℕ) (st : List Value) (k : Value → List Value → List Value → Did) → length st ≤ n → on_one st (λ x rest. taken n [] rest (k x)) ≡ Stuck
make_short n [] k h = refl
make_short n (x ∷ st) k h = taken_short_from n [] st (k x) (omega arith)

module _ (items : List Value) (x : Value) (n p : ℕ) (long : p + n + 1 ≡ length items) where
  -- the object and the arguments behind it
  pub call_taken : x ≡ get_or items p x → (k : List Value → Value → List Value → Did) → taken n [] (reverse items) (λ xs rest. on_one rest (k xs)) ≡ k (drop (p + 1) items) x (reverse (take p items))
  call_taken is k =
      let xs = drop (suc p) items in
      let st = reverse (take p items) in
      let within : p < length items = omega arith in
      let cut : drop p items ≡ x ∷ xs = drop-cons items p x within ∙ ap (λ z. z ∷ xs) (sym is) in
      let parts : items ≡ (take p items ++ x ∷ []) ++ xs = sym (take-append-drop p items) ∙ ap (λ z. take p items ++ z) cut ∙ sym (append_assoc (take p items) (x ∷ []) xs) in
      let many : n ≡ length xs = omega (arith, length-drop (suc p) items) in
      let turned : reverse items ≡ reverse xs ++ (x ∷ st) =
      ap reverse parts ∙ reverse-append (take p items ++ x ∷ []) xs ∙ ap (λ l. reverse xs ++ l) (reverse-append (take p items) (x ∷ [])) in
      ap (λ z. taken n [] z (λ ys rest. on_one rest (k ys))) turned ∙ taken_turned xs (x ∷ st) n (λ ys rest. on_one rest (k ys)) many ∙ ap (λ m. k (drop m items) x st) (sym (add-one p))

  -- the arguments and the object behind them
  pub make_taken : x ≡ get_or items (p + n) x → (k : Value → List Value → List Value → Did) → on_one (reverse items) (λ y rest. taken n [] rest (k y)) ≡ k x (take n (drop p items)) (reverse (take p items))
  make_taken is k =
      let xs = take n (drop p items) in
      let st = reverse (take p items) in
      let last : drop n (drop p items) ≡ x ∷ [] =
      drop-drop n p items ∙ drop-cons items (p + n) x (omega arith) ∙ ap (λ l. get_or items (p + n) x ∷ l) (drop_all (suc (p + n)) items (omega arith)) ∙ ap (λ z. z ∷ []) (sym is) in
      let parts : items ≡ (take p items ++ xs) ++ x ∷ [] =
      sym (take-append-drop p items) ∙ ap (λ z. take p items ++ z) (sym (take-append-drop n (drop p items)) ∙ ap (λ z. xs ++ z) last) ∙ sym (append_assoc (take p items) xs (x ∷ [])) in
      let many : n ≡ length xs = sym (length-take-le n (drop p items) (omega (arith, length-drop p items))) in
      let turned : reverse items ≡ x ∷ (reverse xs ++ st) =
      ap reverse parts ∙ reverse-append (take p items ++ xs) (x ∷ []) ∙ ap (λ l. x ∷ l) (reverse-append (take p items) xs) in
      ap (λ z. on_one z (λ y rest. taken n [] rest (k y))) turned ∙ taken_turned xs st n (k x) many

pub none_of : {A : Type 0} (o : Option A) → ((x : A) → o ≡ Some x → ⊥) → o ≡ None
none_of None h = refl
none_of (Some x) h = absurd (h x refl)
