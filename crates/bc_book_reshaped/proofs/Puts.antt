-- Bodies put in one after another.
use Rattle.std.proofs.Common.{◌≡◌, ℕ, zero, suc, ◌+◌, ◌<◌, inl, inr, false, ◌==◌, List, [], ◌∷◌, ◌++◌, length, map, take, get_or, Option, refl, sym, ap, ◌∙◌, arith}
use Rattle.std.specs.List.{AllByRecursion}
use Rattle.std.proofs.lemmas.Bool.{cases_Bool, cond-true, cond-false, eqb-true, eqb-false, eq-eqb, ne_eqb, or_parts, or_from}
use Rattle.std.proofs.lemmas.List.{take_more}
use Rattle.std.proofs.lemmas.List.Elements.{All-from_recursion}
use Rattle.bc_data.specs.declared.run.Body.{Body}
use Rattle.bc_mean.proofs.Lists.{Chain}
use Rattle.bc_book_events.specs.Reshaped.{has}
use Rattle.bc_params.specs.Look.{put_look}
use Rattle.bc_book_reshaped.specs.declared.reshaped.Reshaped.{Reshaped}
use Rattle.bc_book_reshaped.specs.Reshaped.{id_of}

-- the bodies where each of these objects has what f says
abbrev pub puts : (Reshaped → Option Body) → List Reshaped → (ℕ → Option Body) → ℕ → Option Body
puts f [] look = look
puts f (m ∷ ms) look = puts f ms (put_look (id_of m) (f m) look)

pub puts_append : (f : Reshaped → Option Body) (ms ns : List Reshaped) (look : ℕ → Option Body) → puts f (ms ++ ns) look ≡ puts f ns (puts f ms look)
puts_append f [] ns look = refl
puts_append f (m ∷ ms) ns look = puts_append f ms ns (put_look (id_of m) (f m) look)

-- one more
pub puts_more : (f : Reshaped → Option Body) (ms : List Reshaped) (look : ℕ → Option Body) (k : ℕ) (d : Reshaped) → k < length ms → puts f (take (k + 1) ms) look ≡ put_look (id_of (get_or ms k d)) (f (get_or ms k d)) (puts f (take k ms) look)
puts_more f ms look k d h = ap (λ (l : List Reshaped). puts f l look) (take_more ms k d h) ∙ puts_append f (take k ms) (get_or ms k d ∷ []) look

-- an object that is not among them
pub puts_else : (f : Reshaped → Option Body) (ms : List Reshaped) (look : ℕ → Option Body) (x : ℕ) → has (map id_of ms) x ≡ false → puts f ms look x ≡ look x
puts_else f [] look x h = refl
puts_else f (m ∷ ms) look x h =
    let q = or_parts (id_of m == x) (has (map id_of ms) x) h in
    puts_else f ms (put_look (id_of m) (f m) look) x q.1 ∙ cond-false (x == id_of m) (f m) (look x) (ne_eqb x (id_of m) (λ e. eqb-false (id_of m) x q.0 (sym e)))

abbrev pub Below : Reshaped → Reshaped → Type 0
Below m n = id_of m < id_of n

above : (x : ℕ) (ms : List Reshaped) → AllByRecursion (λ m. x < id_of m) ms → has (map id_of ms) x ≡ false
above x [] h = refl
above x (m ∷ ms) h =
    let low : x < id_of m = h.0 in
    or_from (id_of m == x) (has (map id_of ms) x) (ne_eqb (id_of m) x (λ e. omega (arith, e))) (above x ms h.1)

-- where their numbers ascend, each has its own
pub puts_at : (f : Reshaped → Option Body) (ms : List Reshaped) (look : ℕ → Option Body) (k : ℕ) (d : Reshaped) → Chain Below ms → k < length ms → puts f ms look (id_of (get_or ms k d)) ≡ f (get_or ms k d)
puts_at f [] look k d c h = absurd (omega arith)
puts_at f (m ∷ ms) look zero d c h =
    puts_else f ms (put_look (id_of m) (f m) look) (id_of m) (above (id_of m) ms c.0) ∙ cond-true (id_of m == id_of m) (f m) (look (id_of m)) (eq-eqb (id_of m) (id_of m) refl)
puts_at f (m ∷ ms) look (suc k) d c h = puts_at f ms (put_look (id_of m) (f m) look) k d c.1 (omega arith)

pub not_before : (ms : List Reshaped) (k : ℕ) (d : Reshaped) → Chain Below ms → k < length ms → has (map id_of (take k ms)) (id_of (get_or ms k d)) ≡ false
not_before [] k d c h = absurd (omega arith)
not_before (m ∷ ms) zero d c h = refl
not_before (m ∷ ms) (suc k) d c h =
    let within : k < length ms = omega arith in
    let low : id_of m < id_of (get_or ms k d) = All-from_recursion (λ n. id_of m < id_of n) ms c.0 k d within in
    or_from (id_of m == id_of (get_or ms k d)) (has (map id_of (take k ms)) (id_of (get_or ms k d))) (ne_eqb (id_of m) (id_of (get_or ms k d)) (λ e. omega (arith, e, low))) (not_before ms k d c.1 within)

-- each gets back what it has in the other look-up
put_back : (look other : ℕ → Option Body) (ms : List Reshaped) (x : ℕ) → (has (map id_of ms) x ≡ false → other x ≡ look x) → puts (λ m. look (id_of m)) ms other x ≡ look x
put_back look other [] x h = h refl
put_back look other (m ∷ ms) x h = put_back look (put_look (id_of m) (look (id_of m)) other) ms x (λ e. elim (cases_Bool (x == id_of m)) [
  | inl s ↦ cond-true (x == id_of m) (look (id_of m)) (other x) s ∙ ap look (sym (eqb-true x (id_of m) s))
  | inr s ↦ cond-false (x == id_of m) (look (id_of m)) (other x) s ∙ h (or_from (id_of m == x) (has (map id_of ms) x) (ne_eqb (id_of m) x (λ t. eqb-false x (id_of m) s (sym t))) e)
])

pub puts_back : (f : Reshaped → Option Body) (ms : List Reshaped) (look : ℕ → Option Body) (x : ℕ) → puts (λ m. look (id_of m)) ms (puts f ms look) x ≡ look x
puts_back f ms look x = put_back look (puts f ms look) ms x (puts_else f ms look x)
