-- At most four numbers in an array of four: behind them the array has zeros.
use Rattle.std.specs.Prelude.{◌≡◌, ℕ, ◌≤◌, List, ◌++◌, length, take, replicate}
use Rattle.bc_data.specs.declared.ids.Ids.TheInside.{Inside}
use Rattle.std.proofs.Common.{refl, ◌∙◌, ap, arith, length-append, length-take}
use Rattle.std.proofs.lemmas.List.{length-replicate}

abbrev pub padded : List ℕ → List ℕ
padded ids = take 4 (ids ++ replicate 4 0)

pub record IsPadded (ids : List ℕ) (len : ℕ) : Type 0 where
  pub few : len ≤ 4
  pub zeros : ids ≡ padded (take len ids)

four : (xs : List ℕ) → length (padded xs) ≡ 4
four xs = simp (length-take, length-append, length-replicate) (omega arith)

pub same_len : (ids : List ℕ) (len : ℕ) → IsPadded ids len → length (take len ids) ≡ len
same_len ids len h =
    let e : length ids ≡ 4 = ap length h.zeros ∙ four (take len ids) in
    let few : len ≤ 4 = h.few in
    simp length-take (omega arith)

pub same_inside : (a : Inside) → IsPadded a.ids a.len → ◌≡◌ {A = Inside} (record { ids = padded (take a.len a.ids); len = length (take a.len a.ids) }) a
same_inside a h = rw (← h.zeros, same_len a.ids a.len h) refl
