-- Bytes in the middle of a text.
use Rattle.std.proofs.Common.{◌≡◌, ℕ, zero, suc, ◌+◌, ◌-◌, ◌<◌, ◌≤◌, Bool, true, false, IsTrue, List, [], ◌∷◌, ◌++◌, length, take, drop, slice_index, slice_range, ap, sym, ◌∙◌, arith, length-append}
use Rattle.std.proofs.Math.Seq.{take-append_seam, drop-append_seam}
use Rattle.std.proofs.lemmas.Bool.{and_parts, not_from_true, not_from_false}
use Rattle.std.proofs.lemmas.List.{get_or_append_left, get_or-append-add}
use Rattle.bc_data.specs.Lexical.{IsRunEnd}
use Rattle.bc_law_readback.specs.Parts.{all_of}

pub byte_behind : (before rest : List ℕ) (k : ℕ) → slice_index (before ++ rest) (length before + k) ≡ slice_index rest k
byte_behind before rest k = get_or-append-add before rest k 0

pub byte_first : (before rest : List ℕ) → slice_index (before ++ rest) (length before) ≡ slice_index rest 0
byte_first before rest = let e : length before + 0 ≡ length before = omega arith in ap (λ n. slice_index (before ++ rest) n) (sym e) ∙ byte_behind before rest 0

-- the byte where a part ends
pub byte_after : (before here after : List ℕ) → slice_index (before ++ (here ++ after)) (length before + length here) ≡ slice_index after 0
byte_after before here after = byte_behind before (here ++ after) (length here) ∙ byte_first here after

pub range_here : (before here after : List ℕ) → slice_range (before ++ (here ++ after)) (length before) (length before + length here) ≡ here
range_here before here after =
    let n : length before + length here - length before ≡ length here = omega arith in
    ap (λ m. take m (drop (length before) (before ++ (here ++ after)))) n ∙ ap (λ xs. take (length here) xs) (drop-append_seam before (here ++ after)) ∙ take-append_seam here after

pub end_within : (before here after : List ℕ) → length before + length here ≤ length (before ++ (here ++ after))
end_within before here after = omega (arith, length-append before (here ++ after), length-append here after)

-- each byte passes a test that all pass
pub all_at : (test : ℕ → Bool) (bytes : List ℕ) (k : ℕ) → k < length bytes → IsTrue (all_of test bytes) → test (slice_index bytes k) ≡ true
all_at test [] k h all = absurd (omega arith)
all_at test (b ∷ bs) zero h all = (and_parts (test b) (all_of test bs) all).0
all_at test (b ∷ bs) (suc k) h all = all_at test bs k (omega arith) (and_parts (test b) (all_of test bs) all).1

-- A run ends with a part all of whose bytes fit, before a byte that doesn't.
pub run_here : (fits : ℕ → Bool) (before here after : List ℕ) → IsTrue (all_of fits here) → fits (slice_index after 0) ≡ false → IsRunEnd fits (before ++ (here ++ after)) (length before) (length before + length here)
run_here fits before here after all stops = record {
  from = omega arith;
  to = end_within before here after;
  before = λ k low high.
      let n : length before + (k - length before) ≡ k = omega arith in
      let byte : slice_index (before ++ (here ++ after)) k ≡ slice_index here (k - length before) =
      ap (λ m. slice_index (before ++ (here ++ after)) m) (sym n) ∙ byte_behind before (here ++ after) (k - length before) ∙ get_or_append_left here after 0 (k - length before) (omega arith) in
      not_from_true (fits (slice_index (before ++ (here ++ after)) k)) (ap fits byte ∙ all_at fits here (k - length before) (omega arith) all);
  here = λ _. not_from_false (fits (slice_index (before ++ (here ++ after)) (length before + length here))) (ap fits (byte_after before here after) ∙ stops);
}
