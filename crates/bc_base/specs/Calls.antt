-- What an object in memory answers: which of its calls fail, how many bytes a call takes, and what a shelf gives.
use Rattle.std.specs.Prelude.{ℕ, ◌+◌, min, Bool, true, false, List, length, ◌==◌, nat_lt, if◌then◌else◌, Option, None, Some, Result, Ok, Err}
use Rattle.std.specs.List.{list_any}
use Rattle.bc_base.specs.declared.calls.Calls.{Calls}
use Rattle.bc_base.specs.declared.shelf.ShelfFault.{ShelfFault}
use Rattle.bc_base.specs.declared.shelf.ShelfFault.TheVariants.{TooLong, Failed, Memory}
use Rattle.bc_base.specs.declared.source.ReadFault.{ReadFault}
use Rattle.bc_base.specs.declared.source.ReadFault.TheVariants.{TooLong as ReadTooLong, Failed as ReadFailed, Memory as ReadMemory}

-- one more, or the last value of the type
abbrev pub next_count : ℕ → ℕ
next_count n = min (n + 1) 18446744073709551615

-- whether the call after those made so far is in the list of those that fail; the first call is 1
abbrev pub is_to_fail : List ℕ → ℕ → Bool
is_to_fail fails made = list_any (λ call. call == next_count made) fails

-- the calls after one more, which was a fault or not
abbrev pub calls_after : Calls → Bool → Calls
calls_after calls true = record calls { made = next_count calls.made; faults = next_count calls.faults }
calls_after calls false = record calls { made = next_count calls.made }

-- how many bytes a sink takes of so many, at most so many in a call, where there is room for so many
abbrev pub piece_len : ℕ → ℕ → ℕ → ℕ
piece_len len most room = min len (min most room)

-- what a shelf gives at a call that fails or not, where this is the file
abbrev pub shelf_answer : Bool → Option (List ℕ) → ℕ → Result (List ℕ) ShelfFault
shelf_answer true file limit = Err Failed
shelf_answer false None limit = Err Failed
shelf_answer false (Some content) limit = if nat_lt limit (length content) then Err TooLong else Ok content

-- whether a shelf's answer is a fault that it counts
abbrev pub is_fault : {A : Type 0} → Result A ShelfFault → Bool
is_fault (Ok content) = false
is_fault (Err TooLong) = false
is_fault (Err Failed) = true
is_fault (Err Memory) = false

-- the shelf's fault where a file was not read to its end
abbrev pub shelf_fault : ReadFault → ShelfFault
shelf_fault ReadTooLong = TooLong
shelf_fault ReadFailed = Failed
shelf_fault ReadMemory = Memory
