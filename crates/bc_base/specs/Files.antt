-- The files of a shelf, and the names that it was asked for.
use Rattle.std.specs.Prelude.{ℕ, List, [], ◌∷◌, ◌++◌, find, bytes_eq, Option, Some, option_map, Result, Ok, Err}
use Rattle.bc_base.specs.declared.shelf.NamedFile.{NamedFile}
use Rattle.bc_base.specs.declared.shelf.ShelfFault.{ShelfFault}
use Rattle.bc_base.specs.declared.shelf.ShelfFault.TheVariants.{TooLong, Failed, Memory}

-- what a shelf tells: its files, and the names asked so far, in order
pub record Told : Type 0 where
  pub files : List NamedFile
  pub asked : List (List ℕ)

-- the content of the first file of that name
abbrev pub file_of : List NamedFile → List ℕ → Option (List ℕ)
file_of files name = option_map (λ file. file.content) (find (λ file. bytes_eq file.name name) files)

-- what is told once this name was asked too
abbrev pub with_asked : Option Told → List ℕ → Option Told
with_asked told name = option_map (λ (t : Told). record t { asked = t.asked ++ name ∷ [] }) told

-- what is told after a read of this name: want of memory alone adds no name
abbrev pub told_after : {A : Type 0} → Option Told → List ℕ → Result A ShelfFault → Option Told
told_after told name (Ok content) = with_asked told name
told_after told name (Err TooLong) = with_asked told name
told_after told name (Err Failed) = with_asked told name
told_after told name (Err Memory) = told

-- what a shelf of these files tells that was asked for these names
abbrev pub told_of : List NamedFile → List (List ℕ) → Option Told
told_of files asked = let t : Told = record { files = files; asked = asked } in Some t
