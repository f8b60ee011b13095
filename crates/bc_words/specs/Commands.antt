-- Command lines.
use Rattle.std.specs.Prelude.{◌≡◌, ℕ, ◌≤◌, List, [], ◌∷◌, codes}
use Rattle.std.specs.Fmt.{decimal}
use Rattle.bc_words.specs.declared.commands.Command.{Command}
use Rattle.bc_words.specs.declared.commands.Command.TheVariants as command

-- `serial FILE COMMITS`, `show FILE`, `check FILE` and `code FILE`
abbrev pub words_of : Command → List (List ℕ)
words_of (command.Serial file commits) = codes "serial" ∷ file.now ∷ decimal commits ∷ []
words_of (command.Show file) = codes "show" ∷ file.now ∷ []
words_of (command.Check file) = codes "check" ∷ file.now ∷ []
words_of (command.Code file) = codes "code" ∷ file.now ∷ []

-- the name of a command's file
abbrev pub file_name : Command → List ℕ
file_name (command.Serial file commits) = file.now
file_name (command.Show file) = file.now
file_name (command.Check file) = file.now
file_name (command.Code file) = file.now

abbrev pub IsInRange : Command → Type 0
IsInRange (command.Serial file commits) = (1 ≤ commits) × (commits ≤ 1000000)
IsInRange (command.Show file) = Unit {0}
IsInRange (command.Check file) = Unit {0}
IsInRange (command.Code file) = Unit {0}

-- how many bytes a command's file may have
abbrev pub file_limit : ℕ
file_limit = 1048576

-- the words are the command's with its names and numbers, and these numbers are in their range
abbrev pub IsCommand : List (List ℕ) → Command → Type 0
IsCommand words c = (words ≡ words_of c) × IsInRange c

abbrev pub IsNoCommand : List (List ℕ) → Type 0
IsNoCommand words = (c : Command) → IsCommand words c → ⊥

-- the words aren't `serial` with a file and a number in its range
abbrev pub IsNoSerial : List (List ℕ) → Type 0
IsNoSerial words = (file : List ℕ) (commits : ℕ) → words ≡ codes "serial" ∷ file ∷ decimal commits ∷ [] → 1 ≤ commits → commits ≤ 1000000 → ⊥

-- the words aren't this name and a file
abbrev pub AreNone : List (List ℕ) → List ℕ → Type 0
AreNone words name = (file : List ℕ) → words ≡ name ∷ file ∷ [] → ⊥
