-- The limits of stores, of what is enabled, of histories and of inputs.
use Rattle.std.specs.Prelude.{ℕ}

-- objects of a store, and new ones of an invocation
abbrev pub most_objects : ℕ
most_objects = 65536

-- cells of a store
abbrev pub most_cells : ℕ
most_cells = 4194304

-- tag instances of a store
abbrev pub most_instances : ℕ
most_instances = 65536

-- bytes that an invocation prints
abbrev pub most_text : ℕ
most_text = 65536

-- bytes that a run prints
abbrev pub most_output : ℕ
most_output = 16777216

-- invocations that are enabled in a store
abbrev pub most_enabled : ℕ
most_enabled = 262144

-- invocations that a run commits
abbrev pub most_commits : ℕ
most_commits = 1000000

-- bytes of an input
abbrev pub most_input : ℕ
most_input = 65536

-- elements of an array
abbrev pub longest_array : ℕ
longest_array = 65536
