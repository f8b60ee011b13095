-- What events do to the machine, and its runs.
use Rattle.std.specs.Prelude.{◌≡◌, ℕ, true, false, if◌then◌else◌, ◌==◌, List, [], ◌∷◌, ◌++◌, slice_get, Option, Some, None}
use Rattle.std.specs.List.{filter_map}
use Rattle.std.specs.Option.{option_map, option_to_list}
use Rattle.bc_data.specs.Typed.{TypedProgram}
use Rattle.bc_data.specs.declared.run.Invocation.{Invocation}
use Rattle.bc_mean.specs.declared.plain.Plain.{Plain}
use Rattle.bc_mean.specs.Enabled.{is_enabled}
use Rattle.bc_book_events.specs.declared.answers.Taken.{Taken}
use Rattle.bc_book_events.specs.declared.answers.Taken.TheVariants as taken
use Rattle.bc_book_events.specs.Book.{BookState}
use Rattle.bc_book_events.specs.Core.{Core, Event, Take, Claim, Begin, Fetch, Commit, Fail, Lose, Halt, Release, Fetched, Part, look_in, no_part}
use Rattle.bc_book_events.specs.Events.{begin, commit, fail, halt, lose, take}
use Rattle.bc_book_events.specs.Lawful.{IsLawful}
use Rattle.bc_book_events.specs.SoundLaws.{book_at_start}

-- what a worker that has v does to the book
abbrev pub book_with : ℕ → Part → Event → Option Invocation → BookState → BookState
book_with worker p Begin (Some v) b = (begin worker v b).book
book_with worker p (Commit c touched) (Some v) b = (commit (look_in p.fetched) c touched worker v b).book
book_with worker p (Fail f touched) (Some v) b = (fail (look_in p.fetched) f touched worker v b).book
book_with worker p Lose (Some v) b = (lose worker v b).book
book_with worker p (Take allows) o b = (take worker allows b).book
book_with worker p Halt o b = halt worker b
book_with worker p _ o b = b

abbrev pub book_after : ℕ → Part → Event → BookState → BookState
book_after worker p e b = book_with worker p e p.invocation b

-- the present body of an object, as fetched
abbrev pub fetched_now : Plain → ℕ → Option Fetched
fetched_now S id = option_map (λ body. record { id = id; body = body }) (slice_get S.bodies id)

abbrev pub part_taken : Taken → Part → Part
part_taken (taken.Got v) p = record { invocation = Some v; begun = false; fetched = [] }
part_taken taken.Idle p = p
part_taken (taken.Over s) p = p

abbrev pub part_begun : TypedProgram → Plain → Option Invocation → Part
part_begun P S None = no_part
part_begun P S (Some v) =
    if is_enabled P S v then record { invocation = Some v; begun = true; fetched = filter_map (fetched_now S) v.objects } else no_part

-- What ends a worker's invocation clears its part.
abbrev pub part_after : ℕ → BookState → Event → Part → Part
part_after worker b (Take allows) p = part_taken (take worker allows b).answer p
part_after worker b (Claim id) p = p
part_after worker b Begin p = part_begun b.program b.store p.invocation
part_after worker b (Fetch id) p = record p { fetched = p.fetched ++ option_to_list (fetched_now b.store id) }
part_after worker b (Commit c touched) p = no_part
part_after worker b (Fail f touched) p = no_part
part_after worker b Lose p = no_part
part_after worker b Halt p = no_part
part_after worker b (Release id) p = p

abbrev pub set_at : {A : Type 0} → ℕ → A → (ℕ → A) → ℕ → A
set_at n x f m = if m == n then x else f m

-- an object that has an owner keeps it
abbrev pub claimed : ℕ → ℕ → Option ℕ → (ℕ → Option ℕ) → ℕ → Option ℕ
claimed worker id None owner = set_at id (Some worker) owner
claimed worker id (Some other) owner = owner

abbrev pub owner_after : ℕ → Event → (ℕ → Option ℕ) → ℕ → Option ℕ
owner_after worker (Claim id) owner = claimed worker id (owner id) owner
owner_after worker (Release id) owner = set_at id None owner
owner_after worker _ owner = owner

unfoldable pub after : Core → ℕ → Event → Core
after core worker e = record {
  book = book_after worker (core.parts worker) e core.book;
  owner = owner_after worker e core.owner;
  parts = set_at worker (part_after worker core.book e (core.parts worker)) core.parts;
}

-- no object has an owner, and no worker has an invocation
abbrev pub core_at_start : TypedProgram → List ℕ → ℕ → ℕ → Core
core_at_start P input limit workers = record { book = book_at_start P input limit workers; owner = λ id. None; parts = λ worker. no_part }

-- what a worker did
pub record Did : Type 0 where
  pub worker : ℕ
  pub event : Event

-- Each event is lawful in the state that those before it leave, and they lead from the one state to the other.
abbrev pub Leads : Core → List Did → Core → Type 0
Leads from [] to = from ≡ to
Leads from (d ∷ ds) to = IsLawful from d.worker d.event × Leads (after from d.worker d.event) ds to

-- a state of some run of the machine
abbrev pub Reached : TypedProgram → List ℕ → ℕ → ℕ → Core → Type 0
Reached P input limit workers core = (events : List Did) × Leads (core_at_start P input limit workers) events core
