-- What a worker takes that is alone and may run every task.
use Rattle.std.proofs.Common.{◌≡◌, ◌≢◌, ◌<◌, Bool, true, false, cond, List, [], ◌∷◌, length, replicate, Option, Some, None, refl, sym, ap, ap₂, subst, ◌∙◌, arith}
use Rattle.std.specs.Prelude.{nat_lt, slice_index_or, slice_set}
use Rattle.std.specs.List.{AllByRecursion, find}
use Rattle.std.specs.Set.{remove_key}
use Rattle.std.proofs.lemmas.Bool.{and_from, lt-ltb}
use Rattle.std.proofs.lemmas.List.{get_or-replicate, length-map}
use Rattle.std.proofs.lemmas.Option.{slice_get_within}
use Rattle.bc_data.specs.declared.run.Invocation.{Invocation}
use Rattle.bc_data.specs.declared.run.Stop.{Stop}
use Rattle.bc_data.specs.declared.run.Stop.TheVariants as stop
use Rattle.bc_mean.specs.Enabled.{IsEnabled, is_enabled}
use Rattle.bc_mean.specs.Serial.{listed}
use Rattle.bc_mean.proofs.Lists.{each_weaker}
use Rattle.bc_pending.specs.Lists.{is_allowed}
use Rattle.bc_book_events.specs.declared.answers.Taken.{Taken}
use Rattle.bc_book_events.specs.declared.answers.Taken.TheVariants as taken
use Rattle.bc_book_events.specs.Book.{BookState, held_by, is_at_rest}
use Rattle.bc_book_events.specs.Events.{Step, answers, take, take_found, take_unless}
use Rattle.bc_book_events.specs.Sound.{IsSoundBook}
use Rattle.bc_book_events.specs.Steps.{given, stopped}
use Rattle.bc_book_events.specs.Turns.{runs_taken, turn}
use Rattle.bc_book_events.proofs.Exact.{each_itself, ready}
use Rattle.bc_book_events.proofs.Members.{found_listed}
use Rattle.bc_book_events.proofs.Named.{enabled_names}
use Rattle.bc_book_events.proofs.Running.{held_same}
use Rattle.bc_serial.specs.Run.{HasTaken}

-- any pending one will do
abbrev pub any : Invocation → Bool
any v = true

-- a test that all pass
module _ (p : Invocation → Bool) where
  first_found : (vs : List Invocation) → AllByRecursion (λ v. p v ≡ true) vs → find p vs ≡ find any vs
  first_found [] a = refl
  first_found (v ∷ vs) a = ap (λ (t : Bool). cond t (Some v) (find p vs)) a.0

  first_removed : (vs : List Invocation) → AllByRecursion (λ v. p v ≡ true) vs → remove_key p vs ≡ remove_key any vs
  first_removed [] a = refl
  first_removed (v ∷ vs) a = ap (λ (t : Bool). cond t vs (v ∷ remove_key p vs)) a.0

  module _ (b : BookState) (all : AllByRecursion (λ v. p v ≡ true) b.pending) where
    found_alike : (o : Option Invocation) → take_found 0 p o b ≡ take_found 0 any o b
    found_alike None = refl
    found_alike (Some v) = ap (λ (vs : List Invocation). answers (taken.Got v) (record b { pending = vs; running = slice_set b.running 0 (Some v) })) (first_removed b.pending all)

    unless_alike : (o : Option Stop) → take_unless o 0 p b ≡ take_unless o 0 any b
    unless_alike (Some s) = refl
    unless_alike None =
        ap (λ (s : Step Taken). cond (is_at_rest b) (answers (taken.Over stop.End) (stopped stop.End b)) s)
        (found_alike (find p b.pending) ∙ ap (λ (o : Option Invocation). take_found 0 any o b) (first_found b.pending all))

    take_alike : take 0 p b ≡ take 0 any b
    unfolding take
    take_alike = unless_alike b.stop

module _ (b : BookState) (sound : IsSoundBook b) where
  all_allowed : (v : Invocation) → is_enabled b.program b.store v ≡ true → is_allowed (replicate 256 true) v ≡ true
  all_allowed v on =
      let named = enabled_names.enabled b.program b.store v sound.typed on in
      let within = slice_get_within b.program.tasks v.task named.task named.here in
      let below : v.task < 256 = omega (arith, within, sound.typed.few_tasks) in
      and_from (nat_lt v.task 256) (slice_index_or (replicate 256 true) v.task false) (lt-ltb v.task 256 below) (get_or-replicate 256 v.task true false below)

  pub takes_first : (tasks : List Bool) → tasks ≡ replicate 256 true → take 0 (is_allowed tasks) b ≡ take 0 any b
  takes_first tasks e =
      ap (λ (ts : List Bool). take 0 (is_allowed ts) b) e
      ∙ take_alike (is_allowed (replicate 256 true)) b
      (each_weaker (λ v. listed b.pending v ≡ true) (λ v. is_allowed (replicate 256 true) v ≡ true) (λ v h. all_allowed v (ready b sound.exact v h).0) b.pending (each_itself b.pending))

  -- what it takes, by the answer and the book behind it
  pub took : (tasks : List Bool) → tasks ≡ replicate 256 true → (t : Taken) (d : BookState) → t ≡ (take 0 (is_allowed tasks) b).answer → d ≡ (take 0 (is_allowed tasks) b).book → take 0 any b ≡ answers t d
  took tasks e t d answer book = sym (takes_first tasks e) ∙ ap₂ (λ (u : Taken) (x : BookState). answers u x) (sym answer) (sym book)

-- It was the first that is pending.
pub record IsTaken (b d : BookState) (v : Invocation) : Type 0 where
  pub going : b.stop ≡ None
  pub first : find any b.pending ≡ Some v
  pub book : d ≡ given 0 any v b

module _ (b d : BookState) (v : Invocation) where
  taken_found : b.stop ≡ None → (o : Option Invocation) → find any b.pending ≡ o → take_found 0 any o b ≡ answers (taken.Got v) d → IsTaken b d v
  taken_found going None first e = let t = ap (λ (s : Step Taken). s.answer) e in absurd (cc)
  taken_found going (Some w) first e =
      let t : taken.Got w ≡ taken.Got v = ap (λ (s : Step Taken). s.answer) e in
      let same : w ≡ v = cc in
      record {
        going = going;
        first = first ∙ ap (λ (u : Invocation). Some u) same;
        book = sym (ap (λ (s : Step Taken). s.book) e) ∙ ap (λ (u : Invocation). given 0 any u b) same;
      }

  taken_either : b.stop ≡ None → (rest : Bool) → cond rest (answers (taken.Over stop.End) (stopped stop.End b)) (take_found 0 any (find any b.pending) b) ≡ answers (taken.Got v) d → IsTaken b d v
  taken_either going true e = let t = ap (λ (s : Step Taken). s.answer) e in absurd (cc)
  taken_either going false e = taken_found going (find any b.pending) refl e

  taken_unless : (o : Option Stop) → b.stop ≡ o → take_unless o 0 any b ≡ answers (taken.Got v) d → IsTaken b d v
  taken_unless (Some s) going e = let t = ap (λ (s : Step Taken). s.answer) e in absurd (cc)
  taken_unless None going e = taken_either going (is_at_rest b) e

  pub is_taken : take 0 any b ≡ answers (taken.Got v) d → IsTaken b d v
  unfolding take
  is_taken e = taken_unless b.stop refl e

  module _ (took : take 0 any b ≡ answers (taken.Got v) d) where
    pub same_program : d.program ≡ b.program
    same_program = ap (λ (x : BookState). x.program) (is_taken took).book

    pub taken_held : 0 < length b.running → held_by d.running 0 ≡ Some v
    taken_held l = ap (λ (x : BookState). held_by x.running 0) (is_taken took).book ∙ held_same b.running 0 (Some v) l

    pub taken_enabled : IsSoundBook b → IsEnabled d.program d.store v
    taken_enabled sound =
        subst (λ (x : BookState). is_enabled x.program x.store v ≡ true) (sym (is_taken took).book)
        (ready b sound.exact v (found_listed any b.pending v (is_taken took).first)).0

    pub turn_is : turn 0 b ≡ runs_taken (taken.Got v) 0 d
    unfolding turn
    turn_is = ap (λ (s : Step Taken). runs_taken s.answer 0 s.book) took

    pub has_taken : HasTaken b d
    has_taken = record { v = v; took = took }

-- Where it takes nothing, the turn is done.
pub turn_over : (b d : BookState) (t : Taken) → ((v : Invocation) → t ≢ taken.Got v) → take 0 any b ≡ answers t d → turn 0 b ≡ d
unfolding turn
turn_over b d t none took = ap (λ (s : Step Taken). runs_taken s.answer 0 s.book) took ∙ nothing t none
  where
    nothing : (t : Taken) → ((v : Invocation) → t ≢ taken.Got v) → runs_taken t 0 d ≡ d
    nothing (taken.Got v) none = absurd (none v refl)
    nothing taken.Idle none = refl
    nothing (taken.Over s) none = refl
