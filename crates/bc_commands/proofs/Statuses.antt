-- Each status has its cause, and no other status has.
use Rattle.std.proofs.Common.{◌≡◌, ℕ, ◌<◌, ◌≤◌, List, length, ◌⊎◌, ⊎_elim, inl, inr, refl, sym, ◌∙◌, ap, subst, arith}
use Rattle.std.specs.Prelude.{Option, None, Some, IfSome, IsSome, ◌↔◌, ◌≢◌}
use Rattle.bc_data.specs.declared.run.Invocation.{Invocation}
use Rattle.bc_data.specs.declared.run.Stop.{Stop}
use Rattle.bc_data.specs.declared.run.Stop.TheVariants as stops
use Rattle.bc_base.specs.Outside.{Rose, GivesAll}
use Rattle.bc_words.specs.declared.commands.Command.{Command}
use Rattle.bc_words.specs.declared.commands.Command.TheVariants as command
use Rattle.bc_words.specs.Commands.{IsNoCommand}
use Rattle.bc_commands.specs.declared.answer.Refusal.{Refusal}
use Rattle.bc_commands.specs.declared.answer.Refusal.TheVariants as refusal
use Rattle.bc_commands.specs.declared.top.Report.{Report}
use Rattle.bc_commands.specs.Reply.{Reply, status_of, status_of_refusal}
use Rattle.bc_commands.specs.Contract.{Side, Inputs, Tells, IsMadeOf, IsMadeOrRefused, IsCause, IsAnswer, IsWritten, Answers, input_limit}
use Rattle.bc_commands.specs.Statuses.{IsUndisturbed, HasText, HasProgram, HasRefusedText, HasItsCause}
use Rattle.bc_commands.proofs.Texts.{Laws}
use Rattle.bc_commands.proofs.Causes.{program_or_none, refused_or_none, long_or_none, refused_or_long, program_or_long, program_or_refusal}

-- a status that is there, with its cause
yes : {S C : Type 0} → S → C → S ↔ C
yes s c = ((λ _. c), (λ _. s))

-- a status that isn't there, and no cause of it
no : {S C : Type 0} → (S → ⊥) → (C → ⊥) → S ↔ C
no s c = ((λ x. absurd (s x)), (λ y. absurd (c y)))

abbrev Spent : Option Stop → Type 0
Spent stop = (v : Invocation) × (stop ≡ Some (stops.Spent v))

abbrev Crowded : Option Stop → Type 0
Crowded stop = (v : Invocation) × (stop ≡ Some (stops.Crowded v))

-- a stop that is none or the end is no other
not_spent : (stop : Option Stop) → IfSome stop (λ s. s ≡ stops.End) → Spent stop → ⊥
not_spent None end (v, is) = cc
not_spent (Some s) end (v, is) = cc

not_crowded : (stop : Option Stop) → IfSome stop (λ s. s ≡ stops.End) → Crowded stop → ⊥
not_crowded None end (v, is) = cc
not_crowded (Some s) end (v, is) = cc

spent_not_crowded : (stop : Option Stop) → Spent stop → Crowded stop → ⊥
spent_not_crowded stop (v, is) (w, is_2) = cc

-- what all cases have: the laws, and what tells its bytes
record Told (i : Inputs) : Type 0 where
  pub laws : Laws
  pub files : IsSome i.told
  pub input : IsSome i.source.old

of_none :
    (words : List (List ℕ)) (i : Inputs) (r : Report) → IsNoCommand words → r.status ≡ 2
    → IfSome r.stop (λ s. s ≡ stops.End) → HasItsCause words i r
of_none words i r none is end = record {
  done = no (λ e. omega (arith, is, e)) (λ cause. program_or_none words i cause.0 none);
  refused = no (λ e. omega (arith, is, e)) (λ cause. refused_or_none words i cause none);
  no_command = yes is none;
  spent = no (λ e. omega (arith, is, e)) (not_spent r.stop end);
  crowded = no (λ e. omega (arith, is, e)) (not_crowded r.stop end);
  too_long = no (λ e. omega (arith, is, e)) (λ cause. long_or_none words i cause none);
  no_other = (2, omega arith, sym is);
}

of_long :
    (words : List (List ℕ)) (i : Inputs) (r : Report) → Told i → IsCause words i refusal.TooLong → r.status ≡ 8
    → IfSome r.stop (λ s. s ≡ stops.End) → HasItsCause words i r
of_long words i r told long is end = record {
  done = no (λ e. omega (arith, is, e)) (λ cause. program_or_long words i told.files told.input cause.0 long);
  refused = no (λ e. omega (arith, is, e)) (λ cause. refused_or_long told.laws words i told.files cause long);
  no_command = no (λ e. omega (arith, is, e)) (long_or_none words i long);
  spent = no (λ e. omega (arith, is, e)) (not_spent r.stop end);
  crowded = no (λ e. omega (arith, is, e)) (not_crowded r.stop end);
  too_long = yes is long;
  no_other = (5, omega arith, sym is);
}

of_refused :
    (words : List (List ℕ)) (i : Inputs) (r : Report) → Told i → HasRefusedText words i → r.status ≡ 1
    → IfSome r.stop (λ s. s ≡ stops.End) → HasItsCause words i r
of_refused words i r told refused is end = record {
  done = no (λ e. omega (arith, is, e)) (λ cause. program_or_refusal told.laws words i told.files cause.0 refused);
  refused = yes is refused;
  no_command = no (λ e. omega (arith, is, e)) (refused_or_none words i refused);
  spent = no (λ e. omega (arith, is, e)) (not_spent r.stop end);
  crowded = no (λ e. omega (arith, is, e)) (not_crowded r.stop end);
  too_long = no (λ e. omega (arith, is, e)) (refused_or_long told.laws words i told.files refused);
  no_other = (1, omega arith, sym is);
}

of_done :
    (words : List (List ℕ)) (i : Inputs) (r : Report) → Told i → HasProgram words i → r.status ≡ 0
    → IfSome r.stop (λ s. s ≡ stops.End) → HasItsCause words i r
of_done words i r told program is end = record {
  done = yes is (program, end);
  refused = no (λ e. omega (arith, is, e)) (program_or_refusal told.laws words i told.files program);
  no_command = no (λ e. omega (arith, is, e)) (program_or_none words i program);
  spent = no (λ e. omega (arith, is, e)) (not_spent r.stop end);
  crowded = no (λ e. omega (arith, is, e)) (not_crowded r.stop end);
  too_long = no (λ e. omega (arith, is, e)) (program_or_long words i told.files told.input program);
  no_other = (0, omega arith, sym is);
}

of_spent :
    (words : List (List ℕ)) (i : Inputs) (r : Report) → Told i → HasProgram words i → r.status ≡ 3 → Spent r.stop
    → HasItsCause words i r
of_spent words i r told program is spent = record {
  done = no (λ e. omega (arith, is, e)) (λ cause. not_spent r.stop cause.1 spent);
  refused = no (λ e. omega (arith, is, e)) (program_or_refusal told.laws words i told.files program);
  no_command = no (λ e. omega (arith, is, e)) (program_or_none words i program);
  spent = yes is spent;
  crowded = no (λ e. omega (arith, is, e)) (spent_not_crowded r.stop spent);
  too_long = no (λ e. omega (arith, is, e)) (program_or_long words i told.files told.input program);
  no_other = (3, omega arith, sym is);
}

of_crowded :
    (words : List (List ℕ)) (i : Inputs) (r : Report) → Told i → HasProgram words i → r.status ≡ 4 → Crowded r.stop
    → HasItsCause words i r
of_crowded words i r told program is crowded = record {
  done = no (λ e. omega (arith, is, e)) (λ cause. not_crowded r.stop cause.1 crowded);
  refused = no (λ e. omega (arith, is, e)) (program_or_refusal told.laws words i told.files program);
  no_command = no (λ e. omega (arith, is, e)) (program_or_none words i program);
  spent = no (λ e. omega (arith, is, e)) (λ spent. spent_not_crowded r.stop spent crowded);
  crowded = yes is crowded;
  too_long = no (λ e. omega (arith, is, e)) (program_or_long words i told.files told.input program);
  no_other = (4, omega arith, sym is);
}

-- a run of a program, by its stop
of_run :
    (words : List (List ℕ)) (i : Inputs) (r : Report) (stop : Stop) → Told i → HasProgram words i
    → r.status ≡ status_of stop → r.stop ≡ Some stop → r.status ≢ 9 → HasItsCause words i r
of_run words i r stops.End told program is stopped enough = of_done words i r told program is (rw stopped refl)
of_run words i r (stops.Spent v) told program is stopped enough = of_spent words i r told program is (v, stopped)
of_run words i r (stops.Crowded v) told program is stopped enough = of_crowded words i r told program is (v, stopped)
of_run words i r stops.Memory told program is stopped enough = absurd (enough is)

short :
    (old new : Option (List ℕ)) (input : List ℕ) → GivesAll old new input → length input ≤ input_limit
    → IfSome old (λ left. length left ≤ input_limit)
short None new input given within = tt
short (Some left) new input (is, rest) within = subst (λ (t : List ℕ). length t ≤ input_limit) is within

-- a report as the answer says
record Says (r : Report) (a : Reply) : Type 0 where
  pub status : r.status ≡ a.status
  pub stop : r.stop ≡ a.stop

-- its status and stop, where the answer is another by name
says_status : (r : Report) (a b : Reply) → Says r a → a ≡ b → r.status ≡ b.status
says_status r a b says e = says.status ∙ ap (λ (x : Reply). x.status) e

says_stop : (r : Report) (a b : Reply) → Says r a → a ≡ b → r.stop ≡ b.stop
says_stop r a b says e = says.stop ∙ ap (λ (x : Reply). x.stop) e

no_stop : (r : Report) (a b : Reply) → Says r a → a ≡ b → b.stop ≡ None → IfSome r.stop (λ s. s ≡ stops.End)
no_stop r a b says e none = let is : r.stop ≡ None = says_stop r a b says e ∙ none in rw is tt

-- what a command made of a program
of_made :
    (words : List (List ℕ)) (i : Inputs) (r : Report) (a : Reply) (c : Command) (text : List ℕ) → Told i
    → HasText words i c text → Says r a → r.status ≢ 9 → IsMadeOf c text i.source a → HasItsCause words i r
of_made words i r a (command.Serial file commits) text told has says enough (input, read, serves) =
    let c = command.Serial file commits in
    let program : HasProgram words i = (
      c,
      text,
      serves.items,
      serves.program,
      has,
      serves.is,
      short i.source.old i.source.new input read.all read.within,
    ) in
    ⊎_elim
    (λ told_end. of_run words i r serves.tells.stop told program
    (says_status r a _ says told_end) (says_stop r a _ says told_end) enough)
    (λ hidden. absurd (enough (says_status r a _ says hidden.1)))
    serves.tells.told
of_made words i r a (command.Show file) text told has says enough (still, (items, program, is, e)) =
    of_done words i r told (command.Show file, text, items, program, has, is, tt)
    (says_status r a _ says e) (no_stop r a _ says e refl)
of_made words i r a (command.Check file) text told has says enough (still, (items, program, is, e)) =
    of_done words i r told (command.Check file, text, items, program, has, is, tt)
    (says_status r a _ says e) (no_stop r a _ says e refl)
of_made words i r a (command.Code file) text told has says enough (still, (items, program, code, is, translates, e)) =
    of_done words i r told (command.Code file, text, items, program, has, is, tt)
    (says_status r a _ says e) (no_stop r a _ says e refl)

of_text :
    (words : List (List ℕ)) (i : Inputs) (r : Report) (a : Reply) (c : Command) (text : List ℕ) → Told i
    → HasText words i c text → Says r a → r.status ≢ 9 → IsMadeOrRefused c text i.source a → HasItsCause words i r
of_text words i r a c text told has says enough (inl made) = of_made words i r a c text told has says enough made
of_text words i r a c text told has says enough (inr (still, (kind, at, refused, e))) =
    of_refused words i r told (c, text, kind, at, has, refused) (says_status r a _ says e) (no_stop r a _ says e refl)

-- why nothing was read
of_refusal :
    (words : List (List ℕ)) (i : Inputs) (out err : Side) (r : Report) (a : Reply) (why : Refusal) → Told i
    → IsUndisturbed i out err → IsCause words i why → r.status ≡ status_of_refusal why
    → IfSome r.stop (λ s. s ≡ stops.End) → r.status ≢ 9 → HasItsCause words i r
of_refusal words i out err r a refusal.NoCommand told calm cause is end enough = of_none words i r cause is end
of_refusal words i out err r a refusal.ReadFailed told calm (inl (c, is_2, rose)) is end enough =
    absurd (calm.shelf rose)
of_refusal words i out err r a refusal.ReadFailed told calm (inr (takes, rose)) is end enough =
    absurd (calm.source rose)
of_refusal words i out err r a refusal.TooLong told calm cause is end enough = of_long words i r told cause is end
of_refusal words i out err r a refusal.Memory told calm cause is end enough = absurd (enough is)

-- where no write failed the status is the answer's
written_status :
    (i : Inputs) (out err : Side) (a : Reply) (status : ℕ) → IsUndisturbed i out err → IsWritten a out err status
    → status ≡ a.status
written_status i out err a status calm (inl (is, taken, taken_2)) = is
written_status i out err a status calm (inr (is, (inl (taken, (rose, part))))) = absurd (calm.message rose)
written_status i out err a status calm (inr (is, (inr ((rose, part), told)))) = absurd (calm.output rose)

of_answer :
    (words : List (List ℕ)) (i : Inputs) (out err : Side) (r : Report) (a : Reply) → Told i
    → IsUndisturbed i out err → Says r a → r.status ≢ 9 → IsAnswer words i a → HasItsCause words i r
of_answer words i out err r a told calm says enough (inl made) =
    let has : HasText words i made.command made.text =
    record { is = made.is; content = made.content; within = made.within } in
    of_text words i r a made.command made.text told has says enough made.made
of_answer words i out err r a told calm says enough (inr (why, cause, e)) =
    of_refusal words i out err r a why told calm cause (says_status r a _ says e) (no_stop r a _ says e refl) enough

pub status_is_its_cause :
    Laws → (words : List (List ℕ)) (i : Inputs) (out err : Side) (r : Report) → Answers words i out err r
    → IsUndisturbed i out err → r.status ≢ 9 → HasItsCause words i r
status_is_its_cause laws words i out err r answers calm enough =
    let told : Told i = record { laws = laws; files = calm.files; input = calm.input } in
    let says : Says r answers.answer = record {
      status = written_status i out err answers.answer r.status calm answers.telling.written;
      stop = answers.telling.stop;
    } in
    of_answer words i out err r answers.answer told calm says enough answers.cause

-- Statuses 6 and 7 come of faults.
made_status :
    (c : Command) (text : List ℕ) (source : Side) (a : Reply) → IsMadeOrRefused c text source a
    → a.status < 6 ⊎ a.status ≡ 9
made_status c text source a (inr (still, (kind, at, refused, e))) =
    inl (let is = ap (λ (x : Reply). x.status) e in omega (arith, is))
made_status (command.Serial file commits) text source a (inl (input, read, serves)) =
    run_status a serves.program input commits serves.tells
  where
    stop_status : (stop : Stop) → status_of stop < 6 ⊎ status_of stop ≡ 9
    stop_status stops.End = inl (omega arith)
    stop_status (stops.Spent v) = inl (omega arith)
    stop_status (stops.Crowded v) = inl (omega arith)
    stop_status stops.Memory = inr refl

    run_status :
        (a : Reply) (program : _) (input : List ℕ) (commits : ℕ) → Tells program input commits a
        → a.status < 6 ⊎ a.status ≡ 9
    run_status a program input commits tells = ⊎_elim
        (λ e. let is = ap (λ (x : Reply). x.status) e in
        subst (λ (n : ℕ). n < 6 ⊎ n ≡ 9) (sym is) (stop_status tells.stop))
        (λ hidden. inr (ap (λ (x : Reply). x.status) hidden.1))
        tells.told
made_status (command.Show file) text source a (inl (still, (items, program, is, e))) =
    inl (let s = ap (λ (x : Reply). x.status) e in omega (arith, s))
made_status (command.Check file) text source a (inl (still, (items, program, is, e))) =
    inl (let s = ap (λ (x : Reply). x.status) e in omega (arith, s))
made_status (command.Code file) text source a (inl (still, (items, program, code, is, translates, e))) =
    inl (let s = ap (λ (x : Reply). x.status) e in omega (arith, s))

refusal_status :
    (words : List (List ℕ)) (i : Inputs) (why : Refusal) → IsCause words i why → status_of_refusal why ≡ 6
    → IsCause words i refusal.ReadFailed
refusal_status words i refusal.NoCommand cause is = absurd (omega (arith, is))
refusal_status words i refusal.ReadFailed cause is = cause
refusal_status words i refusal.TooLong cause is = absurd (omega (arith, is))
refusal_status words i refusal.Memory cause is = absurd (omega (arith, is))

not_seven : (why : Refusal) → status_of_refusal why ≡ 7 → ⊥
not_seven refusal.NoCommand is = omega (arith, is)
not_seven refusal.ReadFailed is = omega (arith, is)
not_seven refusal.TooLong is = omega (arith, is)
not_seven refusal.Memory is = omega (arith, is)

answer_six :
    (words : List (List ℕ)) (i : Inputs) (a : Reply) → IsAnswer words i a → a.status ≡ 6
    → IsCause words i refusal.ReadFailed
answer_six words i a (inl made) is =
    absurd (⊎_elim (λ low. omega (arith, low, is)) (λ nine. omega (arith, nine, is))
    (made_status made.command made.text i.source a made.made))
answer_six words i a (inr (why, cause, e)) is =
    refusal_status words i why cause (sym (ap (λ (x : Reply). x.status) e) ∙ is)

answer_seven : (words : List (List ℕ)) (i : Inputs) (a : Reply) → IsAnswer words i a → a.status ≡ 7 → ⊥
answer_seven words i a (inl made) is =
    ⊎_elim (λ low. omega (arith, low, is)) (λ nine. omega (arith, nine, is))
    (made_status made.command made.text i.source a made.made)
answer_seven words i a (inr (why, cause, e)) is = not_seven why (sym (ap (λ (x : Reply). x.status) e) ∙ is)

six :
    (words : List (List ℕ)) (i : Inputs) (out err : Side) (a : Reply) (status : ℕ) → IsAnswer words i a
    → IsWritten a out err status → status ≡ 6 → IsCause words i refusal.ReadFailed
six words i out err a status cause (inl (is, taken, taken_2)) is_6 = answer_six words i a cause (sym is ∙ is_6)
six words i out err a status cause (inr (is, fails)) is_6 = absurd (omega (arith, is, is_6))

seven :
    (words : List (List ℕ)) (i : Inputs) (out err : Side) (a : Reply) (status : ℕ) → IsAnswer words i a
    → IsWritten a out err status → status ≡ 7
    → Rose out.old_faults out.new_faults ⊎ Rose err.old_faults err.new_faults
seven words i out err a status cause (inl (is, taken, taken_2)) is_7 =
    absurd (answer_seven words i a cause (sym is ∙ is_7))
seven words i out err a status cause (inr (is, (inl (taken, (rose, part))))) is_7 = inr rose
seven words i out err a status cause (inr (is, (inr ((rose, part), told)))) is_7 = inl rose

pub faults_raise_counts :
    (words : List (List ℕ)) (i : Inputs) (out err : Side) (r : Report) → Answers words i out err r
    → (r.status ≡ 6 → IsCause words i refusal.ReadFailed)
    × (r.status ≡ 7 → Rose out.old_faults out.new_faults ⊎ Rose err.old_faults err.new_faults)
faults_raise_counts words i out err r answers = (
  six words i out err answers.answer r.status answers.cause answers.telling.written,
  seven words i out err answers.answer r.status answers.cause answers.telling.written,
)
