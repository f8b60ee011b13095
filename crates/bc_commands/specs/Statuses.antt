-- Which status comes exactly when.
use Rattle.std.specs.Prelude.{◌≡◌, ◌≢◌, ◌⊎◌, ◌↔◌, ℕ, ◌≤◌, List, [], ◌∷◌, length, Some, IfSome, IsSome}
use Rattle.std.specs.List.{Contains}
use Rattle.bc_data.specs.SourceTree.{Sequence, Item}
use Rattle.bc_data.specs.Typed.{TypedProgram}
use Rattle.bc_data.specs.declared.run.Invocation.{Invocation}
use Rattle.bc_data.specs.declared.run.Place.{Place}
use Rattle.bc_data.specs.declared.run.Stop.TheVariants as stops
use Rattle.bc_base.specs.Outside.{Rose}
use Rattle.bc_words.specs.declared.commands.Command.{Command}
use Rattle.bc_words.specs.declared.commands.Command.TheVariants as command
use Rattle.bc_words.specs.Commands.{IsCommand, IsNoCommand, file_name, file_limit}
use Rattle.bc_texts.specs.declared.refused.RefusedKind.{RefusedKind}
use Rattle.bc_read.specs.Reading.{IsProgramText, IsRefused}
use Rattle.bc_commands.specs.declared.answer.Refusal.TheVariants as refusal
use Rattle.bc_commands.specs.declared.top.Report.{Report}
use Rattle.bc_commands.specs.Contract.{Side, Inputs, IsFile, IsCause, Answers, input_limit}

-- the shelf and the source tell their bytes, and no count of faults rose
pub record IsUndisturbed (i : Inputs) (out err : Side) : Type 0 where
  pub files : IsSome i.told
  pub input : IsSome i.source.old
  pub shelf : Rose i.old_faults i.new_faults → ⊥
  pub source : Rose i.source.old_faults i.source.new_faults → ⊥
  pub output : Rose out.old_faults out.new_faults → ⊥
  pub message : Rose err.old_faults err.new_faults → ⊥

-- the words are the command's, and this is the text of its file, which is not too long
pub record HasText (words : List (List ℕ)) (i : Inputs) (c : Command) (text : List ℕ) : Type 0 where
  pub is : IsCommand words c
  pub content : IsFile i.told (file_name c) text
  pub within : length text ≤ file_limit

-- where the command reads the input, that is within its limit
abbrev pub HasInput : Command → Side → Type 0
HasInput (command.Serial file commits) source = IfSome source.old (λ left. length left ≤ input_limit)
HasInput (command.Show file) source = Unit {0}
HasInput (command.Check file) source = Unit {0}
HasInput (command.Code file) source = Unit {0}

-- the text of the command's file is a program, and the command has its input
abbrev pub HasProgram : List (List ℕ) → Inputs → Type 0
HasProgram words i =
    (c : Command) × (text : List ℕ) × (items : Sequence Item) × (program : TypedProgram)
    × HasText words i c text × IsProgramText text items program × HasInput c i.source

-- the text of the command's file is refused
abbrev pub HasRefusedText : List (List ℕ) → Inputs → Type 0
HasRefusedText words i =
    (c : Command) × (text : List ℕ) × (kind : RefusedKind) × (at : Place)
    × HasText words i c text × IsRefused text kind at

-- Each status comes exactly where its cause is, and there is no other. What a stop means stands in the answer.
pub record HasItsCause (words : List (List ℕ)) (i : Inputs) (r : Report) : Type 0 where
  pub done : (r.status ≡ 0) ↔ (HasProgram words i × IfSome r.stop (λ stop. stop ≡ stops.End))
  pub refused : (r.status ≡ 1) ↔ HasRefusedText words i
  pub no_command : (r.status ≡ 2) ↔ IsNoCommand words
  pub spent : (r.status ≡ 3) ↔ ((v : Invocation) × (r.stop ≡ Some (stops.Spent v)))
  pub crowded : (r.status ≡ 4) ↔ ((v : Invocation) × (r.stop ≡ Some (stops.Crowded v)))
  pub too_long : (r.status ≡ 8) ↔ IsCause words i refusal.TooLong
  pub no_other : Contains (0 ∷ 1 ∷ 2 ∷ 3 ∷ 4 ∷ 8 ∷ []) r.status

-- Where nothing disturbs a call and memory suffices, its status has its cause and no other status has.
abbrev pub StatusIsItsCause : Type 0
StatusIsItsCause =
    (words : List (List ℕ)) (i : Inputs) (out err : Side) (r : Report)
    → Answers words i out err r → IsUndisturbed i out err → r.status ≢ 9 → HasItsCause words i r

-- Status 6 comes only where the count of what was read rose, and 7 only where that of a sink did.
abbrev pub FaultsRaiseCounts : Type 0
FaultsRaiseCounts =
    (words : List (List ℕ)) (i : Inputs) (out err : Side) (r : Report) → Answers words i out err r
    → (r.status ≡ 6 → IsCause words i refusal.ReadFailed)
    × (r.status ≡ 7 → Rose out.old_faults out.new_faults ⊎ Rose err.old_faults err.new_faults)
