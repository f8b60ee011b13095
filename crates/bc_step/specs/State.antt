-- A state and an area as the rules of instructions see them, and what `step` answers against the rule.
use Rattle.std.specs.Prelude.{◌≡◌, ◌≤◌, ℕ, List, [], ◌∷◌, drop, reverse, take, Option, Some, None}
use Rattle.bc_data.specs.declared.run.TagRef.{TagRef}
use Rattle.bc_data.specs.declared.run.Value.{Value}
use Rattle.bc_data.specs.declared.run.Written.{Written}
use Rattle.bc_mean.specs.Work.{Work, Gives, Stops, Faulted, Missing, Wrong}
use Rattle.bc_data.specs.declared.run.Place.{Place}
use Rattle.bc_code.specs.declared.code.Code.{Code}
use Rattle.bc_code.specs.declared.code.Instruction.{Instruction}
use Rattle.bc_code.specs.Instructions.{Activation, Did, On, Over, Stuck}
use Rattle.bc_code.specs.Instructions as rules
use Rattle.bc_step.specs.declared.area.End.TheVariants as end
use Rattle.bc_step.specs.declared.state.Call.{Call}
use Rattle.bc_step.specs.declared.state.State.{State}
use Rattle.bc_step.specs.declared.state.Did.{Did as Answer}
use Rattle.bc_step.specs.declared.state.Did.TheVariants as answer
use Rattle.bc_step.specs.Area.{AreaParts, AreCopies, IsSame, given_of, reads_of, work_with}

-- The tag variables are the task's, which is the call around all others.
abbrev pub tags_in : List Call → List TagRef → List TagRef
tags_in [] tags = tags
tags_in (c ∷ cs) tags = []

-- a call within these, whose slots are the last ones
abbrev pub activation : Call → List Call → List Value → List TagRef → Activation
activation c callers slots tags = record {
  unit = c.unit;
  next = c.next;
  frame = record { slots = drop c.base slots; tags = tags_in callers tags };
}

-- the calls around a call, from the one that made it on
abbrev pub activations : List Call → List Value → List TagRef → List Activation
activations [] slots tags = []
activations (c ∷ cs) slots tags = activation c cs slots tags ∷ activations cs (take c.base slots) tags

-- the state that the rules see, with these copies and touched objects
abbrev pub state_with : State → AreaParts → List Written → List ℕ → rules.State
state_with s a cs ts = record {
  current = activation s.current (reverse s.callers.items) s.slots.items s.tags.items;
  callers = activations (reverse s.callers.items) (take s.current.base s.slots.items) s.tags.items;
  stack = reverse s.stack.items;
  work = work_with a s.turns cs ts;
}

-- The rule goes on to this state.
pub record GoesOn (s : State) (a : AreaParts) (d : Did) : Type 0 where
  pub copies : List Written
  pub touched : List ℕ
  pub are : AreCopies copies a.held
  pub is : d ≡ On (state_with s a copies touched)

-- The rule is over with an exit, after what the area has.
pub record Exits (s : State) (a : AreaParts) (d : Did) : Type 0 where
  pub copies : List Written
  pub touched : List ℕ
  pub are : AreCopies copies a.held
  pub is : d ≡ Over (Gives tt (work_with a s.turns copies touched))

-- nothing changed that the rules see
pub record StaysPut (s : State) (a : AreaParts) (t : State) (b : AreaParts) : Type 0 where
  pub area : IsSame a b
  pub state : (cs : List Written) (ts : List ℕ) → state_with t b cs ts ≡ state_with s a cs ts

-- what an answer says of the rule, with state and area before it and after it
abbrev pub Answers : Answer → State → AreaParts → State → AreaParts → Did → Type 0
Answers answer.On s a t b d = GoesOn t b d × (b.end ≡ a.end)
Answers (answer.Need id) s a t b d = (w : Work) × (d ≡ Over (Stops (Missing id) w)) × StaysPut s a t b
Answers answer.Exit s a t b d = Exits t b d × (b.end ≡ Some end.Exit)
Answers (answer.Fault f) s a t b d = (w : Work) × (d ≡ Over (Stops (Faulted f) w)) × (b.end ≡ Some (end.Fault f))

-- There is an instruction, with operands of the right kinds.
abbrev pub HasRule : Did → Type 0
HasRule (On s) = Unit {0}
HasRule (Over (Gives x w)) = Unit {0}
HasRule (Over (Stops (Faulted f) w)) = Unit {0}
HasRule (Over (Stops (Missing id) w)) = Unit {0}
HasRule (Over (Stops Wrong w)) = ⊥
HasRule Stuck = ⊥

-- the same of an answer that is none where there is no rule
abbrev pub AnswersIf : Option Answer → State → AreaParts → State → AreaParts → Did → Type 0
AnswersIf None s a t b d = HasRule d → ⊥
AnswersIf (Some did) s a t b d = Answers did s a t b d

-- the invocation, what it was given, and the room for more
pub record KeepsGiven (old new : AreaParts) : Type 0 where
  pub invocation : new.invocation ≡ old.invocation
  pub given : given_of new.held ≡ given_of old.held
  pub spare : old.spare ≤ new.spare

-- The answer, and the state and the area behind it, are those of this rule.
abbrev pub ObeysRule : Option Answer → State → AreaParts → State → AreaParts → (rules.State → Did) → Type 0
ObeysRule did s a t b act =
    (cs : List Written) (ts : List ℕ) → AreCopies cs a.held → AnswersIf did s a t b (act (state_with s a cs ts))

-- They are those of the rule of this instruction.
abbrev pub Obeys : Option Answer → State → AreaParts → State → AreaParts → Place → Instruction → Type 0
Obeys did s a t b at i = (code : Code) → ObeysRule did s a t b (rules.rule (reads_of a) code at i)
