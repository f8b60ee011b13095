-- What an instruction does that writes no object, before the end of its area is set.
use Rattle.std.specs.Prelude.{◌≡◌, ◌+◌, ◌++◌, ◌∷◌, ℕ, true, false, nat_le, length, List, Option, Some, None, Result, Ok, Err}
use Rattle.bc_data.specs.declared.run.Fault.{Fault}
use Rattle.bc_data.specs.declared.run.FaultKind.TheVariants as fault
use Rattle.bc_data.specs.declared.run.Place.{Place}
use Rattle.bc_data.specs.declared.run.Value.{Value}
use Rattle.bc_data.specs.declared.run.Written.{Written}
use Rattle.bc_mean.specs.Work.{Work, Got, Gives, Stops, Faulted, Missing, Wrong, Reached, enter, say}
use Rattle.bc_code.specs.declared.code.Code.{Code}
use Rattle.bc_code.specs.Instructions.{Did, On, Over, goes}
use Rattle.bc_code.specs.Instructions as rules
use Rattle.bc_step.specs.declared.area.End.TheVariants as end
use Rattle.bc_step.specs.declared.state.State.{State}
use Rattle.bc_step.specs.declared.state.Did.{Did as Answer}
use Rattle.bc_step.specs.declared.state.Did.TheVariants as answer
use Rattle.bc_step.specs.Area.{AreaParts}
use Rattle.bc_step.specs.State.{HasRule, state_with}
use Rattle.bc_step.specs.Area.{work_with}

-- nothing changed that the rules see of a state
abbrev pub IsStill : State → State → Type 0
IsStill s t = (a : AreaParts) (cs : List Written) (ts : List ℕ) → state_with t a cs ts ≡ state_with s a cs ts

-- What an answer says of the rule, where the copies and the area stay.
abbrev pub Moves : Option Answer → State → State → AreaParts → List Written → Did → Type 0
Moves None s t a cs d = HasRule d → ⊥
Moves (Some answer.On) s t a cs d = (ts : List ℕ) × (d ≡ On (state_with t a cs ts))
Moves (Some (answer.Need id)) s t a cs d = (w : Work) × (d ≡ Over (Stops (Missing id) w)) × IsStill s t
Moves (Some answer.Exit) s t a cs d = (ts : List ℕ) × (d ≡ Over (Gives tt (work_with a t.turns cs ts)))
Moves (Some (answer.Fault f)) s t a cs d = (w : Work) × (d ≡ Over (Stops (Faulted f) w))

-- The state alone follows this, whatever the area.
abbrev pub Follows : Option Answer → State → State → (rules.State → Did) → Type 0
Follows did s t act =
    (a : AreaParts) (cs : List Written) (ts : List ℕ) → Moves did s t a cs (act (state_with s a cs ts))

-- a value; a fault; or a form that has no meaning
abbrev pub computed : Result Value (Option Fault) → Work → Got Value
computed (Ok x) w = Gives x w
computed (Err (Some f)) w = Stops (Faulted f) w
computed (Err None) w = Stops Wrong w

-- the area after an answer
abbrev pub ended : Option Answer → AreaParts → AreaParts
ended (Some answer.Exit) a = record a { end = Some end.Exit }
ended (Some (answer.Fault f)) a = record a { end = Some (end.Fault f) }
ended (Some answer.On) a = a
ended (Some (answer.Need id)) a = a
ended None a = a

-- A call was made, whatever the stack is behind it; or else this is the answer.
abbrev pub Opens :
    Result (Unit {0}) (Option Answer) → State → State → AreaParts → List Written → (List Value → Did) → Type 0
Opens (Ok x) s t a cs d = (ts : List ℕ) × ((st : List Value) → d st ≡ On (record (state_with t a cs ts) { stack = st }))
Opens (Err did) s t a cs d = (st : List Value) → Moves did s t a cs (d st)

-- to call a unit from this state, with these first slots and this stack behind it
abbrev pub calls : Code → Place → Option ℕ → List Value → List Value → rules.State → Did
calls code at unit slots st s =
    goes (enter at (length s.callers) s.work) (λ _ w. rules.called code unit slots (rules.behind s ∷ s.callers) st w)

-- to say this text, and to go on with this stack
abbrev pub says_next : Place → List ℕ → List Value → rules.State → Did
says_next at bytes st s = goes (say at bytes s.work) (λ _ w. rules.next s st w)

-- The text was appended; or it was too long, and the invocation has ended.
abbrev pub Said : Option Fault → Place → List ℕ → AreaParts → AreaParts → Type 0
Said None at bytes old new =
    (nat_le (length old.text + length bytes) 65536 ≡ true) × (new ≡ record old { text = old.text ++ bytes })
Said (Some f) at bytes old new =
    (nat_le (length old.text + length bytes) 65536 ≡ false)
    × (f ≡ record { kind = fault.Text; at = at })
    × (new ≡ record old { end = Some (end.Fault f) })

-- this text is said; or there is none, which has no meaning
abbrev pub told : Option (List ℕ) → Place → Work → Got (Unit {0})
told None at w = Stops Wrong w
told (Some bytes) at w = say at bytes w

-- The object of a call is there, so that the call goes on; or else this is the answer.
abbrev pub Reaches : Result (Unit {0}) (Option Answer) → AreaParts → ℕ → List Written → Got Reached → Type 0
Reaches (Ok x) a turns cs g = (o : Reached) × (ts : List ℕ) × (g ≡ Gives o (work_with a turns cs ts))
Reaches (Err did) a turns cs g = (s : State) (k : Reached → Work → Did) → Moves did s s a cs (goes g k)
