-- What statements do, and the calls and loops in them.
use Rattle.std.specs.Prelude.{ℕ, zero, suc, ◌+◌, ◌-◌, pos, Bool, true, false, codes, List, [], ◌∷◌, ◌++◌, length, map, replicate, slice_get, slice_set, Option, Some, None}
use Rattle.std.specs.Fmt.{signed_decimal}
use Rattle.bc_data.specs.declared.program.Change.{Change}
use Rattle.bc_data.specs.declared.program.Change.TheVariants as change
use Rattle.bc_data.specs.declared.run.FaultKind.TheVariants as fault
use Rattle.bc_data.specs.declared.run.Invocation.{Invocation}
use Rattle.bc_data.specs.declared.run.Place.{Place}
use Rattle.bc_data.specs.declared.run.TagRef.{TagRef}
use Rattle.bc_data.specs.declared.run.TagRef.TheVariants as tag
use Rattle.bc_data.specs.declared.run.Value.{Value}
use Rattle.bc_data.specs.declared.run.Value.TheVariants as value
use Rattle.bc_data.specs.Typed.{TypedExpression, Call, TypedPart, TextPart, NumberPart, TruthPart, TypedStatement, Set, NewTag, SetField, SetElem, Drop, Perform, If, While, Return, Print, Assert, Exit, Block, TypedStatements, Nothing, Then, TypedMethod, TypedTask}
use Rattle.bc_mean.specs.Work.{Work, Got, Gives, Stops, Wrong, Reached, and_then, faults, known, choose, parameter, reach, write, say, turn, enter, set_flag, bind, unbind, make_instance}
use Rattle.bc_mean.specs.Evaluate.{World, Frame, Calls, index_in, call_on, evaluate, evaluate_all}

-- how a statement ends: the next one follows, the method is left with a result or without, or the task is left
pub data Flow : Type 0 where
  Goes : (f : Frame) → Flow
  Returns : (result : Option Value) → Flow
  Leaves : Flow

abbrev pub text_of_truth : Bool → List ℕ
text_of_truth true = codes "true"
text_of_truth false = codes "false"

-- the text of a number or of a truth value
abbrev pub say_number : Place → Value → Work → Got (Unit {0})
say_number at (value.Int n) w = say at (signed_decimal n) w
say_number at _ w = Stops Wrong w

abbrev pub say_truth : Place → Value → Work → Got (Unit {0})
say_truth at (value.Bool b) w = say at (text_of_truth b) w
say_truth at _ w = Stops Wrong w

-- one item of a `print`
abbrev pub print_part : World → Calls → Frame → Place → TypedPart → Work → Got (Unit {0})
print_part W C f at (TextPart bytes) w = say at bytes w
print_part W C f at (NumberPart e) w = and_then (evaluate W C f e w) (say_number at)
print_part W C f at (TruthPart e) w = and_then (evaluate W C f e w) (say_truth at)

-- each item is evaluated and appended before the next
abbrev pub print_parts : World → Calls → Frame → Place → List TypedPart → Work → Got (Unit {0})
print_parts W C f at [] w = Gives tt w
print_parts W C f at (p ∷ ps) w = and_then (print_part W C f at p w) (λ _ v. print_parts W C f at ps v)

-- one action of a `taskexit` on a parameter's object
abbrev pub act : World → Frame → Change → Work → Got (Unit {0})
act W f (change.Flag p flag b) w = and_then (parameter W.look (slice_get W.objects p) w) (λ o v. set_flag o flag b v)
act W f (change.Add at p variable) w =
    and_then (parameter W.look (slice_get W.objects p) w) (λ o v. and_then (known (slice_get f.tags variable) v) (λ t u. bind at o t u))
act W f (change.Clear p variable) w =
    and_then (parameter W.look (slice_get W.objects p) w) (λ o v. and_then (known (slice_get f.tags variable) v) (λ t u. unbind o t u))

-- the actions of a `taskexit`, from left to right
abbrev pub act_all : World → Frame → List Change → Work → Got (Unit {0})
act_all W f [] w = Gives tt w
act_all W f (c ∷ cs) w = and_then (act W f c w) (λ _ v. act_all W f cs v)

-- a call as a statement, with a result or without
abbrev pub perform : World → Calls → Frame → TypedExpression → Work → Got (Option Value)
perform W C f (Call at object c n args) w =
    and_then (evaluate W C f object w) (λ x v. and_then (evaluate_all W C f args v) (λ xs u. call_on W C at c n x xs u))
perform W C f _ w = Stops Wrong w

-- behind something the next statement follows
abbrev pub goes_on : {A : Type 0} → Frame → Got A → Got Flow
goes_on f g = and_then g (λ _ v. Gives (Goes f) v)

abbrev pub if_goes : (Frame → Work → Got Flow) → Flow → Work → Got Flow
if_goes go (Goes f) w = go f w
if_goes go (Returns result) w = Gives (Returns result) w
if_goes go Leaves w = Gives Leaves w

-- A round of a `while`: the condition; where it is true one turn, the body, and what comes again.
abbrev pub round : Place → (Frame → Work → Got Value) → (Frame → Work → Got Flow) → (Frame → Work → Got Flow) → Frame → Work → Got Flow
round at test body again f w =
    and_then (test f w) (λ x v.
    choose x (λ u. and_then (turn at u) (λ _ t. and_then (body f t) (λ flow s. if_goes again flow s))) (Gives (Goes f)) v)

-- The rounds of a `while` where at most so many turns are left. Each round takes a turn, so the last one finds none and faults,
-- and the dead end behind it is never reached.
abbrev pub loop : ℕ → Place → (Frame → Work → Got Value) → (Frame → Work → Got Flow) → Frame → Work → Got Flow
loop zero at test body = round at test body (λ f w. Stops Wrong w)
loop (suc n) at test body = round at test body (loop n at test body)

abbrev pub set_slot : Frame → ℕ → Value → Frame
set_slot f slot x = record f { slots = slice_set f.slots slot x }

abbrev pub set_tag : Frame → ℕ → TagRef → Frame
set_tag f variable t = record f { tags = slice_set f.tags variable t }

abbrev pub write_cell : Reached → ℕ → Value → Work → Got (Unit {0})
write_cell o n x w = write o.object (record o.body { cells = slice_set o.body.cells n x }) w

abbrev pub assert_true : Place → Value → Work → Got (Unit {0})
assert_true at x w = choose x (Gives tt) (faults fault.Assert at) w

abbrev mutual
  -- A statement, where calls do this, and a loop has at most so many rounds.
  pub execute : World → Calls → ℕ → Frame → TypedStatement → Work → Got Flow
  execute W C n f (Set slot e) w = and_then (evaluate W C f e w) (λ x v. Gives (Goes (set_slot f slot x)) v)
  execute W C n f (NewTag at variable tag_type) w =
      and_then (make_instance at tag_type w) (λ i v. Gives (Goes (set_tag f variable (tag.New i))) v)
  -- the object, the value, the test for `null`, the touch, the write
  execute W C n f (SetField at object field e) w =
      and_then (evaluate W C f object w) (λ x v.
      and_then (evaluate W C f e v) (λ y u.
      and_then (reach W.look at x u) (λ o t. goes_on f (write_cell o field y t))))
  -- the array, the index, the value, the test for `null`, the touch, the bounds, the write
  execute W C n f (SetElem at array index e) w =
      and_then (evaluate W C f array w) (λ x v.
      and_then (evaluate W C f index v) (λ i u.
      and_then (evaluate W C f e u) (λ y t.
      and_then (reach W.look at x t) (λ o s.
      and_then (index_in at o.body i s) (λ k r. goes_on f (write_cell o k y r))))))
  execute W C n f (Drop e) w = goes_on f (evaluate W C f e w)
  execute W C n f (Perform e) w = goes_on f (perform W C f e w)
  execute W C n f (If test body other) w =
      and_then (evaluate W C f test w) (λ x v. choose x (execute_all W C n f body) (execute_all W C n f other) v)
  execute W C n f (While at test body) w = loop n at (λ g v. evaluate W C g test v) (λ g v. execute_all W C n g body v) f w
  execute W C n f (Return None) w = Gives (Returns None) w
  execute W C n f (Return (Some e)) w = and_then (evaluate W C f e w) (λ x v. Gives (Returns (Some x)) v)
  execute W C n f (Print at parts) w = goes_on f (print_parts W C f at parts w)
  execute W C n f (Assert at e) w = and_then (evaluate W C f e w) (λ x v. goes_on f (assert_true at x v))
  execute W C n f (Exit changes) w = and_then (act_all W f changes w) (λ _ v. Gives Leaves v)
  execute W C n f (Block body) w = execute_all W C n f body w

  -- statements in order, up to one that leaves
  pub execute_all : World → Calls → ℕ → Frame → TypedStatements → Work → Got Flow
  execute_all W C n f Nothing w = Gives (Goes f) w
  execute_all W C n f (Then front last) w =
      and_then (execute_all W C n f front w) (λ flow v. if_goes (λ g u. execute W C n g last u) flow v)

-- A method that runs off its end returns.
abbrev pub returned : Flow → Work → Got (Option Value)
returned (Goes f) w = Gives None w
returned (Returns result) w = Gives result w
returned Leaves w = Stops Wrong w

-- The first slots are `this` and the arguments, and the others 0 until they are set.
abbrev pub method_frame : TypedMethod → List Value → Frame
method_frame m xs = record { slots = xs ++ replicate (m.locals - length xs) (value.Int (pos 0)); tags = [] }

-- What calls do within so many others, where at most so many turns are left: a turn and the depth, then the body, for which
-- one turn less is left. Where none is left the turn faults, and the dead end behind it is never reached.
abbrev pub calls : World → ℕ → ℕ → Calls
calls W zero depth at m xs w = and_then (enter at depth w) (λ _ v. Stops Wrong v)
calls W (suc n) depth at m xs w =
    and_then (enter at depth w) (λ _ v.
    and_then (execute_all W (calls W n (depth + 1)) n (method_frame m xs) m.body v) returned)

-- an invocation has so many turns
unfoldable pub most_turns : ℕ
most_turns = 1000000

-- The first slots of a task are its parameters, and its first tag variables those that the parameters bind.
abbrev pub task_frame : TypedTask → Invocation → Frame
task_frame t v = record {
  slots = map value.Old v.objects ++ replicate (t.locals - length v.objects) (value.Int (pos 0));
  tags = map tag.Old v.tags ++ replicate (t.tags - length v.tags) (tag.New 0);
}

-- the body of a task
abbrev pub execute_task : World → TypedTask → Invocation → Work → Got Flow
execute_task W t v w = execute_all W (calls W most_turns 0) most_turns (task_frame t v) t.body w
