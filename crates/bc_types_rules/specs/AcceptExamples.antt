-- Worked examples of checking: accepted programs, and the limits. A place is a column of the one line that the text has.
use Rattle.std.specs.Prelude.{ℕ, Bool, zero, suc, true, false, pos, codes, List, [], ◌∷◌, Some, None}
use Rattle.bc_data.specs.SourceTree.{Sequence, Empty, More, Member, Expression, Expressions, Statement, Truth, Two, If, IfElse, While, Print, ValueItem, Field, Arg, NoArg, Make, FlagTruth, FlagIs, ChangeOf, Statements, Nothing, Then, Assign, Block, Exit, MakeDo, ReturnValue, This, MethodOf, FlagMember, FieldMember, MethodMember, MakerMember, Param, ParamOf, Item, ClassItem, TaskItem}
use Rattle.bc_data.specs.declared.tree.Formal.{Formal}
use Rattle.bc_data.specs.declared.tree.ActionText.{ActionText}
use Rattle.bc_data.specs.declared.tree.ActionText.TheVariants as action
use Rattle.bc_data.specs.declared.program.Op.{Op}
use Rattle.bc_data.specs.declared.program.Op.TheVariants as op
use Rattle.bc_data.specs.declared.program.Shape.TheVariants as shape
use Rattle.bc_data.specs.declared.program.Change.TheVariants as change
use Rattle.bc_data.specs.declared.program.Tweak.TheVariants as tweak
use Rattle.bc_data.specs.Startup.{startup_class}
use Rattle.bc_types_rules.specs.Got.{Gives, Fails, TooMany, NoReturn}
use Rattle.bc_data.specs.Typed as typed
use Rattle.bc_data.specs.Typed.{TypedMethod, TypedClass, TypedTask, TypedProgram, TypedStatements}
use Rattle.bc_types_rules.specs.NumberingExamples.{place, named, one, two}
use Rattle.bc_types_rules.specs.CheckExamples.{name, number, int_at, first, let_int, let_tag, in_task, in_tagged_task, bind, startup_param, with_params}
use Rattle.bc_types_rules.specs.Walk.{check, Accepts, HasTypeFault}

-- class A { flag f; int v; A(int v) { this.v = v; } int get() { return this.v; } }
abbrev pub class_with_all : Item
class_with_all = ClassItem (named (codes "A") 7) (More (More (two (FlagMember (named (codes "f") 16)) (FieldMember (record { kind = int_at 19; name = named (codes "v") 23 }))) (MakerMember (MethodOf None (named (codes "A") 26) (one (record { kind = int_at 28; name = named (codes "v") 32 })) (first (Assign (Field (place 41) (This (place 37)) (named (codes "v") 42)) (name (codes "v") 46)))))) (MethodMember (MethodOf (Some (int_at 51)) (named (codes "get") 55) Empty (first (ReturnValue (place 63) (Field (place 74) (This (place 70)) (named (codes "v") 75)))))))

-- task t(StartupObject s in initialstate) { new A(1){f := true}; taskexit(s: initialstate := false); } behind the class
abbrev pub task_that_makes : Item
task_that_makes = TaskItem (place 82) (named (codes "t") 87) (one (ParamOf (named (codes "StartupObject") 89) (named (codes "s") 103) (FlagIs (named (codes "initialstate") 108)) Empty)) (Then (first (MakeDo (Make (place 124) (named (codes "A") 128) (Arg NoArg (number 1 130)) (one (action.Flag (named (codes "f") 133) true))))) (Exit (place 145) (one (ChangeOf (named (codes "s") 154) (one (action.Flag (named (codes "initialstate") 157) false))))))

abbrev pub first_typed : typed.TypedStatement → TypedStatements
first_typed x = typed.Then typed.Nothing x

abbrev pub typed_class : TypedClass
typed_class = record {
  name = codes "A";
  flags = codes "f" ∷ [];
  fields = record { name = codes "v"; shape = shape.Int } ∷ [];
  maker = Some (record { name = codes "A"; formals = shape.Int ∷ []; locals = 2; result = None; body = first_typed (typed.SetField (place 41) (typed.Local 0) 0 (typed.Local 1)) });
  methods = record { name = codes "get"; formals = []; locals = 1; result = Some shape.Int; body = first_typed (typed.Return (Some (typed.FieldOf (place 74) (typed.Local 0) 0))) } ∷ [];
}

abbrev pub typed_task : TypedTask
typed_task = record {
  name = codes "t";
  at = place 82;
  params = record { class = 0; guard = typed.FlagIs 0; binds = [] } ∷ [];
  variables = [];
  locals = 1;
  tags = 0;
  body = typed.Then (first_typed (typed.Drop (typed.Make (place 124) 1 (typed.Arg typed.NoArg (typed.Int (pos 1))) (tweak.Flag 0 true ∷ [])))) (typed.Exit (change.Flag 0 0 false ∷ []));
}

-- a program with this task of the startup object alone
abbrev pub with_task : TypedStatements → ℕ → ℕ → TypedProgram
with_task body locals tags = record {
  classes = startup_class ∷ [];
  tag_types = [];
  tasks = record { name = codes "t"; at = place 1; params = record { class = 0; guard = typed.FlagIs 0; binds = [] } ∷ []; variables = []; locals = locals; tags = tags; body = body } ∷ [];
}

-- { int x = 1; } so many times, each as if it stood at column 43
abbrev pub blocks : ℕ → Statements
blocks zero = Nothing
blocks (suc n) = Then (blocks n) (Block (place 43) (first (let_int 45 (codes "x") 49 (number 1 53))))

abbrev pub param_named : List ℕ → ℕ → Param
param_named x column = ParamOf (named (codes "StartupObject") 30) (named x column) (FlagTruth true) Empty

abbrev pub params_named : List (List ℕ) → Sequence Param
params_named [] = Empty
params_named (x ∷ xs) = More (params_named xs) (param_named x 44)

abbrev pub formals_named : List (List ℕ) → Sequence Formal
formals_named [] = Empty
formals_named (x ∷ xs) = More (formals_named xs) (record { kind = int_at 18; name = named x 22 })

abbrev pub sixteen : List (List ℕ)
sixteen = codes "a" ∷ codes "b" ∷ codes "c" ∷ codes "d" ∷ codes "e" ∷ codes "f" ∷ codes "g" ∷ codes "h" ∷ codes "i" ∷ codes "j" ∷ codes "k" ∷ codes "l" ∷ codes "m" ∷ codes "n" ∷ codes "o" ∷ codes "p" ∷ []

-- class A { void m(..) { } }
abbrev pub with_formals : Sequence Formal → Sequence Item
with_formals formals = one (ClassItem (named (codes "A") 7) (one (MethodMember (MethodOf None (named (codes "m") 16) formals Nothing))))

-- a task's parameter whose guard is one flag
abbrev pub param_in : List ℕ → List ℕ → List ℕ → Param
param_in class x flag_name = ParamOf (named class 1) (named x 1) (FlagIs (named flag_name 1)) Empty

abbrev pub startup_in : Sequence Param
startup_in = one (param_in (codes "StartupObject") (codes "s") (codes "initialstate"))

abbrev pub task_named : List ℕ → Sequence Param → Statements → Item
task_named x params body = TaskItem (place 1) (named x 1) params body

abbrev pub flag_named : List ℕ → Member
flag_named x = FlagMember (named x 1)

abbrev pub int_named : List ℕ → Member
int_named x = FieldMember (record { kind = int_at 1; name = named x 1 })

abbrev pub var : List ℕ → Expression
var x = name x 1

abbrev pub num : ℕ → Expression
num n = number n 1

abbrev pub field : Expression → List ℕ → Expression
field e x = Field (place 1) e (named x 1)

abbrev pub two_by : Op → Expression → Expression → Expression
two_by op a b = Two (place 1) op a b

abbrev pub sets : List ℕ → Bool → ActionText
sets x b = action.Flag (named x 1) b

-- taskexit(x: f := b);
abbrev pub exit_with : List ℕ → List ℕ → Bool → Statement
exit_with x f b = Exit (place 1) (one (ChangeOf (named x 1) (one (sets f b))))

abbrev pub leave_startup : Statement
leave_startup = exit_with (codes "s") (codes "initialstate") false

abbrev pub make : List ℕ → Expressions → Sequence ActionText → Statement
make x args tweaks = MakeDo (Make (place 1) (named x 1) args tweaks)

abbrev pub print_one : Expression → Statement
print_one e = Print (place 1) (one (ValueItem e))

-- class Cell { flag on; flag off; int d; }
-- task startup(StartupObject s in initialstate) { new Cell(){on := true, off := true}; taskexit(s: initialstate := false); }
-- task bad(Cell c in on) { print(8 / c.d); taskexit(c: on := false); }
-- task fix(Cell c in off) { c.d = 2; taskexit(c: off := false); }
abbrev pub cell_items : Sequence Item
cell_items =
    More (More (two
    (ClassItem (named (codes "Cell") 1) (More (two (flag_named (codes "on")) (flag_named (codes "off"))) (int_named (codes "d"))))
    (task_named (codes "startup") startup_in (Then (first (make (codes "Cell") NoArg (two (sets (codes "on") true) (sets (codes "off") true)))) leave_startup)))
    (task_named (codes "bad") (one (param_in (codes "Cell") (codes "c") (codes "on"))) (Then (first (print_one (two_by op.Div (num 8) (field (var (codes "c")) (codes "d"))))) (exit_with (codes "c") (codes "on") false))))
    (task_named (codes "fix") (one (param_in (codes "Cell") (codes "c") (codes "off"))) (Then (first (Assign (field (var (codes "c")) (codes "d")) (num 2))) (exit_with (codes "c") (codes "off") false)))

-- x = x + e;
abbrev pub add_to : Expression → Expression → Statement
add_to x e = Assign x (two_by op.Add x e)

-- class Item { flag fresh; flag done; int value; Item(int v) { this.value = v; } }
-- class Total { flag gathering; int seen; int sum; }
-- task startup(StartupObject s in initialstate) {
--   int i = 0; while (i < 9) { new Item(i){fresh := true}; i = i + 1; } new Total(){gathering := true}; taskexit(s: initialstate := false); }
-- task gather(Item x in done, Total t in gathering) {
--   t.seen = t.seen + 1; t.sum = t.sum + x.value;
--   if (t.seen == 9) { print(t.sum); taskexit(x: done := false; t: gathering := false); } taskexit(x: done := false); }
abbrev pub sum_items : Sequence Item
sum_items =
    More (More (two
    (ClassItem (named (codes "Item") 1) (More (More (two (flag_named (codes "fresh")) (flag_named (codes "done"))) (int_named (codes "value"))) (MakerMember (MethodOf None (named (codes "Item") 1) (one (record { kind = int_at 1; name = named (codes "v") 1 })) (first (Assign (field (This (place 1)) (codes "value")) (var (codes "v"))))))))
    (ClassItem (named (codes "Total") 1) (More (two (flag_named (codes "gathering")) (int_named (codes "seen"))) (int_named (codes "sum")))))
    (task_named (codes "startup") startup_in (Then (Then (Then (first (let_int 1 (codes "i") 1 (num 0))) (While (place 1) (two_by op.Less (var (codes "i")) (num 9)) (Then (first (make (codes "Item") (Arg NoArg (var (codes "i"))) (one (sets (codes "fresh") true)))) (add_to (var (codes "i")) (num 1))))) (make (codes "Total") NoArg (one (sets (codes "gathering") true)))) leave_startup)))
    (task_named (codes "gather") (two (param_in (codes "Item") (codes "x") (codes "done")) (param_in (codes "Total") (codes "t") (codes "gathering"))) (Then (Then (Then (first (add_to (field (var (codes "t")) (codes "seen")) (num 1))) (add_to (field (var (codes "t")) (codes "sum")) (field (var (codes "x")) (codes "value")))) (If (place 1) (two_by op.Same (field (var (codes "t")) (codes "seen")) (num 9)) (Then (first (print_one (field (var (codes "t")) (codes "sum")))) (Exit (place 1) (two (ChangeOf (named (codes "x") 1) (one (sets (codes "done") false))) (ChangeOf (named (codes "t") 1) (one (sets (codes "gathering") false)))))))) (exit_with (codes "x") (codes "done") false)))

-- the items are accepted
abbrev pub IsAccepted : Sequence Item → Type 0
IsAccepted items = elim (check items) [ Gives p ↦ Unit {0} | Fails kind at ↦ ⊥ ]

-- class A { int m() { .. } }, whose body begins at column 21
abbrev pub with_result : Statements → Sequence Item
with_result body = one (ClassItem (named (codes "A") 7) (one (MethodMember (MethodOf (Some (int_at 11)) (named (codes "m") 15) Empty body))))

abbrev pub return_one : Statement
return_one = ReturnValue (place 1) (num 1)

-- if (true) { .. } else { .. }
abbrev pub either : Statements → Statements → Statement
either a b = IfElse (place 1) (Truth (place 1) true) a b

-- what bodies surely leave
pub record LeavingExamples : Type 0 where
  pub both : IsAccepted (with_result (first (either (first return_one) (first return_one))))
  pub one_alone : HasTypeFault (with_result (first (either (first return_one) Nothing))) NoReturn (place 15)
  pub block : IsAccepted (with_result (first (Block (place 1) (first return_one))))
  pub loop : HasTypeFault (with_result (first (While (place 1) (Truth (place 1) true) (first return_one)))) NoReturn (place 15)
  pub code_behind : IsAccepted (with_result (Then (first return_one) return_one))
  pub declaration_behind : HasTypeFault (with_result (Then (first return_one) (let_int 1 (codes "x") 1 (num 2)))) NoReturn (place 15)
  pub nothing : HasTypeFault (with_result Nothing) NoReturn (place 15)

pub record AcceptExamples : Type 0 where
  pub cells : IsAccepted cell_items
  pub sums : IsAccepted sum_items
  -- tag t = new tag(T); int x = 1; a tag variable takes no slot
  pub tag_variable :
      Accepts (in_tagged_task (Then (first (let_tag 54 (codes "t") 58 (codes "T") 70)) (let_int 74 (codes "x") 78 (number 1 82))))
      (record {
        classes = startup_class ∷ [];
        tag_types = codes "T" ∷ [];
        tasks = record { name = codes "u"; at = place 12; params = record { class = 0; guard = typed.FlagIs 0; binds = [] } ∷ []; variables = []; locals = 2; tags = 1; body = typed.Then (first_typed (typed.NewTag (place 54) 0 0)) (typed.Set 1 (typed.Int (pos 1))) } ∷ [];
      })
  -- with T a and T b, and then with T b: one variable is used again
  pub used_again :
      Accepts (with_params (two (startup_param (two (bind (codes "T") 67 (codes "a") 69) (bind (codes "U") 75 (codes "b") 77))) (ParamOf (named (codes "StartupObject") 80) (named (codes "r") 94) (FlagTruth true) (one (bind (codes "U") 110 (codes "b") 112)))))
      (record {
        classes = startup_class ∷ [];
        tag_types = codes "T" ∷ codes "U" ∷ [];
        tasks = record { name = codes "u"; at = place 23; params = record { class = 0; guard = typed.FlagIs 0; binds = 0 ∷ 1 ∷ [] } ∷ record { class = 0; guard = typed.FlagTruth true; binds = 1 ∷ [] } ∷ []; variables = 0 ∷ 1 ∷ []; locals = 2; tags = 2; body = typed.Nothing } ∷ [];
      })
  pub class_and_task : Accepts (two class_with_all task_that_makes) (record { classes = startup_class ∷ typed_class ∷ []; tag_types = []; tasks = typed_task ∷ [] })
  -- no items
  pub nothing : Accepts Empty (record { classes = startup_class ∷ []; tag_types = []; tasks = [] })
  -- { int x = 1; } int x = 2; the slot of an ended block isn't used again
  pub slots :
      Accepts (in_task (Then (first (Block (place 43) (first (let_int 45 (codes "x") 49 (number 1 53))))) (let_int 58 (codes "x") 62 (number 2 66))))
      (with_task (typed.Then (first_typed (typed.Block (first_typed (typed.Set 1 (typed.Int (pos 1)))))) (typed.Set 2 (typed.Int (pos 2)))) 3 0)

pub record LimitExamples : Type 0 where
  -- five parameters of a task
  pub params : HasTypeFault (with_params (More (params_named (codes "a" ∷ codes "b" ∷ codes "c" ∷ codes "d" ∷ [])) (param_named (codes "e") 46))) TooMany (place 46)
  -- five tag variables
  pub tag_variables : HasTypeFault (with_params (one (startup_param (More (More (More (two (bind (codes "T") 67 (codes "a") 69) (bind (codes "T") 75 (codes "b") 77)) (bind (codes "T") 83 (codes "c") 85)) (bind (codes "T") 91 (codes "d") 93)) (bind (codes "T") 99 (codes "e") 101))))) TooMany (place 101)
  -- seventeen formals
  pub formals : HasTypeFault (with_formals (More (formals_named sixteen) (record { kind = int_at 24; name = named (codes "q") 28 }))) TooMany (place 28)
  -- the parameter, 255 names of blocks, and one more
  pub names : HasTypeFault (in_task (Then (blocks 255) (let_int 58 (codes "x") 62 (number 1 66)))) TooMany (place 62)
