-- Worked examples of checking: which of two faults is the first. A place is a column of the one line that the text has.
use Rattle.std.specs.Prelude.{ℕ, true, false, pos, codes, List, Some, None}
use Rattle.bc_data.specs.SourceTree.{Sequence, Empty, More, Expression, Int, Truth, Null, This, Var, Field, Length, Call, Make, Array, NoArg, Arg, FlagIs, ValueItem, ChangeOf, Statement, Let, NewTag, Assign, Do, MakeDo, Block, If, Return, ReturnValue, Print, Exit, Statements, Nothing, Then, MethodOf, Member, FlagMember, FieldMember, MethodMember, MakerMember, Param, ParamOf, Item, TagTypeItem, ClassItem, TaskItem}
use Rattle.bc_data.specs.declared.tree.TypeText.{TypeText}
use Rattle.bc_data.specs.declared.tree.Base.TheVariants as base
use Rattle.bc_data.specs.declared.tree.Bind.{Bind}
use Rattle.bc_data.specs.declared.tree.ActionText.TheVariants as action
use Rattle.bc_types_rules.specs.Got.{Twice, Unknown, Mismatch, Arity, Fixed, Misplaced, NoReturn}
use Rattle.bc_types_rules.specs.NumberingExamples.{place, named, one, two}
use Rattle.bc_types_rules.specs.Walk.{HasTypeFault}

abbrev pub name : List ℕ → ℕ → Expression
name x column = Var (named x column)

abbrev pub number : ℕ → ℕ → Expression
number n column = Int (place column) (pos n)

abbrev pub int_at : ℕ → TypeText
int_at column = record { base = base.Int; many = false; at = place column }

abbrev pub class_at : List ℕ → ℕ → TypeText
class_at x column = record { base = base.Class x; many = false; at = place column }

abbrev pub first : Statement → Statements
first x = Then Nothing x

-- int x = n;
abbrev pub let_int : ℕ → List ℕ → ℕ → Expression → Statement
let_int at x column e = Let (record { kind = int_at at; name = named x column }) e

-- task t(StartupObject s in initialstate) { .. }, whose body begins at column 43
abbrev pub in_task : Statements → Sequence Item
in_task body = one (TaskItem (place 1) (named (codes "t") 6) (one (ParamOf (named (codes "StartupObject") 8) (named (codes "s") 22) (FlagIs (named (codes "initialstate") 27)) Empty)) body)

-- class A { .. }, whose member begins at column 11
abbrev pub in_class : Member → Sequence Item
in_class m = one (ClassItem (named (codes "A") 7) (one m))

-- class A { void m() { .. } }, whose body begins at column 22
abbrev pub in_method : Statements → Sequence Item
in_method body = in_class (MethodMember (MethodOf None (named (codes "m") 16) Empty body))

-- class A { A() { .. } }, whose body begins at column 17
abbrev pub in_maker : Statements → Sequence Item
in_maker body = in_class (MakerMember (MethodOf None (named (codes "A") 11) Empty body))

abbrev pub q : ℕ → Expression
q column = name (codes "q") column

-- a call without arguments, and with one
abbrev pub call : ℕ → Expression → List ℕ → ℕ → Expression
call at object x column = Call (place at) object (named x column) NoArg

abbrev pub call_with : ℕ → Expression → List ℕ → ℕ → Expression → Expression
call_with at object x column e = Call (place at) object (named x column) (Arg NoArg e)

-- new tag(..) into a variable
abbrev pub let_tag : ℕ → List ℕ → ℕ → List ℕ → ℕ → Statement
let_tag at x column kind kind_column = NewTag (place at) (named x column) (named kind kind_column)

-- tagtype T; task u(StartupObject s in initialstate) { .. }, whose body begins at column 54
abbrev pub in_tagged_task : Statements → Sequence Item
in_tagged_task body = two (TagTypeItem (named (codes "T") 9)) (TaskItem (place 12) (named (codes "u") 17) (one (ParamOf (named (codes "StartupObject") 19) (named (codes "s") 33) (FlagIs (named (codes "initialstate") 38)) Empty)) body)

abbrev pub bind : List ℕ → ℕ → List ℕ → ℕ → Bind
bind kind kind_column x column = record { tag_type = named kind kind_column; variable = named x column }

-- tagtype T; tagtype U; task u(..) { }, whose parameters begin at column 30
abbrev pub with_params : Sequence Param → Sequence Item
with_params params = More (two (TagTypeItem (named (codes "T") 9)) (TagTypeItem (named (codes "U") 20))) (TaskItem (place 23) (named (codes "u") 28) params Nothing)

-- StartupObject s in initialstate with ..
abbrev pub startup_param : Sequence Bind → Param
startup_param binds = ParamOf (named (codes "StartupObject") 30) (named (codes "s") 44) (FlagIs (named (codes "initialstate") 49)) binds

-- task t(A a in f) { .. } class A { flag f; B b; }, where the body is `a.b .. ;` and the class begins at column 40
abbrev pub before_its_class : Statement → Sequence Item
before_its_class x = two
    (TaskItem (place 1) (named (codes "t") 6) (one (ParamOf (named (codes "A") 8) (named (codes "a") 10) (FlagIs (named (codes "f") 15)) Empty)) (first x))
    (ClassItem (named (codes "A") 46) (two (FlagMember (named (codes "f") 55)) (FieldMember (record { kind = class_at (codes "B") 58; name = named (codes "b") 60 }))))

-- a.b
abbrev pub a_b : Expression
a_b = Field (place 21) (name (codes "a") 20) (named (codes "b") 22)

-- The children of a node come from left to right, and then the node.
pub record OrderExamples : Type 0 where
  -- if (1) { q = 1; }
  pub condition : HasTypeFault (in_task (first (If (place 43) (number 1 47) (first (Assign (q 52) (number 1 56)))))) Unknown (place 52)
  -- if (1) { }
  pub condition_alone : HasTypeFault (in_task (first (If (place 43) (number 1 47) Nothing))) Mismatch (place 47)
  -- print(null, q);
  pub items : HasTypeFault (in_task (first (Print (place 43) (two (ValueItem (Null (place 49))) (ValueItem (q 55)))))) Unknown (place 55)
  -- print(null);
  pub item_alone : HasTypeFault (in_task (first (Print (place 43) (one (ValueItem (Null (place 49))))))) Mismatch (place 49)
  -- new B(q);
  pub made : HasTypeFault (in_task (first (MakeDo (Make (place 43) (named (codes "B") 47) (Arg NoArg (q 49)) Empty)))) Unknown (place 49)
  -- new B();
  pub made_alone : HasTypeFault (in_task (first (MakeDo (Make (place 43) (named (codes "B") 47) NoArg Empty)))) Unknown (place 47)
  -- print(new B[q]);
  pub array : HasTypeFault (in_task (first (Print (place 43) (one (ValueItem (Array (place 49) (class_at (codes "B") 53) (q 55))))))) Unknown (place 55)
  -- this.n(q);
  pub method : HasTypeFault (in_method (first (Do (call_with 26 (This (place 22)) (codes "n") 27 (q 29))))) Unknown (place 29)
  -- this.n();
  pub method_alone : HasTypeFault (in_method (first (Do (call 26 (This (place 22)) (codes "n") 27)))) Unknown (place 27)
  -- int x = 1; x.n(q);
  pub object : HasTypeFault (in_task (Then (first (let_int 43 (codes "x") 47 (number 1 51))) (Do (call_with 55 (name (codes "x") 54) (codes "n") 56 (q 58))))) Unknown (place 58)
  -- int x = 1; x.n();
  pub object_alone : HasTypeFault (in_task (Then (first (let_int 43 (codes "x") 47 (number 1 51))) (Do (call 55 (name (codes "x") 54) (codes "n") 56)))) Mismatch (place 55)
  -- return q; and then return 1; in a task, a constructor and a method without a result
  pub return_in_task : HasTypeFault (in_task (first (ReturnValue (place 43) (q 50)))) Unknown (place 50)
  pub return_in_task_alone : HasTypeFault (in_task (first (ReturnValue (place 43) (number 1 50)))) Misplaced (place 43)
  pub return_in_maker : HasTypeFault (in_maker (first (ReturnValue (place 17) (q 24)))) Unknown (place 24)
  pub return_in_maker_alone : HasTypeFault (in_maker (first (ReturnValue (place 17) (number 1 24)))) Misplaced (place 17)
  pub return_in_method : HasTypeFault (in_method (first (ReturnValue (place 22) (q 29)))) Unknown (place 29)
  pub return_in_method_alone : HasTypeFault (in_method (first (ReturnValue (place 22) (number 1 29)))) Misplaced (place 22)
  -- return;
  pub return_nothing_in_task : HasTypeFault (in_task (first (Return (place 43)))) Misplaced (place 43)
  -- s = q; s = null;
  pub parameter : HasTypeFault (in_task (first (Assign (name (codes "s") 43) (q 47)))) Unknown (place 47)
  pub parameter_alone : HasTypeFault (in_task (first (Assign (name (codes "s") 43) (Null (place 47))))) Fixed (place 43)
  -- tag t = new tag(T); t = q;
  pub tag_variable : HasTypeFault (in_tagged_task (Then (first (let_tag 54 (codes "t") 58 (codes "T") 70)) (Assign (name (codes "t") 74) (q 78)))) Mismatch (place 74)
  -- int a = 1; int a = true;
  pub declared : HasTypeFault (in_task (Then (first (let_int 43 (codes "a") 47 (number 1 51))) (let_int 54 (codes "a") 58 (Truth (place 62) true)))) Twice (place 58)
  -- int a = true;
  pub declared_alone : HasTypeFault (in_task (first (let_int 43 (codes "a") 47 (Truth (place 51) true)))) Mismatch (place 51)
  -- return this.m();
  pub no_value : HasTypeFault (in_method (first (ReturnValue (place 22) (call 33 (This (place 29)) (codes "m") 34)))) Mismatch (place 33)
  -- class A { B(C x) { } }
  pub maker_name : HasTypeFault (in_class (MakerMember (MethodOf None (named (codes "B") 11) (one (record { kind = class_at (codes "C") 13; name = named (codes "x") 15 })) Nothing))) Unknown (place 11)
  -- with T a and U a
  pub two_binds : HasTypeFault (with_params (one (startup_param (two (bind (codes "T") 67 (codes "a") 69) (bind (codes "U") 75 (codes "a") 77))))) Twice (place 77)
  -- taskexit(q: f := true);
  pub exit_in_method : HasTypeFault (in_method (first (Exit (place 22) (one (ChangeOf (named (codes "q") 31) (one (action.Flag (named (codes "f") 34) true))))))) Misplaced (place 22)
  -- tag a = new tag(T);
  pub tag_in_method : HasTypeFault (in_method (first (let_tag 22 (codes "a") 26 (codes "T") 38))) Misplaced (place 22)

-- Single faults, and where they stand.
pub record FaultExamples : Type 0 where
  -- x = 1;
  pub no_name : HasTypeFault (in_task (first (Assign (name (codes "x") 43) (number 1 47)))) Unknown (place 43)
  -- { int x = 1; } x = 1;
  pub behind_its_block : HasTypeFault (in_task (Then (first (Block (place 43) (first (let_int 45 (codes "x") 49 (number 1 53))))) (Assign (name (codes "x") 58) (number 1 62)))) Unknown (place 58)
  -- int x = x;
  pub in_its_value : HasTypeFault (in_task (first (let_int 43 (codes "x") 47 (name (codes "x") 51)))) Unknown (place 51)
  -- this.n();
  pub this_in_task : HasTypeFault (in_task (first (Do (call 47 (This (place 43)) (codes "n") 48)))) Misplaced (place 43)
  -- class C { int m() { if (true) { return 1; } } }
  pub no_return : HasTypeFault (in_class (MethodMember (MethodOf (Some (int_at 11)) (named (codes "m") 15) Empty (first (If (place 21) (Truth (place 25) true) (first (ReturnValue (place 33) (number 1 40)))))))) NoReturn (place 15)
  -- class A { int m() { return; } }
  pub no_result : HasTypeFault (in_class (MethodMember (MethodOf (Some (int_at 11)) (named (codes "m") 15) Empty (first (Return (place 21)))))) Mismatch (place 21)
  -- print(s.length);
  pub no_array : HasTypeFault (in_task (first (Print (place 43) (one (ValueItem (Length (place 50) (name (codes "s") 49))))))) Mismatch (place 50)
  -- new StartupObject(1);
  pub one_argument : HasTypeFault (in_task (first (MakeDo (Make (place 43) (named (codes "StartupObject") 47) (Arg NoArg (number 1 61)) Empty)))) Arity (place 43)
  -- new StartupObject(){done := true};
  pub no_flag : HasTypeFault (in_task (first (MakeDo (Make (place 43) (named (codes "StartupObject") 47) NoArg (one (action.Flag (named (codes "done") 63) true)))))) Unknown (place 63)
  -- int x = 1; new StartupObject(){add x};
  pub add_a_slot : HasTypeFault (in_task (Then (first (let_int 43 (codes "x") 47 (number 1 51))) (MakeDo (Make (place 54) (named (codes "StartupObject") 58) NoArg (one (action.Add (place 74) (named (codes "x") 78))))))) Mismatch (place 78)
  -- int q = 1; taskexit(q: initialstate := false);
  pub exit_a_local : HasTypeFault (in_task (Then (first (let_int 43 (codes "q") 47 (number 1 51))) (Exit (place 54) (one (ChangeOf (named (codes "q") 63) (one (action.Flag (named (codes "initialstate") 66) false))))))) Unknown (place 63)
  -- taskexit(s: initialstate := false; s: initialstate := true);
  pub exit_twice : HasTypeFault (in_task (first (Exit (place 43) (two (ChangeOf (named (codes "s") 52) (one (action.Flag (named (codes "initialstate") 55) false))) (ChangeOf (named (codes "s") 78) (one (action.Flag (named (codes "initialstate") 81) true))))))) Twice (place 78)
  -- with T s
  pub bind_a_parameter : HasTypeFault (with_params (one (startup_param (one (bind (codes "T") 67 (codes "s") 69))))) Twice (place 69)
  -- StartupObject s in initialstate with T a, StartupObject r in initialstate with U a
  pub bind_another_type : HasTypeFault (with_params (two (startup_param (one (bind (codes "T") 67 (codes "a") 69))) (ParamOf (named (codes "StartupObject") 72) (named (codes "r") 86) (FlagIs (named (codes "initialstate") 91)) (one (bind (codes "U") 109 (codes "a") 111))))) Mismatch (place 111)
  -- a.b = null; where the class of `b` isn't declared: its name is refused where the walk meets it
  pub undeclared : HasTypeFault (before_its_class (Assign a_b (Null (place 26)))) Unknown (place 58)
  -- a.b.c = 1;
  pub undeclared_member : HasTypeFault (before_its_class (Assign (Field (place 23) a_b (named (codes "c") 24)) (number 1 28))) Unknown (place 24)
  -- a.b = a;
  pub undeclared_other : HasTypeFault (before_its_class (Assign a_b (name (codes "a") 26))) Mismatch (place 26)
