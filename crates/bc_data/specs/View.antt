-- The trees of the code, without where they lie in memory.
use Rattle.std.specs.Prelude.{List, [], ◌∷◌, Some, None}
use Rattle.bc_data.specs.SourceTree.{Sequence, Empty, More, Expression, Int, Truth, Null, This, Var, Group, Neg, Not, Two, Field, Length, Elem, Call, Make, Array, Expressions, NoArg, Arg, GuardOp, AndOp, OrOp, Guard, FlagIs, FlagTruth, FlagNot, FlagTwo, FlagGroup, PrintItem, TextItem, ValueItem, Change, ChangeOf, Statement, Let, NewTag, Assign, Do, MakeDo, Block, If, IfElse, While, Return, ReturnValue, Print, Assert, Exit, Statements, Nothing, Then, Method, MethodOf, FlagMember, FieldMember, MethodMember, MakerMember, Param, ParamOf, TagTypeItem, ClassItem, TaskItem}
use Rattle.bc_data.specs.declared.run.Place.{Place}
use Rattle.bc_data.specs.declared.tree.ExprText.{ExprText, Row_of-ExprText, end_of-ExprText, more_of-ExprText}
use Rattle.bc_data.specs.declared.tree.ExprText.TheVariants as expr
use Rattle.bc_data.specs.declared.tree.StatText.{StatText, Row_of-StatText, end_of-StatText, more_of-StatText, Held-StatText-If-3, None', Some'}
use Rattle.bc_data.specs.declared.tree.StatText.TheVariants as stat
use Rattle.bc_data.specs.declared.tree.FlagText.{FlagText}
use Rattle.bc_data.specs.declared.tree.FlagText.TheVariants as flag
use Rattle.bc_data.specs.declared.tree.ItemText.{ItemText}
use Rattle.bc_data.specs.declared.tree.ItemText.TheVariants as item
use Rattle.bc_data.specs.declared.tree.ChangeText.{ChangeText}
use Rattle.bc_data.specs.declared.tree.MethodText.{MethodText}
use Rattle.bc_data.specs.declared.tree.Member.{Member}
use Rattle.bc_data.specs.declared.tree.Member.TheVariants as member
use Rattle.bc_data.specs.declared.tree.ParamText.{ParamText}
use Rattle.bc_data.specs.declared.tree.Item.{Item}
use Rattle.bc_data.specs.declared.tree.Item.TheVariants as text_item
use Rattle.bc_data.specs.declared.tree.Tree.{Tree}
use Rattle.bc_data.specs.SourceTree as source

-- the elements of a list behind those that stand before
abbrev pub onto : {A : Type 0} → List A → Sequence A → Sequence A
onto [] front = front
onto (x ∷ xs) front = onto xs (More front x)

abbrev mutual
  pub view : ExprText → Expression
  view (expr.Int at n) = Int at n
  view (expr.Truth at b) = Truth at b
  view (expr.Null at) = Null at
  view (expr.This at) = This at
  view (expr.Name x) = Var x
  view (expr.Group' at p e) = Group at (view e)
  view (expr.Neg' at p e) = Neg at (view e)
  view (expr.Not' at p e) = Not at (view e)
  view (expr.Two' at op p a q b) = Two at op (view a) (view b)
  view (expr.Field' at p a x) = Field at (view a) x
  view (expr.Length' at p a) = Length at (view a)
  view (expr.Elem' at p a q i) = Elem at (view a) (view i)
  view (expr.Call' at p a x shape args) = Call at (view a) x (view_onto args NoArg)
  view (expr.Make' at x shape args tweaks) = Make at x (view_onto args NoArg) (onto tweaks.items Empty)
  view (expr.Array' at kind p e) = Array at kind (view e)

  pub view_onto : {m : _} → Row_of-ExprText m → Expressions → Expressions
  view_onto end_of-ExprText front = front
  view_onto (more_of-ExprText e rest) front = view_onto rest (Arg front (view e))

-- the elements of a Vec behind those that stand before
abbrev pub views : List ExprText → Expressions → Expressions
views [] front = front
views (e ∷ es) front = views es (Arg front (view e))

abbrev pub view_item : ItemText → PrintItem
view_item (item.Text meaning) = TextItem meaning
view_item (item.Value e) = ValueItem (view e)

abbrev pub view_change : ChangeText → Change
view_change c = ChangeOf c.param (onto c.actions.items Empty)

abbrev pub onto_by : {A : Type 0} {B : Type 0} → (A → B) → List A → Sequence B → Sequence B
onto_by f [] front = front
onto_by f (x ∷ xs) front = onto_by f xs (More front (f x))

abbrev mutual
  pub view_stat : StatText → Statement
  view_stat (stat.Let x e) = Let x (view e)
  view_stat (stat.Tag at x kind) = NewTag at x kind
  view_stat (stat.Assign target e) = Assign (view target) (view e)
  view_stat (stat.Call call) = Do (view call)
  view_stat (stat.Make made) = MakeDo (view made)
  view_stat (stat.Block' at shape body) = Block at (view_stats_onto body Nothing)
  view_stat (stat.If' at test shape body other) = view_if at (view test) (view_stats_onto body Nothing) other
  view_stat (stat.While' at test shape body) = While at (view test) (view_stats_onto body Nothing)
  view_stat (stat.Return at None) = Return at
  view_stat (stat.Return at (Some e)) = ReturnValue at (view e)
  view_stat (stat.Print at items) = Print at (onto_by view_item items.items Empty)
  view_stat (stat.Assert at e) = Assert at (view e)
  view_stat (stat.Exit at changes) = Exit at (onto_by view_change changes.items Empty)

  pub view_if : Place → Expression → Statements → Held-StatText-If-3 → Statement
  view_if at test body None' = If at test body
  view_if at test body (Some' shape other) = IfElse at test body (view_stats_onto other Nothing)

  pub view_stats_onto : {m : _} → Row_of-StatText m → Statements → Statements
  view_stats_onto end_of-StatText front = front
  view_stats_onto (more_of-StatText s rest) front = view_stats_onto rest (Then front (view_stat s))

abbrev pub stat_views : List StatText → Statements → Statements
stat_views [] front = front
stat_views (s ∷ ss) front = stat_views ss (Then front (view_stat s))

abbrev pub view_guard : FlagText → Guard
view_guard (flag.Flag x) = FlagIs x
view_guard (flag.Truth b) = FlagTruth b
view_guard (flag.Not' p g) = FlagNot (view_guard g)
view_guard (flag.And' p g q h) = FlagTwo AndOp (view_guard g) (view_guard h)
view_guard (flag.Or' p g q h) = FlagTwo OrOp (view_guard g) (view_guard h)
view_guard (flag.Group' p g) = FlagGroup (view_guard g)

abbrev pub view_method : MethodText → Method
view_method m = MethodOf m.result m.name (onto m.formals.items Empty) (stat_views m.body.items Nothing)

abbrev pub view_member : Member → source.Member
view_member (member.Flag x) = FlagMember x
view_member (member.Field x) = FieldMember x
view_member (member.Method m) = MethodMember (view_method m)
view_member (member.Maker m) = MakerMember (view_method m)

abbrev pub view_param : ParamText → Param
view_param p = ParamOf p.class p.name (view_guard p.guard) (onto p.binds.items Empty)

abbrev pub view_text_item : Item → source.Item
view_text_item (text_item.TagType x) = TagTypeItem x
view_text_item (text_item.Class c) = ClassItem c.name (onto_by view_member c.members.items Empty)
view_text_item (text_item.Task t) = TaskItem t.at t.name (onto_by view_param t.params.items Empty) (stat_views t.body.items Nothing)

-- the items of a tree
abbrev pub view_tree : Tree → Sequence source.Item
view_tree t = onto_by view_text_item t.items.items Empty
