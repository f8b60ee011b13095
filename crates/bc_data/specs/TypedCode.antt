-- How the logic stores typed trees: as the lists of their nodes, operands first, which a stack machine reads back.
use Rattle.std.specs.Prelude.{◌≡◌, false, List, [], ◌∷◌, Some, None, refl}
use Rattle.std.proofs.Common.{◌∙◌, ap}
use Rattle.std.specs.Coded.{Coded, code_by, coded_list}
use Rattle.bc_data.specs.Typed as typed
use Rattle.bc_data.specs.TypedNodes.{Node, GuardNode, IntNode, TruthNode, NullNode, LocalNode, NegNode, NotNode, TwoNode, FieldNode, LengthNode, ElemNode, CallNode, MakeNode, ArrayNode, NoArgNode, ArgNode, NoPartNode, TextNode, NumberNode, TruthPartNode, SetNode, NewTagNode, SetFieldNode, SetElemNode, DropNode, PerformNode, IfNode, WhileNode, ReturnNode, ReturnValueNode, PrintNode, AssertNode, ExitNode, BlockNode, NothingNode, ThenNode, FlagNode, TruthFlagNode, NotFlagNode, AndFlagNode, OrFlagNode}
use Rattle.bc_data.specs.TypedCodes.{node_code, guard_node_code}
use Rattle.bc_data.specs.Typed.{TypedExpression, TypedExpressions, NoArg, Arg, TypedPart, TypedStatement, TypedStatements, Nothing, Then, TypedGuard}

-- the trees that were read and not yet taken
record Read : Type 0 where
  es : List TypedExpression
  args : List TypedExpressions
  parts : List (List TypedPart)
  ss : List TypedStatement
  bodies : List TypedStatements

abbrev top : {A : Type 0} → A → List A → A
top x [] = x
top x (y ∷ ys) = y

abbrev off : {A : Type 0} → List A → List A
off [] = []
off (y ∷ ys) = ys

abbrev no : TypedExpression
no = typed.Null

abbrev e1 : Read → TypedExpression
e1 r = top no r.es

abbrev e2 : Read → TypedExpression
e2 r = top no (off r.es)

abbrev e3 : Read → TypedExpression
e3 r = top no (off (off r.es))

abbrev with_e : Read → List TypedExpression → TypedExpression → Read
with_e r es e = record r { es = e ∷ es }

abbrev with_s : Read → List TypedExpression → TypedStatement → Read
with_s r es s = record r { es = es; ss = s ∷ r.ss }

abbrev with_part : Read → List TypedExpression → TypedPart → Read
with_part r es p = record r { es = es; parts = (p ∷ top [] r.parts) ∷ off r.parts }

abbrev step : Node → Read → Read
step (IntNode n) r = with_e r r.es (typed.Int n)
step (TruthNode b) r = with_e r r.es (typed.Truth b)
step NullNode r = with_e r r.es typed.Null
step (LocalNode slot) r = with_e r r.es (typed.Local slot)
step NegNode r = with_e r (off r.es) (typed.Neg (e1 r))
step NotNode r = with_e r (off r.es) (typed.Not (e1 r))
step (TwoNode at op) r = with_e r (off (off r.es)) (typed.Two at op (e2 r) (e1 r))
step (FieldNode at field) r = with_e r (off r.es) (typed.FieldOf at (e1 r) field)
step (LengthNode at) r = with_e r (off r.es) (typed.Length at (e1 r))
step (ElemNode at) r = with_e r (off (off r.es)) (typed.Elem at (e2 r) (e1 r))
step (CallNode at class method) r = record r { es = typed.Call at (e1 r) class method (top NoArg r.args) ∷ off r.es; args = off r.args }
step (MakeNode at class tweaks) r = record r { es = typed.Make at class (top NoArg r.args) tweaks ∷ r.es; args = off r.args }
step (ArrayNode at kind) r = with_e r (off r.es) (typed.Array at kind (e1 r))
step NoArgNode r = record r { args = NoArg ∷ r.args }
step ArgNode r = record r { args = Arg (top NoArg r.args) (e1 r) ∷ off r.args; es = off r.es }
step NoPartNode r = record r { parts = [] ∷ r.parts }
step (TextNode bytes) r = with_part r r.es (typed.TextPart bytes)
step NumberNode r = with_part r (off r.es) (typed.NumberPart (e1 r))
step TruthPartNode r = with_part r (off r.es) (typed.TruthPart (e1 r))
step (SetNode slot) r = with_s r (off r.es) (typed.Set slot (e1 r))
step (NewTagNode at variable tag_type) r = with_s r r.es (typed.NewTag at variable tag_type)
step (SetFieldNode at field) r = with_s r (off (off r.es)) (typed.SetField at (e2 r) field (e1 r))
step (SetElemNode at) r = with_s r (off (off (off r.es))) (typed.SetElem at (e3 r) (e2 r) (e1 r))
step DropNode r = with_s r (off r.es) (typed.Drop (e1 r))
step PerformNode r = with_s r (off r.es) (typed.Perform (e1 r))
step IfNode r = record r { es = off r.es; ss = typed.If (e1 r) (top Nothing (off r.bodies)) (top Nothing r.bodies) ∷ r.ss; bodies = off (off r.bodies) }
step (WhileNode at) r = record r { es = off r.es; ss = typed.While at (e1 r) (top Nothing r.bodies) ∷ r.ss; bodies = off r.bodies }
step ReturnNode r = with_s r r.es (typed.Return None)
step ReturnValueNode r = with_s r (off r.es) (typed.Return (Some (e1 r)))
step (PrintNode at) r = record r { ss = typed.Print at (top [] r.parts) ∷ r.ss; parts = off r.parts }
step (AssertNode at) r = with_s r (off r.es) (typed.Assert at (e1 r))
step (ExitNode changes) r = with_s r r.es (typed.Exit changes)
step BlockNode r = record r { ss = typed.Block (top Nothing r.bodies) ∷ r.ss; bodies = off r.bodies }
step NothingNode r = record r { bodies = Nothing ∷ r.bodies }
step ThenNode r = record r { ss = off r.ss; bodies = Then (top Nothing r.bodies) (top (typed.Exit []) r.ss) ∷ off r.bodies }

abbrev read : List Node → Read → Read
read [] r = r
read (n ∷ ns) r = read ns (step n r)

abbrev mutual
  nodes : TypedExpression → List Node → List Node
  nodes (typed.Int n) k = IntNode n ∷ k
  nodes (typed.Truth b) k = TruthNode b ∷ k
  nodes typed.Null k = NullNode ∷ k
  nodes (typed.Local slot) k = LocalNode slot ∷ k
  nodes (typed.Neg e) k = nodes e (NegNode ∷ k)
  nodes (typed.Not e) k = nodes e (NotNode ∷ k)
  nodes (typed.Two at op a b) k = nodes a (nodes b (TwoNode at op ∷ k))
  nodes (typed.FieldOf at object field) k = nodes object (FieldNode at field ∷ k)
  nodes (typed.Length at array) k = nodes array (LengthNode at ∷ k)
  nodes (typed.Elem at array index) k = nodes array (nodes index (ElemNode at ∷ k))
  nodes (typed.Call at object class method args) k = nodes object (arg_nodes args (CallNode at class method ∷ k))
  nodes (typed.Make at class args tweaks) k = arg_nodes args (MakeNode at class tweaks ∷ k)
  nodes (typed.Array at kind size) k = nodes size (ArrayNode at kind ∷ k)

  arg_nodes : TypedExpressions → List Node → List Node
  arg_nodes NoArg k = NoArgNode ∷ k
  arg_nodes (Arg front last) k = arg_nodes front (nodes last (ArgNode ∷ k))

abbrev part_nodes : List TypedPart → List Node → List Node
part_nodes [] k = NoPartNode ∷ k
part_nodes (typed.TextPart bytes ∷ ps) k = part_nodes ps (TextNode bytes ∷ k)
part_nodes (typed.NumberPart e ∷ ps) k = part_nodes ps (nodes e (NumberNode ∷ k))
part_nodes (typed.TruthPart e ∷ ps) k = part_nodes ps (nodes e (TruthPartNode ∷ k))

abbrev mutual
  stat_nodes : TypedStatement → List Node → List Node
  stat_nodes (typed.Set slot e) k = nodes e (SetNode slot ∷ k)
  stat_nodes (typed.NewTag at variable tag_type) k = NewTagNode at variable tag_type ∷ k
  stat_nodes (typed.SetField at object field e) k = nodes object (nodes e (SetFieldNode at field ∷ k))
  stat_nodes (typed.SetElem at array index e) k = nodes array (nodes index (nodes e (SetElemNode at ∷ k)))
  stat_nodes (typed.Drop e) k = nodes e (DropNode ∷ k)
  stat_nodes (typed.Perform e) k = nodes e (PerformNode ∷ k)
  stat_nodes (typed.If test body other) k = nodes test (body_nodes body (body_nodes other (IfNode ∷ k)))
  stat_nodes (typed.While at test body) k = nodes test (body_nodes body (WhileNode at ∷ k))
  stat_nodes (typed.Return None) k = ReturnNode ∷ k
  stat_nodes (typed.Return (Some e)) k = nodes e (ReturnValueNode ∷ k)
  stat_nodes (typed.Print at parts) k = part_nodes parts (PrintNode at ∷ k)
  stat_nodes (typed.Assert at e) k = nodes e (AssertNode at ∷ k)
  stat_nodes (typed.Exit changes) k = ExitNode changes ∷ k
  stat_nodes (typed.Block body) k = body_nodes body (BlockNode ∷ k)

  body_nodes : TypedStatements → List Node → List Node
  body_nodes Nothing k = NothingNode ∷ k
  body_nodes (Then front last) k = body_nodes front (stat_nodes last (ThenNode ∷ k))

mutual
  read_nodes : (e : TypedExpression) (k : List Node) (r : Read) → read (nodes e k) r ≡ read k (with_e r r.es e)
  read_nodes (typed.Int n) k r = refl
  read_nodes (typed.Truth b) k r = refl
  read_nodes typed.Null k r = refl
  read_nodes (typed.Local slot) k r = refl
  read_nodes (typed.Neg e) k r = read_nodes e _ r
  read_nodes (typed.Not e) k r = read_nodes e _ r
  read_nodes (typed.Two at op a b) k r = read_nodes a _ r ∙ read_nodes b _ _
  read_nodes (typed.FieldOf at object field) k r = read_nodes object _ r
  read_nodes (typed.Length at array) k r = read_nodes array _ r
  read_nodes (typed.Elem at array index) k r = read_nodes array _ r ∙ read_nodes index _ _
  read_nodes (typed.Call at object class method args) k r = read_nodes object _ r ∙ read_args args _ _
  read_nodes (typed.Make at class args tweaks) k r = read_args args _ r
  read_nodes (typed.Array at kind size) k r = read_nodes size _ r

  read_args : (es : TypedExpressions) (k : List Node) (r : Read) → read (arg_nodes es k) r ≡ read k (record r { args = es ∷ r.args })
  read_args NoArg k r = refl
  read_args (Arg front last) k r = read_args front _ r ∙ read_nodes last _ _

read_parts : (ps : List TypedPart) (k : List Node) (r : Read) → read (part_nodes ps k) r ≡ read k (record r { parts = ps ∷ r.parts })
read_parts [] k r = refl
read_parts (typed.TextPart bytes ∷ ps) k r = read_parts ps _ r
read_parts (typed.NumberPart e ∷ ps) k r = read_parts ps _ r ∙ read_nodes e _ _
read_parts (typed.TruthPart e ∷ ps) k r = read_parts ps _ r ∙ read_nodes e _ _

mutual
  read_stat : (s : TypedStatement) (k : List Node) (r : Read) → read (stat_nodes s k) r ≡ read k (with_s r r.es s)
  read_stat (typed.Set slot e) k r = read_nodes e _ r
  read_stat (typed.NewTag at variable tag_type) k r = refl
  read_stat (typed.SetField at object field e) k r = read_nodes object _ r ∙ read_nodes e _ _
  read_stat (typed.SetElem at array index e) k r = read_nodes array _ r ∙ (read_nodes index _ _ ∙ read_nodes e _ _)
  read_stat (typed.Drop e) k r = read_nodes e _ r
  read_stat (typed.Perform e) k r = read_nodes e _ r
  read_stat (typed.If test body other) k r = read_nodes test _ r ∙ (read_body body _ _ ∙ read_body other _ _)
  read_stat (typed.While at test body) k r = read_nodes test _ r ∙ read_body body _ _
  read_stat (typed.Return None) k r = refl
  read_stat (typed.Return (Some e)) k r = read_nodes e _ r
  read_stat (typed.Print at parts) k r = read_parts parts _ r
  read_stat (typed.Assert at e) k r = read_nodes e _ r
  read_stat (typed.Exit changes) k r = refl
  read_stat (typed.Block body) k r = read_body body _ r

  read_body : (ss : TypedStatements) (k : List Node) (r : Read) → read (body_nodes ss k) r ≡ read k (record r { bodies = ss ∷ r.bodies })
  read_body Nothing k r = refl
  read_body (Then front last) k r = read_body front _ r ∙ read_stat last _ _

abbrev nothing_read : Read
nothing_read = record { es = []; args = []; parts = []; ss = []; bodies = [] }

abbrev to_nodes : TypedStatements → List Node
to_nodes ss = body_nodes ss []

abbrev from_nodes : List Node → TypedStatements
from_nodes ns = top Nothing (read ns nothing_read).bodies

pub from_nodes-to_nodes : (ss : TypedStatements) → from_nodes (to_nodes ss) ≡ ss
from_nodes-to_nodes ss = ap (λ (r : Read). top Nothing r.bodies) (read_body ss [] nothing_read)

abbrev pub statements_code : Coded TypedStatements
statements_code = code_by (List Node) (coded_list node_code) to_nodes from_nodes from_nodes-to_nodes

abbrev none : TypedGuard
none = typed.FlagTruth false

abbrev guard_step : GuardNode → List TypedGuard → List TypedGuard
guard_step (FlagNode f) gs = typed.FlagIs f ∷ gs
guard_step (TruthFlagNode b) gs = typed.FlagTruth b ∷ gs
guard_step NotFlagNode gs = typed.FlagNot (top none gs) ∷ off gs
guard_step AndFlagNode gs = typed.FlagAnd (top none (off gs)) (top none gs) ∷ off (off gs)
guard_step OrFlagNode gs = typed.FlagOr (top none (off gs)) (top none gs) ∷ off (off gs)

abbrev read_guard : List GuardNode → List TypedGuard → List TypedGuard
read_guard [] gs = gs
read_guard (n ∷ ns) gs = read_guard ns (guard_step n gs)

abbrev guard_nodes : TypedGuard → List GuardNode → List GuardNode
guard_nodes (typed.FlagIs f) k = FlagNode f ∷ k
guard_nodes (typed.FlagTruth b) k = TruthFlagNode b ∷ k
guard_nodes (typed.FlagNot g) k = guard_nodes g (NotFlagNode ∷ k)
guard_nodes (typed.FlagAnd g h) k = guard_nodes g (guard_nodes h (AndFlagNode ∷ k))
guard_nodes (typed.FlagOr g h) k = guard_nodes g (guard_nodes h (OrFlagNode ∷ k))

read_guard_nodes : (g : TypedGuard) (k : List GuardNode) (gs : List TypedGuard) → read_guard (guard_nodes g k) gs ≡ read_guard k (g ∷ gs)
read_guard_nodes (typed.FlagIs f) k gs = refl
read_guard_nodes (typed.FlagTruth b) k gs = refl
read_guard_nodes (typed.FlagNot g) k gs = read_guard_nodes g _ gs
read_guard_nodes (typed.FlagAnd g h) k gs = read_guard_nodes g _ gs ∙ read_guard_nodes h _ _
read_guard_nodes (typed.FlagOr g h) k gs = read_guard_nodes g _ gs ∙ read_guard_nodes h _ _

abbrev to_guard_nodes : TypedGuard → List GuardNode
to_guard_nodes g = guard_nodes g []

abbrev from_guard_nodes : List GuardNode → TypedGuard
from_guard_nodes ns = top none (read_guard ns [])

pub from_guard_nodes-to_guard_nodes : (g : TypedGuard) → from_guard_nodes (to_guard_nodes g) ≡ g
from_guard_nodes-to_guard_nodes g = ap (top none) (read_guard_nodes g [] [])

abbrev pub guard_code : Coded TypedGuard
guard_code = code_by (List GuardNode) (coded_list guard_node_code) to_guard_nodes from_guard_nodes from_guard_nodes-to_guard_nodes
