-- Codes of the small enums and of the nodes, by their numbers and parts.
use Rattle.std.specs.Prelude.{◌≡◌, ℕ, ℤ, pos, Bool, true, false, cond, ◌==◌, List, [], refl}
use Rattle.std.specs.Coded.{Coded, code_by, coded×, coded_ℕ, coded_ℤ, coded_bool, coded_list}
use Rattle.bc_data.specs.declared.run.Place.{Place}
use Rattle.bc_data.specs.declared.run.Kind.{Kind}
use Rattle.bc_data.specs.declared.run.Kind.TheVariants as kind
use Rattle.bc_data.specs.declared.program.Op.{Op}
use Rattle.bc_data.specs.declared.program.Op.TheVariants as op
use Rattle.bc_data.specs.declared.program.Tweak.{Tweak}
use Rattle.bc_data.specs.declared.program.Tweak.TheVariants as tweak
use Rattle.bc_data.specs.declared.program.Change.{Change}
use Rattle.bc_data.specs.declared.program.Change.TheVariants as change
use Rattle.bc_data.specs.TypedNodes.{Node, GuardNode}
use Rattle.bc_data.specs.TypedNodes as n

abbrev place_parts : Place → ℕ × ℕ
place_parts p = (p.line, p.column)

abbrev place_of : ℕ × ℕ → Place
place_of p = record { line = p.0; column = p.1 }

abbrev pub place_code : Coded Place
place_code = code_by (ℕ × ℕ) (coded× coded_ℕ coded_ℕ) place_parts place_of (λ _. refl)

abbrev op_number : Op → ℕ
op_number op.Or = 0
op_number op.And = 1
op_number op.Same = 2
op_number op.Differ = 3
op_number op.Less = 4
op_number op.LessEq = 5
op_number op.More = 6
op_number op.MoreEq = 7
op_number op.Add = 8
op_number op.Sub = 9
op_number op.Mul = 10
op_number op.Div = 11
op_number op.Rem = 12

abbrev op_at : ℕ → Op
op_at k = cond (k == 0) op.Or (cond (k == 1) op.And (cond (k == 2) op.Same (cond (k == 3) op.Differ (cond (k == 4) op.Less (cond (k == 5) op.LessEq (cond (k == 6) op.More (cond (k == 7) op.MoreEq (cond (k == 8) op.Add (cond (k == 9) op.Sub (cond (k == 10) op.Mul (cond (k == 11) op.Div (op.Rem))))))))))))

pub op_at-op_number : (o : Op) → op_at (op_number o) ≡ o
op_at-op_number op.Or = refl
op_at-op_number op.And = refl
op_at-op_number op.Same = refl
op_at-op_number op.Differ = refl
op_at-op_number op.Less = refl
op_at-op_number op.LessEq = refl
op_at-op_number op.More = refl
op_at-op_number op.MoreEq = refl
op_at-op_number op.Add = refl
op_at-op_number op.Sub = refl
op_at-op_number op.Mul = refl
op_at-op_number op.Div = refl
op_at-op_number op.Rem = refl

abbrev pub op_code : Coded Op
op_code = code_by ℕ coded_ℕ op_number op_at op_at-op_number

abbrev kind_parts : Kind → ℕ × ℕ
kind_parts (kind.Class c) = (0, c)
kind_parts kind.Ints = (1, 0)
kind_parts kind.Bools = (2, 0)
kind_parts (kind.Objects c) = (3, c)

abbrev kind_of : ℕ × ℕ → Kind
kind_of p = cond (p.0 == 0) (kind.Class p.1) (cond (p.0 == 1) kind.Ints (cond (p.0 == 2) kind.Bools (kind.Objects p.1)))

pub kind_back : (k : Kind) → kind_of (kind_parts k) ≡ k
kind_back (kind.Class c) = refl
kind_back kind.Ints = refl
kind_back kind.Bools = refl
kind_back (kind.Objects c) = refl

abbrev pub kind_code : Coded Kind
kind_code = code_by (ℕ × ℕ) (coded× coded_ℕ coded_ℕ) kind_parts kind_of kind_back

abbrev nowhere_ : Place
nowhere_ = record { line = 0; column = 0 }

abbrev tweak_parts : Tweak → Bool × (Place × (ℕ × Bool))
tweak_parts (tweak.Flag f b) = (true, (nowhere_, (f, b)))
tweak_parts (tweak.Add at v) = (false, (at, (v, false)))

abbrev tweak_of : Bool × (Place × (ℕ × Bool)) → Tweak
tweak_of p = cond p.0 (tweak.Flag p.1.1.0 p.1.1.1) (tweak.Add p.1.0 p.1.1.0)

pub tweak_back : (t : Tweak) → tweak_of (tweak_parts t) ≡ t
tweak_back (tweak.Flag f b) = refl
tweak_back (tweak.Add at v) = refl

abbrev pub tweak_code : Coded Tweak
tweak_code = code_by (Bool × (Place × (ℕ × Bool))) (coded× coded_bool (coded× place_code (coded× coded_ℕ coded_bool))) tweak_parts tweak_of tweak_back

abbrev change_parts : Change → ℕ × (Place × (ℕ × (ℕ × Bool)))
change_parts (change.Flag p f b) = (0, (nowhere_, (p, (f, b))))
change_parts (change.Add at p v) = (1, (at, (p, (v, false))))
change_parts (change.Clear p v) = (2, (nowhere_, (p, (v, false))))

abbrev change_of : ℕ × (Place × (ℕ × (ℕ × Bool))) → Change
change_of p = cond (p.0 == 0) (change.Flag p.1.1.0 p.1.1.1.0 p.1.1.1.1) (cond (p.0 == 1) (change.Add p.1.0 p.1.1.0 p.1.1.1.0) (change.Clear p.1.1.0 p.1.1.1.0))

pub change_back : (c : Change) → change_of (change_parts c) ≡ c
change_back (change.Flag p f b) = refl
change_back (change.Add at p v) = refl
change_back (change.Clear p v) = refl

abbrev pub change_code : Coded Change
change_code = code_by (ℕ × (Place × (ℕ × (ℕ × Bool)))) (coded× coded_ℕ (coded× place_code (coded× coded_ℕ (coded× coded_ℕ coded_bool)))) change_parts change_of change_back

abbrev NodeParts : Type 0
NodeParts = ℕ × (Place × (ℕ × (ℕ × (ℤ × (Bool × (List ℕ × (Op × (Kind × (List Tweak × List Change)))))))))

abbrev node_parts : Node → NodeParts
node_parts (n.IntNode z_) = (0, (nowhere_, (0, (0, (z_, (false, ([], (op.Or, (kind.Ints, ([], []))))))))))
node_parts (n.TruthNode t_) = (1, (nowhere_, (0, (0, (pos 0, (t_, ([], (op.Or, (kind.Ints, ([], []))))))))))
node_parts n.NullNode = (2, (nowhere_, (0, (0, (pos 0, (false, ([], (op.Or, (kind.Ints, ([], []))))))))))
node_parts (n.LocalNode a_) = (3, (nowhere_, (a_, (0, (pos 0, (false, ([], (op.Or, (kind.Ints, ([], []))))))))))
node_parts n.NegNode = (4, (nowhere_, (0, (0, (pos 0, (false, ([], (op.Or, (kind.Ints, ([], []))))))))))
node_parts n.NotNode = (5, (nowhere_, (0, (0, (pos 0, (false, ([], (op.Or, (kind.Ints, ([], []))))))))))
node_parts (n.TwoNode at_ op_) = (6, (at_, (0, (0, (pos 0, (false, ([], (op_, (kind.Ints, ([], []))))))))))
node_parts (n.FieldNode at_ a_) = (7, (at_, (a_, (0, (pos 0, (false, ([], (op.Or, (kind.Ints, ([], []))))))))))
node_parts (n.LengthNode at_) = (8, (at_, (0, (0, (pos 0, (false, ([], (op.Or, (kind.Ints, ([], []))))))))))
node_parts (n.ElemNode at_) = (9, (at_, (0, (0, (pos 0, (false, ([], (op.Or, (kind.Ints, ([], []))))))))))
node_parts (n.CallNode at_ a_ b_) = (10, (at_, (a_, (b_, (pos 0, (false, ([], (op.Or, (kind.Ints, ([], []))))))))))
node_parts (n.MakeNode at_ a_ tweaks_) = (11, (at_, (a_, (0, (pos 0, (false, ([], (op.Or, (kind.Ints, (tweaks_, []))))))))))
node_parts (n.ArrayNode at_ kind_) = (12, (at_, (0, (0, (pos 0, (false, ([], (op.Or, (kind_, ([], []))))))))))
node_parts n.NoArgNode = (13, (nowhere_, (0, (0, (pos 0, (false, ([], (op.Or, (kind.Ints, ([], []))))))))))
node_parts n.ArgNode = (14, (nowhere_, (0, (0, (pos 0, (false, ([], (op.Or, (kind.Ints, ([], []))))))))))
node_parts n.NoPartNode = (15, (nowhere_, (0, (0, (pos 0, (false, ([], (op.Or, (kind.Ints, ([], []))))))))))
node_parts (n.TextNode bytes_) = (16, (nowhere_, (0, (0, (pos 0, (false, (bytes_, (op.Or, (kind.Ints, ([], []))))))))))
node_parts n.NumberNode = (17, (nowhere_, (0, (0, (pos 0, (false, ([], (op.Or, (kind.Ints, ([], []))))))))))
node_parts n.TruthPartNode = (18, (nowhere_, (0, (0, (pos 0, (false, ([], (op.Or, (kind.Ints, ([], []))))))))))
node_parts (n.SetNode a_) = (19, (nowhere_, (a_, (0, (pos 0, (false, ([], (op.Or, (kind.Ints, ([], []))))))))))
node_parts (n.NewTagNode at_ a_ b_) = (20, (at_, (a_, (b_, (pos 0, (false, ([], (op.Or, (kind.Ints, ([], []))))))))))
node_parts (n.SetFieldNode at_ a_) = (21, (at_, (a_, (0, (pos 0, (false, ([], (op.Or, (kind.Ints, ([], []))))))))))
node_parts (n.SetElemNode at_) = (22, (at_, (0, (0, (pos 0, (false, ([], (op.Or, (kind.Ints, ([], []))))))))))
node_parts n.DropNode = (23, (nowhere_, (0, (0, (pos 0, (false, ([], (op.Or, (kind.Ints, ([], []))))))))))
node_parts n.PerformNode = (24, (nowhere_, (0, (0, (pos 0, (false, ([], (op.Or, (kind.Ints, ([], []))))))))))
node_parts n.IfNode = (25, (nowhere_, (0, (0, (pos 0, (false, ([], (op.Or, (kind.Ints, ([], []))))))))))
node_parts (n.WhileNode at_) = (26, (at_, (0, (0, (pos 0, (false, ([], (op.Or, (kind.Ints, ([], []))))))))))
node_parts n.ReturnNode = (27, (nowhere_, (0, (0, (pos 0, (false, ([], (op.Or, (kind.Ints, ([], []))))))))))
node_parts n.ReturnValueNode = (28, (nowhere_, (0, (0, (pos 0, (false, ([], (op.Or, (kind.Ints, ([], []))))))))))
node_parts (n.PrintNode at_) = (29, (at_, (0, (0, (pos 0, (false, ([], (op.Or, (kind.Ints, ([], []))))))))))
node_parts (n.AssertNode at_) = (30, (at_, (0, (0, (pos 0, (false, ([], (op.Or, (kind.Ints, ([], []))))))))))
node_parts (n.ExitNode changes_) = (31, (nowhere_, (0, (0, (pos 0, (false, ([], (op.Or, (kind.Ints, ([], changes_))))))))))
node_parts n.BlockNode = (32, (nowhere_, (0, (0, (pos 0, (false, ([], (op.Or, (kind.Ints, ([], []))))))))))
node_parts n.NothingNode = (33, (nowhere_, (0, (0, (pos 0, (false, ([], (op.Or, (kind.Ints, ([], []))))))))))
node_parts n.ThenNode = (34, (nowhere_, (0, (0, (pos 0, (false, ([], (op.Or, (kind.Ints, ([], []))))))))))

abbrev node_of : NodeParts → Node
node_of p = cond (p.0 == 0) (n.IntNode p.1.1.1.1.0) (cond (p.0 == 1) (n.TruthNode p.1.1.1.1.1.0) (cond (p.0 == 2) n.NullNode (cond (p.0 == 3) (n.LocalNode p.1.1.0) (cond (p.0 == 4) n.NegNode (cond (p.0 == 5) n.NotNode (cond (p.0 == 6) (n.TwoNode p.1.0 p.1.1.1.1.1.1.1.0) (cond (p.0 == 7) (n.FieldNode p.1.0 p.1.1.0) (cond (p.0 == 8) (n.LengthNode p.1.0) (cond (p.0 == 9) (n.ElemNode p.1.0) (cond (p.0 == 10) (n.CallNode p.1.0 p.1.1.0 p.1.1.1.0) (cond (p.0 == 11) (n.MakeNode p.1.0 p.1.1.0 p.1.1.1.1.1.1.1.1.1.0) (cond (p.0 == 12) (n.ArrayNode p.1.0 p.1.1.1.1.1.1.1.1.0) (cond (p.0 == 13) n.NoArgNode (cond (p.0 == 14) n.ArgNode (cond (p.0 == 15) n.NoPartNode (cond (p.0 == 16) (n.TextNode p.1.1.1.1.1.1.0) (cond (p.0 == 17) n.NumberNode (cond (p.0 == 18) n.TruthPartNode (cond (p.0 == 19) (n.SetNode p.1.1.0) (cond (p.0 == 20) (n.NewTagNode p.1.0 p.1.1.0 p.1.1.1.0) (cond (p.0 == 21) (n.SetFieldNode p.1.0 p.1.1.0) (cond (p.0 == 22) (n.SetElemNode p.1.0) (cond (p.0 == 23) n.DropNode (cond (p.0 == 24) n.PerformNode (cond (p.0 == 25) n.IfNode (cond (p.0 == 26) (n.WhileNode p.1.0) (cond (p.0 == 27) n.ReturnNode (cond (p.0 == 28) n.ReturnValueNode (cond (p.0 == 29) (n.PrintNode p.1.0) (cond (p.0 == 30) (n.AssertNode p.1.0) (cond (p.0 == 31) (n.ExitNode p.1.1.1.1.1.1.1.1.1.1) (cond (p.0 == 32) n.BlockNode (cond (p.0 == 33) n.NothingNode (n.ThenNode))))))))))))))))))))))))))))))))))

pub node_back : (x : Node) → node_of (node_parts x) ≡ x
node_back (n.IntNode z_) = refl
node_back (n.TruthNode t_) = refl
node_back n.NullNode = refl
node_back (n.LocalNode a_) = refl
node_back n.NegNode = refl
node_back n.NotNode = refl
node_back (n.TwoNode at_ op_) = refl
node_back (n.FieldNode at_ a_) = refl
node_back (n.LengthNode at_) = refl
node_back (n.ElemNode at_) = refl
node_back (n.CallNode at_ a_ b_) = refl
node_back (n.MakeNode at_ a_ tweaks_) = refl
node_back (n.ArrayNode at_ kind_) = refl
node_back n.NoArgNode = refl
node_back n.ArgNode = refl
node_back n.NoPartNode = refl
node_back (n.TextNode bytes_) = refl
node_back n.NumberNode = refl
node_back n.TruthPartNode = refl
node_back (n.SetNode a_) = refl
node_back (n.NewTagNode at_ a_ b_) = refl
node_back (n.SetFieldNode at_ a_) = refl
node_back (n.SetElemNode at_) = refl
node_back n.DropNode = refl
node_back n.PerformNode = refl
node_back n.IfNode = refl
node_back (n.WhileNode at_) = refl
node_back n.ReturnNode = refl
node_back n.ReturnValueNode = refl
node_back (n.PrintNode at_) = refl
node_back (n.AssertNode at_) = refl
node_back (n.ExitNode changes_) = refl
node_back n.BlockNode = refl
node_back n.NothingNode = refl
node_back n.ThenNode = refl

abbrev pub node_code : Coded Node
node_code = code_by NodeParts (coded× coded_ℕ (coded× place_code (coded× coded_ℕ (coded× coded_ℕ (coded× coded_ℤ (coded× coded_bool (coded× (coded_list coded_ℕ) (coded× op_code (coded× kind_code (coded× (coded_list tweak_code) (coded_list change_code))))))))))) node_parts node_of node_back

abbrev guard_parts : GuardNode → ℕ × ℕ
guard_parts (n.FlagNode f) = (0, f)
guard_parts (n.TruthFlagNode true) = (1, 0)
guard_parts (n.TruthFlagNode false) = (2, 0)
guard_parts n.NotFlagNode = (3, 0)
guard_parts n.AndFlagNode = (4, 0)
guard_parts n.OrFlagNode = (5, 0)

abbrev guard_of : ℕ × ℕ → GuardNode
guard_of p = cond (p.0 == 0) (n.FlagNode p.1) (cond (p.0 == 1) (n.TruthFlagNode true) (cond (p.0 == 2) (n.TruthFlagNode false) (cond (p.0 == 3) n.NotFlagNode (cond (p.0 == 4) n.AndFlagNode n.OrFlagNode))))

pub guard_back : (x : GuardNode) → guard_of (guard_parts x) ≡ x
guard_back (n.FlagNode f) = refl
guard_back (n.TruthFlagNode true) = refl
guard_back (n.TruthFlagNode false) = refl
guard_back n.NotFlagNode = refl
guard_back n.AndFlagNode = refl
guard_back n.OrFlagNode = refl

abbrev pub guard_node_code : Coded GuardNode
guard_node_code = code_by (ℕ × ℕ) (coded× coded_ℕ coded_ℕ) guard_parts guard_of guard_back
