-- Statements that the typing rules allow are well typed.
use Rattle.std.proofs.Common.{◌≡◌, ℕ, ◌+◌, ◌<◌, ◌≤◌, Bool, true, false, List, [], length, Option, Some, None, slice_get, inl, inr, refl, ap, sym, ◌∙◌, subst, arith}
use Rattle.std.specs.Prelude.{option_map, All}
use Rattle.std.proofs.lemmas.Bool.{and_parts, and_from}
use Rattle.std.proofs.lemmas.Option.{slice_get_within}
use Rattle.std.proofs.lemmas.List.Elements.{All-nil, All-push}
use Rattle.bc_data.specs.SourceTree.{Expression, Call, PrintItem, TextItem, ValueItem, Change, ChangeOf, Statement, Let, NewTag, Assign, Do, MakeDo, Block, If, IfElse, While, Return, ReturnValue, Print, Assert, Exit, Statements, Nothing, Then}
use Rattle.bc_data.specs.declared.tree.TypeText.{TypeText}
use Rattle.bc_data.specs.declared.tree.Base.{Base}
use Rattle.bc_data.specs.declared.tree.Base.TheVariants as base
use Rattle.bc_data.specs.declared.tree.ActionText.{ActionText}
use Rattle.bc_data.specs.declared.tree.ActionText.TheVariants as action
use Rattle.bc_data.specs.declared.program.Shape.{Shape}
use Rattle.bc_data.specs.declared.program.Shape.TheVariants as shape
use Rattle.bc_data.specs.declared.program.Change as program_change
use Rattle.bc_data.specs.declared.program.Change.TheVariants as change
use Rattle.bc_data.specs.Shapes.{IsDeclared, fits_shape}
use Rattle.bc_data.specs.Typed as typed
use Rattle.bc_data.specs.Typed.{TypedExpression, TypedPart, TypedStatement, TypedStatements, TypedClass}
use Rattle.bc_data.specs.TypedBodies.{Assigned, InMethod, InTask, Setting, HasType, IsPerformed, IsPart, IsAction, IsTyped, AreTyped, surely_leaves, surely_leave}
use Rattle.bc_types_rules.specs.Context.{ValueType, Known, Names, Context, ParameterIs, Scope, ended, class_type, base_type, type_of, fits}
use Rattle.bc_types_rules.specs.Statements.{Parameter, Exiting, assignment, performed, none_named, leaves, all_leave}
use Rattle.bc_types_rules.specs.ExpressionRules.{Has}
use Rattle.bc_types_rules.specs.StatementRules.{Calls, Prints, Acts, Changes, Does, DoAll}
use Rattle.bc_law_accepted.proofs.Agreement.{Agrees}
use Rattle.bc_law_accepted.proofs.Scopes.{assigned_in, around_in, setting_in, IsScope}
use Rattle.bc_law_accepted.proofs.ScopeLemmas.{each_keeps, used_by, tag_set, next_unset, slot_assigned, tag_assigned, ended_scope}
use Rattle.bc_law_accepted.proofs.TypedExpressions.{known_eq, fit_known, at_shape, expression_typed, expressions_typed}
use Rattle.bc_law_accepted.proofs.Growth.{does_grow, do_grow}

-- a type that is written has a declared shape
class_declared : (classes : ℕ) (many : Bool) (name : List ℕ) (o : Option ℕ) (sh : Shape) → ((c : ℕ) → o ≡ Some c → c < classes) → class_type many name o ≡ Known sh → IsDeclared classes sh
class_declared classes true name (Some c) sh f h = subst (IsDeclared classes) (known_eq (shape.Objects c) sh h) (f c refl)
class_declared classes false name (Some c) sh f h = subst (IsDeclared classes) (known_eq (shape.Class c) sh h) (f c refl)
class_declared classes many name None sh f h = cc

base_declared : (N : Names) (classes : ℕ) (b : Base) (many : Bool) (sh : Shape) → ((name : List ℕ) (c : ℕ) → N.class_of name ≡ Some c → c < classes) → base_type N.class_of b many ≡ Known sh → IsDeclared classes sh
base_declared N classes base.Int true sh f h = subst (IsDeclared classes) (known_eq shape.Ints sh h) tt
base_declared N classes base.Int false sh f h = subst (IsDeclared classes) (known_eq shape.Int sh h) tt
base_declared N classes base.Bool true sh f h = subst (IsDeclared classes) (known_eq shape.Bools sh h) tt
base_declared N classes base.Bool false sh f h = subst (IsDeclared classes) (known_eq shape.Bool sh h) tt
base_declared N classes (base.Class name) many sh f h = class_declared classes many name (N.class_of name) sh (λ c e. f name c e) h

pub type_declared : (N : Names) (classes : ℕ) (t : TypeText) (sh : Shape) → ((name : List ℕ) (c : ℕ) → N.class_of name ≡ Some c → c < classes) → type_of N.class_of t ≡ Known sh → IsDeclared classes sh
type_declared N classes t sh f h = base_declared N classes t.base t.many sh f h

fits_known : (x y : ValueType) (a b : Shape) → x ≡ Known a → y ≡ Known b → fits x y ≡ true → fits_shape a b ≡ true
fits_known x y a b e f h = ap (λ z. fits (Known a) z) (sym f) ∙ ap (λ z. fits z y) (sym e) ∙ h

-- where a body stands
abbrev at_context : Context → Option ℕ → Option Shape → Context
at_context G me result = record { names = G.names; me = me; result = result }

around_task : (G : Context) (params : List ℕ) → G.me ≡ None → around_in G params ≡ InTask params
around_task G params e = ap (λ me. around_in (at_context G me G.result) params) e

around_method : (G : Context) (params : List ℕ) (me : ℕ) (r : Option Shape) → G.me ≡ Some me → G.result ≡ r → around_in G params ≡ InMethod r
around_method G params me r e f = ap (λ o. around_in (at_context G o G.result) params) e ∙ ap InMethod f

-- a task asks for no result
around_result : (G : Context) (params : List ℕ) (sh : Shape) → (G.me ≡ None → G.result ≡ None) → G.result ≡ Some sh → around_in G params ≡ InMethod (Some sh)
around_result G params sh n e = at G.me refl
  where
    at : (o : Option ℕ) → G.me ≡ o → around_in G params ≡ InMethod (Some sh)
    at (Some me) k = around_method G params me (Some sh) k e
    at None k = absurd (none_some (sym (n k) ∙ e))
      where
        none_some : None ≡ Some sh → ⊥
        none_some h = cc

some_eq : (d e : TypedStatement) → Some d ≡ Some e → d ≡ e
some_eq d e h = cc

-- a value goes to a slot, a field or an element
assignment_typed : (B : Setting) (a : Assigned) (u v : TypedExpression) (x y : Shape) (d : TypedStatement) → HasType B.classes a u y → HasType B.classes a v x → fits_shape x y ≡ true → assignment u v ≡ Some d → IsTyped B a d a
assignment_typed B a (typed.Local slot) v x y d h k f e = subst (λ d. IsTyped B a d a) (some_eq _ _ e) (x, y, k, f, inl (h, refl))
assignment_typed B a (typed.FieldOf at object field) v x y d h k f e = subst (λ d. IsTyped B a d a) (some_eq _ _ e) (h.0, x, y, h.1, h.2, k, f, refl)
assignment_typed B a (typed.Elem at array index) v x y d h k f e = subst (λ d. IsTyped B a d a) (some_eq _ _ e) (h.0, x, y, h.1, h.2, h.3, k, f, refl)
assignment_typed B a u v x y d h k f e = cc

module _ (G : Context) (K : List TypedClass) (tag_types : ℕ) (params : List ℕ) (locals tags : ℕ) (agrees : Agrees G.names K tag_types) where
  abbrev setting : Setting
  setting = setting_in K tag_types G params locals tags

  module _ (s : Scope) (scope : IsScope G.me params s) where
    abbrev here : Assigned
    here = assigned_in G.me s

    has_shape : (e : Expression) (sh : Shape) (c : TypedExpression) → Has G s e (Known sh) c → HasType K here c sh
    has_shape e sh c h = at_shape K here sh c (expression_typed G K tag_types params s agrees scope e (Known sh) c h)

    -- an item of a `print`
    part_typed : (before : List TypedPart) (i : PrintItem) (after : List TypedPart) → All (IsPart K here) before → Prints G s before i after → All (IsPart K here) after
    part_typed before (TextItem meaning) after p h = subst (All (IsPart K here)) (sym h) (All-push (IsPart K here) before (typed.TextPart meaning) p tt)
    part_typed before (ValueItem e) after p h = elim h.1 [
      | inl q ↦ subst (All (IsPart K here)) (sym q.1) (All-push (IsPart K here) before (typed.NumberPart h.0) p (has_shape e shape.Int h.0 q.0))
      | inr q ↦ subst (All (IsPart K here)) (sym q.1) (All-push (IsPart K here) before (typed.TruthPart h.0) p (has_shape e shape.Bool h.0 q.0))
    ]

    -- actions on the parameter of a task
    action_typed : (p : Parameter) → slice_get params p.number ≡ Some p.class → (before : List program_change.Change) (x : ActionText) (after : List program_change.Change) → All (IsAction K params here) before → Acts G.names s p before x after → All (IsAction K params here) after
    action_typed p e before (action.Flag x b) after w h =
        let q = agrees.flag p.class x.name h.0 h.1 in
        subst (All (IsAction K params here)) (sym h.2) (All-push (IsAction K params here) before (change.Flag p.number h.0 b) w (p.class, q.0, e, q.1, q.2))
    action_typed p e before (action.Add at x) after w h =
        subst (All (IsAction K params here)) (sym h.2) (All-push (IsAction K params here) before (change.Add at p.number h.0) w (slice_get_within params p.number p.class e, tag_set G.me s x.name h.0 h.1.0 h.1.1))
    action_typed p e before (action.Clear at x) after w h =
        subst (All (IsAction K params here)) (sym h.2) (All-push (IsAction K params here) before (change.Clear p.number h.0) w (slice_get_within params p.number p.class e, tag_set G.me s x.name h.0 h.1.0 h.1.1))

    change_typed : (x : Exiting) (c : Change) (y : Exiting) → All (IsAction K params here) x.changes → Changes G.names s x c y → All (IsAction K params here) y.changes
    change_typed x (ChangeOf param actions) y w h =
        let p : Parameter = h.0 in
        let used = used_by params s s.known param.name (ParameterIs p.number p.class) scope.known h.2 in
        let all = each_keeps (All (IsAction K params here)) (Acts G.names s p) (action_typed p used.1) x.changes actions h.1 w h.4 in
        subst (λ (y : Exiting). All (IsAction K params here) y.changes) (sym h.5) all

    -- a call as a statement
    value_dropped : (sh : Shape) (o : Option ValueType) (c : TypedExpression) → o ≡ Some (Known sh) → HasType K here c sh → IsTyped setting here (performed o c) here
    value_dropped sh o c e h = subst (λ o. IsTyped setting here (performed o c) here) (sym e) (sh, h, refl)

    called_typed : (r : Option Shape) (o : Option ValueType) (c : TypedExpression) → o ≡ option_map Known r → (r ≡ None → IsPerformed K here c) → ((sh : Shape) → r ≡ Some sh → HasType K here c sh) → IsTyped setting here (performed o c) here
    called_typed None o c e f g = subst (λ o. IsTyped setting here (performed o c) here) (sym e) (f refl, refl)
    called_typed (Some sh) o c e f g = value_dropped sh o c e (g sh refl)

    calls_typed : (e : Expression) (o : Option ValueType) (c : TypedExpression) → Calls G s e o c → IsTyped setting here (performed o c) here
    calls_typed (Call at a x args) o c h =
        let p = has_shape a (shape.Class h.0) h.3 h.6 in
        let q = expressions_typed G K tag_types params s agrees scope args _ _ h.7 in
        let m = agrees.method h.0 x.name h.1 h.2 h.8 in
        let fit = fit_known _ _ q.0 m.0.formals q.1 m.2 h.9 in
        called_typed m.0.result o c (h.10 ∙ m.3)
        (λ r. subst (IsPerformed K here) (sym h.11) (m.0, q.0, p, m.1, q.2, fit, r))
        (λ sh r. subst (λ c. HasType K here c sh) (sym h.11) (m.0, q.0, p, m.1, q.2, fit, r))
    calls_typed e o c h =
        let q = expression_typed G K tag_types params s agrees scope e h.0 c h.1 in
        value_dropped q.0 o c (h.2 ∙ ap Some q.1) q.2

  -- by the equations of the code and of the scope behind it
  done : (s t u : Scope) (d e : TypedStatement) → d ≡ e → t ≡ u → IsTyped setting (assigned_in G.me s) e (assigned_in G.me u) → IsTyped setting (assigned_in G.me s) d (assigned_in G.me t)
  done s t u d e p q h =
      subst (λ d. IsTyped setting (assigned_in G.me s) d (assigned_in G.me t)) (sym p) (subst (λ t. IsTyped setting (assigned_in G.me s) e (assigned_in G.me t)) (sym q) h)

  module _ (no_result : G.me ≡ None → G.result ≡ None) where
    mutual
      pub statement_typed : (s : Scope) (x : Statement) (d : TypedStatement) (t : Scope) → IsScope G.me params s → t.slots ≤ locals → t.tags ≤ tags → Does G s x d t → IsTyped setting (assigned_in G.me s) d (assigned_in G.me t)
      statement_typed s (Let x e) d t w a b h =
          let p = expression_typed G K tag_types params s agrees w e h.1 h.2 h.4 in
          let slots : t.slots ≡ s.slots + 1 = ap (λ (t : Scope). t.slots) h.8 in
          done s t _ d _ h.7 h.8 (p.0, h.0, p.2, fits_known _ _ p.0 h.0 p.1 refl h.6, inr (next_unset G.me params s w, omega arith, type_declared G.names (length K) x.kind h.0 agrees.class h.3, slot_assigned G.me s x.name h.0))
      statement_typed s (NewTag at x kind) d t w a b h =
          let more : t.tags ≡ s.tags + 1 = ap (λ (t : Scope). t.tags) h.5 in
          done s t _ d _ h.4 h.5 (params, around_task G params h.1, agrees.tag_type kind.name h.0 h.2, omega arith, tag_assigned G.me s x h.0)
      statement_typed s (Assign target e) d t w a b h =
          let p = expression_typed G K tag_types params s agrees w target h.0 h.2 h.4 in
          let q = expression_typed G K tag_types params s agrees w e h.1 h.3 h.5 in
          done s t s d d refl h.9 (assignment_typed setting (assigned_in G.me s) h.2 h.3 q.0 p.0 d p.2 q.2 (fits_known _ _ q.0 p.0 q.1 p.1 h.7) h.8)
      statement_typed s (Do call) d t w a b h = done s t s d _ h.3 h.4 (calls_typed s w call h.0 h.1 h.2)
      statement_typed s (MakeDo made) d t w a b h =
          let p = expression_typed G K tag_types params s agrees w made h.0 h.1 h.2 in
          done s t s d _ h.3 h.4 (p.0, p.2, refl)
      statement_typed s (Block at body) d t w a b h =
          let slots : t.slots ≡ h.1.slots = ap (λ (t : Scope). t.slots) h.4 in
          let more : t.tags ≡ h.1.tags = ap (λ (t : Scope). t.tags) h.4 in
          done s t _ d _ h.3 h.4 (assigned_in G.me h.1, statements_typed s body h.0 h.1 w (omega arith) (omega arith) h.2, refl)
      statement_typed s (If at test body) d t w a b h =
          let slots : t.slots ≡ h.2.slots = ap (λ (t : Scope). t.slots) h.6 in
          let more : t.tags ≡ h.2.tags = ap (λ (t : Scope). t.tags) h.6 in
          done s t _ d _ h.5 h.6 (assigned_in G.me h.2, assigned_in G.me s, has_shape s w test shape.Bool h.0 h.3, statements_typed s body h.1 h.2 w (omega arith) (omega arith) h.4, refl, refl)
      statement_typed s (IfElse at test body other) d t w a b h =
          let slots : t.slots ≡ h.4.slots = ap (λ (t : Scope). t.slots) h.9 in
          let more : t.tags ≡ h.4.tags = ap (λ (t : Scope). t.tags) h.9 in
          let g = do_grow G params s body h.1 h.3 w h.6 in
          let v = ended_scope G.me params s h.3 w g.scope g.slots g.tags in
          let k = do_grow G params (ended s h.3) other h.2 h.4 v h.7 in
          let k_slots : h.3.slots ≤ h.4.slots = k.slots in
          let k_tags : h.3.tags ≤ h.4.tags = k.tags in
          done s t _ d _ h.8 h.9 (
            assigned_in G.me h.3,
            assigned_in G.me h.4,
            has_shape s w test shape.Bool h.0 h.5,
            statements_typed s body h.1 h.3 w (omega arith) (omega arith) h.6,
            statements_typed (ended s h.3) other h.2 h.4 v (omega arith) (omega arith) h.7,
            refl,
          )
      statement_typed s (While at test body) d t w a b h =
          let slots : t.slots ≡ h.2.slots = ap (λ (t : Scope). t.slots) h.6 in
          let more : t.tags ≡ h.2.tags = ap (λ (t : Scope). t.tags) h.6 in
          done s t _ d _ h.5 h.6 (assigned_in G.me h.2, has_shape s w test shape.Bool h.0 h.3, statements_typed s body h.1 h.2 w (omega arith) (omega arith) h.4, refl)
      statement_typed s (Return at) d t w a b h = done s t s d _ h.3 h.4 (around_method G params h.0 None h.1 h.2, refl)
      statement_typed s (ReturnValue at e) d t w a b h =
          let p = expression_typed G K tag_types params s agrees w e h.1 h.2 h.3 in
          done s t s d _ h.6 h.7 (p.0, h.0, p.2, around_result G params h.0 no_result h.4, fits_known _ _ p.0 h.0 p.1 refl h.5, refl)
      statement_typed s (Print at items) d t w a b h =
          let all = each_keeps (All (IsPart K (assigned_in G.me s))) (Prints G s) (part_typed s w) [] items h.0 (All-nil (IsPart K (assigned_in G.me s))) h.1 in
          done s t s d _ h.2 h.3 (all, refl)
      statement_typed s (Assert at e) d t w a b h = done s t s d _ h.2 h.3 (has_shape s w e shape.Bool h.0 h.1, refl)
      statement_typed s (Exit at changes) d t w a b h =
          let P = λ (x : Exiting). All (IsAction K params (assigned_in G.me s)) x.changes in
          let all = each_keeps P (Changes G.names s) (change_typed s w) none_named changes h.0 (All-nil (IsAction K params (assigned_in G.me s))) h.2 in
          done s t s d _ h.3 h.4 (params, around_task G params h.1, all, refl)

      pub statements_typed : (s : Scope) (ss : Statements) (ds : TypedStatements) (t : Scope) → IsScope G.me params s → t.slots ≤ locals → t.tags ≤ tags → DoAll G s ss ds t → AreTyped setting (assigned_in G.me s) ds (assigned_in G.me t)
      statements_typed s Nothing ds t w a b h =
          subst (λ ds. AreTyped setting (assigned_in G.me s) ds (assigned_in G.me t)) (sym h.0) (ap (assigned_in G.me) h.1)
      statements_typed s (Then front last) ds t w a b h =
          let g = do_grow G params s front h.0 h.1 w h.3 in
          let k = does_grow G params h.1 last h.2 t g.scope h.4 in
          subst (λ ds. AreTyped setting (assigned_in G.me s) ds (assigned_in G.me t)) (sym h.5)
          (assigned_in G.me h.1, statements_typed s front h.0 h.1 w (omega arith) (omega arith) h.3, statement_typed h.1 last h.2 t g.scope a b h.4)

-- what surely leaves in the text surely leaves in the program
mutual
  pub leaves_typed : (G : Context) (s : Scope) (x : Statement) (d : TypedStatement) (t : Scope) → leaves x ≡ true → Does G s x d t → surely_leaves d ≡ true
  leaves_typed G s (Let x e) d t l h = cc
  leaves_typed G s (NewTag at x kind) d t l h = cc
  leaves_typed G s (Assign target e) d t l h = cc
  leaves_typed G s (Do call) d t l h = cc
  leaves_typed G s (MakeDo made) d t l h = cc
  leaves_typed G s (Block at body) d t l h = ap (λ d. surely_leaves d) h.3 ∙ leave_typed G s body h.0 h.1 l h.2
  leaves_typed G s (If at test body) d t l h = cc
  leaves_typed G s (IfElse at test body other) d t l h =
      let q = and_parts (all_leave body) (all_leave other) l in
      ap (λ d. surely_leaves d) h.8 ∙ and_from _ _ (leave_typed G s body h.1 h.3 q.0 h.6) (leave_typed G (ended s h.3) other h.2 h.4 q.1 h.7)
  leaves_typed G s (While at test body) d t l h = cc
  leaves_typed G s (Return at) d t l h = ap (λ d. surely_leaves d) h.3
  leaves_typed G s (ReturnValue at e) d t l h = ap (λ d. surely_leaves d) h.6
  leaves_typed G s (Print at items) d t l h = cc
  leaves_typed G s (Assert at e) d t l h = cc
  leaves_typed G s (Exit at changes) d t l h = ap (λ d. surely_leaves d) h.3

  pub leave_typed : (G : Context) (s : Scope) (ss : Statements) (ds : TypedStatements) (t : Scope) → all_leave ss ≡ true → DoAll G s ss ds t → surely_leave ds ≡ true
  leave_typed G s Nothing ds t l h = cc
  leave_typed G s (Then front last) ds t l h = ap (λ ds. surely_leave ds) h.5 ∙ leaves_typed G h.1 last h.2 t l h.4

-- A body is well typed in a setting with as many slots and tag variables as it uses.
pub body_typed :
    (G : Context) (K : List TypedClass) (tag_types : ℕ) (params : List ℕ) (locals tags : ℕ)
    → (s : Scope) (ss : Statements) (ds : TypedStatements) (t : Scope)
    → Agrees G.names K tag_types
    → IsScope G.me params s
    → (G.me ≡ None → G.result ≡ None)
    → DoAll G s ss ds t
    → t.slots ≤ locals
    → t.tags ≤ tags
    → AreTyped (setting_in K tag_types G params locals tags) (assigned_in G.me s) ds (assigned_in G.me t)
body_typed G K tag_types params locals tags s ss ds t agrees scope no_result h a b = statements_typed G K tag_types params locals tags agrees no_result s ss ds t scope a b h
