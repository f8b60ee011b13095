-- Expressions that the typing rules allow are well typed.
use Rattle.std.proofs.Common.{◌≡◌, ℕ, ◌<◌, true, ◌&&◌, List, [], ◌∷◌, ◌++◌, length, Option, Some, None, slice_get, refl, ap, sym, ◌∙◌, subst}
use Rattle.std.specs.Prelude.{map, option_map, All}
use Rattle.std.proofs.lemmas.Bool.{and_parts, or_cases}
use Rattle.std.proofs.lemmas.List.{map-append}
use Rattle.std.proofs.lemmas.List.Elements.{All-nil, All-push}
use Rattle.bc_data.specs.SourceTree.{Expression, Int, Truth, Null, This, Var, Group, Neg, Not, Two, Field, Length, Elem, Call, Make, Array, Expressions, NoArg, Arg}
use Rattle.bc_data.specs.declared.tree.Named.{Named}
use Rattle.bc_data.specs.declared.tree.Base.{Base}
use Rattle.bc_data.specs.declared.tree.Base.TheVariants as base
use Rattle.bc_data.specs.declared.tree.ActionText.{ActionText}
use Rattle.bc_data.specs.declared.tree.ActionText.TheVariants as action
use Rattle.bc_data.specs.declared.run.Kind as run_kind
use Rattle.bc_data.specs.declared.program.Op.{Op}
use Rattle.bc_data.specs.declared.program.Op.TheVariants as op
use Rattle.bc_data.specs.declared.program.Shape.{Shape}
use Rattle.bc_data.specs.declared.program.Shape.TheVariants as shape
use Rattle.bc_data.specs.declared.program.Tweak.{Tweak}
use Rattle.bc_data.specs.declared.program.Tweak.TheVariants as tweak
use Rattle.bc_data.specs.Shapes.{Takes, element_shape, fits_shape, result_shape, shape_of_kind}
use Rattle.bc_data.specs.Typed as typed
use Rattle.bc_data.specs.Typed.{TypedExpression, TypedExpressions, TypedClass}
use Rattle.bc_data.specs.TypedBodies.{Assigned, FitAll, IsTweak, IsArrayKind, HasType, HaveTypes, maker_shapes}
use Rattle.bc_types_rules.specs.Context.{ValueType, Known, Names, Context, Meaning, SlotIs, ParameterIs, TagIs, Scope, meaning_of, is_int, is_bool, element_of}
use Rattle.bc_types_rules.specs.Expressions.{takes}
use Rattle.bc_types_rules.specs.ExpressionRules.{Fit, IsSlot, Tweaks, IsArrayOf, Has, HaveAll}
use Rattle.bc_types_rules.proofs.Expressions.{int_of, bool_of}
use Rattle.bc_law_accepted.proofs.Agreement.{Agrees}
use Rattle.bc_law_accepted.proofs.Scopes.{assigned_in, IsScope}
use Rattle.bc_law_accepted.proofs.ScopeLemmas.{element_within, each_keeps, slot_set, tag_set}

some_eq : {A : Type 0} (x y : A) → Some x ≡ Some y → x ≡ y
some_eq x y h = cc

-- shapes
pub known_eq : (a b : Shape) → Known a ≡ Known b → a ≡ b
known_eq a b h = cc

int_shape : (a : Shape) → is_int (Known a) ≡ true → a ≡ shape.Int
int_shape a h = known_eq a shape.Int (int_of (Known a) h)

bool_shape : (a : Shape) → is_bool (Known a) ≡ true → a ≡ shape.Bool
bool_shape a h = known_eq a shape.Bool (bool_of (Known a) h)

both_ints : (a b : Shape) → (is_int (Known a) && is_int (Known b)) ≡ true → (a ≡ shape.Int) × (b ≡ shape.Int)
both_ints a b h = let q = and_parts _ _ h in (int_shape a q.0, int_shape b q.1)

both_bools : (a b : Shape) → (is_bool (Known a) && is_bool (Known b)) ≡ true → (a ≡ shape.Bool) × (b ≡ shape.Bool)
both_bools a b h = let q = and_parts _ _ h in (bool_shape a q.0, bool_shape b q.1)

pub takes_shapes : (op : Op) (a b : Shape) → takes op (Known a) (Known b) ≡ true → Takes op a b
takes_shapes op.Or a b h = both_bools a b h
takes_shapes op.And a b h = both_bools a b h
takes_shapes op.Same a b h = or_cases (fits_shape a b) (fits_shape b a) h
takes_shapes op.Differ a b h = or_cases (fits_shape a b) (fits_shape b a) h
takes_shapes op.Less a b h = both_ints a b h
takes_shapes op.LessEq a b h = both_ints a b h
takes_shapes op.More a b h = both_ints a b h
takes_shapes op.MoreEq a b h = both_ints a b h
takes_shapes op.Add a b h = both_ints a b h
takes_shapes op.Sub a b h = both_ints a b h
takes_shapes op.Mul a b h = both_ints a b h
takes_shapes op.Div a b h = both_ints a b h
takes_shapes op.Rem a b h = both_ints a b h

pub element_known : (x : Shape) (t : ValueType) → element_of (Known x) ≡ Some t → (y : Shape) × (t ≡ Known y) × (element_shape x ≡ Some y)
element_known shape.Int t h = cc
element_known shape.Bool t h = cc
element_known shape.Null t h = cc
element_known (shape.Class c) t h = cc
element_known shape.Ints t h = (shape.Int, cc, refl)
element_known shape.Bools t h = (shape.Bool, cc, refl)
element_known (shape.Objects c) t h = (shape.Class c, cc, refl)

-- values that fit what is known to be asked for
pub fit_shapes : (us fs : List Shape) → Fit (map Known us) (map Known fs) → FitAll us fs
fit_shapes [] [] h = tt
fit_shapes [] (f ∷ fs) h = absurd h
fit_shapes (u ∷ us) [] h = absurd h
fit_shapes (u ∷ us) (f ∷ fs) h = (h.0, fit_shapes us fs h.1)

pub fit_known : (xs fs : List ValueType) (us shs : List Shape) → xs ≡ map Known us → fs ≡ map Known shs → Fit xs fs → FitAll us shs
fit_known xs fs us shs e f h = fit_shapes us shs (subst (Fit (map Known us)) f (subst (λ xs. Fit xs fs) e h))

-- a result that is asked for is there, and its shape is known
pub result_known : (r : Option Shape) (t : ValueType) → option_map Known r ≡ Some t → (sh : Shape) × (t ≡ Known sh) × (r ≡ Some sh)
result_known None t h = cc
result_known (Some sh) t h = (sh, cc, refl)

array_kind_declared : (N : Names) (classes : ℕ) (b : Base) (k : run_kind.Kind) → ((name : List ℕ) (c : ℕ) → N.class_of name ≡ Some c → c < classes) → IsArrayOf N b k → IsArrayKind classes k
array_kind_declared N classes base.Int k f h = subst (IsArrayKind classes) (sym h) tt
array_kind_declared N classes base.Bool k f h = subst (IsArrayKind classes) (sym h) tt
array_kind_declared N classes (base.Class name) k f h = subst (IsArrayKind classes) (sym h.2) (f name h.0 h.1)

-- an expression of a known shape, and such arguments
abbrev pub TypedAs : List TypedClass → Assigned → ValueType → TypedExpression → Type 0
TypedAs K a t c = (sh : Shape) × (t ≡ Known sh) × HasType K a c sh

abbrev pub TypedAll : List TypedClass → Assigned → List ValueType → TypedExpressions → Type 0
TypedAll K a ts vs = (us : List Shape) × (ts ≡ map Known us) × HaveTypes K a vs us

pub at_shape : (K : List TypedClass) (a : Assigned) (sh : Shape) (c : TypedExpression) → TypedAs K a (Known sh) c → HasType K a c sh
at_shape K a sh c h = subst (HasType K a c) (known_eq h.0 sh (sym h.1)) h.2

module _ (G : Context) (K : List TypedClass) (tag_types : ℕ) (params : List ℕ) (s : Scope) (agrees : Agrees G.names K tag_types) (scope : IsScope G.me params s) where
  abbrev here : Assigned
  here = assigned_in G.me s

  -- by the equations of its type and its code
  as_is : (t : ValueType) (c d : TypedExpression) (sh : Shape) → t ≡ Known sh → c ≡ d → HasType K here d sh → TypedAs K here t c
  as_is t c d sh e f h = (sh, e, subst (λ c. HasType K here c sh) (sym f) h)

  this_typed : (k : ℕ) → G.me ≡ Some k → HasType K here (typed.Local 0) (shape.Class k)
  this_typed k e = subst (λ me. HasType K (assigned_in me s) (typed.Local 0) (shape.Class k)) (sym e) refl

  -- a name in scope
  slot_typed : (x : Named) (m : Meaning) (t : ValueType) (c : TypedExpression) → meaning_of s x ≡ Some m → IsSlot m t c → TypedAs K here t c
  slot_typed x (SlotIs slot sh) t c e h = as_is t c _ sh h.0 h.1 (slot_set G.me params s x.name (SlotIs slot sh) (record { slot = slot; shape = sh }) scope e refl)
  slot_typed x (ParameterIs slot class) t c e h =
      as_is t c _ (shape.Class class) h.0 h.1 (slot_set G.me params s x.name (ParameterIs slot class) (record { slot = slot; shape = shape.Class class }) scope e refl)
  slot_typed x (TagIs variable tag_type) t c e h = absurd h

  -- an action in the braces of a `new`
  tweak_typed : (c : ℕ) (k : TypedClass) → slice_get K c ≡ Some k → (before : List Tweak) (a : ActionText) (after : List Tweak) → All (IsTweak here k) before → Tweaks G.names s c before a after → All (IsTweak here k) after
  tweak_typed c k e before (action.Flag x b) after p h =
      let q = agrees.flag c x.name h.0 h.1 in
      let same : q.0 ≡ k = some_eq q.0 k (sym q.1 ∙ e) in
      subst (All (IsTweak here k)) (sym h.2) (All-push (IsTweak here k) before (tweak.Flag h.0 b) p (subst (λ k. h.0 < length k.flags) same q.2))
  tweak_typed c k e before (action.Add at x) after p h =
      subst (All (IsTweak here k)) (sym h.2) (All-push (IsTweak here k) before (tweak.Add at h.0) p (tag_set G.me s x.name h.0 h.1.0 h.1.1))
  tweak_typed c k e before (action.Clear at x) after p h = absurd h

  mutual
    pub expression_typed : (e : Expression) (t : ValueType) (c : TypedExpression) → Has G s e t c → TypedAs K here t c
    expression_typed (Int at n) t c h = as_is t c _ shape.Int h.0 h.1 refl
    expression_typed (Truth at b) t c h = as_is t c _ shape.Bool h.0 h.1 refl
    expression_typed (Null at) t c h = as_is t c _ shape.Null h.0 h.1 refl
    expression_typed (This at) t c h = as_is t c _ (shape.Class h.0) h.2 h.3 (this_typed h.0 h.1)
    expression_typed (Var x) t c h = slot_typed x h.0 t c h.1 h.2
    expression_typed (Group at e) t c h = expression_typed e t c h
    expression_typed (Neg at e) t c h = as_is t c _ shape.Int h.2 h.3 (at_shape K here shape.Int h.0 (expression_typed e _ _ h.1), refl)
    expression_typed (Not at e) t c h = as_is t c _ shape.Bool h.2 h.3 (at_shape K here shape.Bool h.0 (expression_typed e _ _ h.1), refl)
    expression_typed (Two at op a b) t c h =
        let p = expression_typed a _ _ h.4 in
        let q = expression_typed b _ _ h.5 in
        let k : takes op (Known p.0) (Known q.0) ≡ true = ap (λ z. takes op (Known p.0) z) (sym q.1) ∙ ap (λ z. takes op z h.1) (sym p.1) ∙ h.6 in
        as_is t c _ (result_shape op) h.7 h.8 (p.0, q.0, p.2, q.2, takes_shapes op p.0 q.0 k, refl)
    expression_typed (Field at a x) t c h =
        let q = agrees.field h.0 x.name h.1 t h.4 in
        as_is t c _ q.0 q.1 h.5 (h.0, at_shape K here (shape.Class h.0) h.2 (expression_typed a _ _ h.3), q.2)
    expression_typed (Length at a) t c h =
        let p = expression_typed a _ _ h.3 in
        let y = element_known p.0 h.1 (ap (λ x. element_of x) (sym p.1) ∙ h.4) in
        as_is t c _ shape.Int h.5 h.6 (p.0, y.0, p.2, y.2, refl)
    expression_typed (Elem at a i) t c h =
        let p = expression_typed a _ _ h.3 in
        let y = element_known p.0 t (ap (λ x. element_of x) (sym p.1) ∙ h.5) in
        as_is t c _ y.0 y.1 h.6 (p.0, p.2, at_shape K here shape.Int h.2 (expression_typed i _ _ h.4), y.2)
    expression_typed (Call at a x args) t c h =
        let p = at_shape K here (shape.Class h.0) h.3 (expression_typed a _ _ h.6) in
        let q = expressions_typed args _ _ h.7 in
        let m = agrees.method h.0 x.name h.1 h.2 h.8 in
        let r = result_known m.0.result t (sym m.3 ∙ h.10) in
        as_is t c _ r.0 r.1 h.11 (m.0, q.0, p, m.1, q.2, fit_known _ _ q.0 m.0.formals q.1 m.2 h.9, r.2)
    expression_typed (Make at x args tweaks) t c h =
        let q = expressions_typed args _ _ h.4 in
        let k = element_within K h.0 (agrees.class x.name h.0 h.5) in
        let ts = each_keeps (All (IsTweak here k.0)) (Tweaks G.names s h.0) (tweak_typed h.0 k.0 k.1) [] tweaks h.3 (All-nil (IsTweak here k.0)) h.7 in
        as_is t c _ (shape.Class h.0) h.8 h.9 (k.0, q.0, k.1, q.2, fit_known _ _ q.0 (maker_shapes k.0.maker) q.1 (agrees.maker h.0 k.0 k.1) h.6, ts, refl)
    expression_typed (Array at kind e) t c h =
        as_is t c _ (shape_of_kind h.0) h.4 h.5 (array_kind_declared G.names (length K) kind.base h.0 agrees.class h.3, at_shape K here shape.Int h.1 (expression_typed e _ _ h.2), refl)

    pub expressions_typed : (es : Expressions) (ts : List ValueType) (vs : TypedExpressions) → HaveAll G s es ts vs → TypedAll K here ts vs
    expressions_typed NoArg ts vs h = ([], h.0, subst (λ vs. HaveTypes K here vs []) (sym h.1) refl)
    expressions_typed (Arg front last) ts vs h =
        let p = expressions_typed front _ _ h.4 in
        let q = expression_typed last _ _ h.5 in
        let us : List Shape = p.0 ++ q.0 ∷ [] in (
          us,
          h.6 ∙ ap (λ ys. ys ++ h.2 ∷ []) p.1 ∙ ap (λ x. map Known p.0 ++ x ∷ []) q.1 ∙ sym (map-append Known p.0 (q.0 ∷ [])),
          subst (λ vs. HaveTypes K here vs us) (sym h.7) (p.0, q.0, p.2, q.2, refl),
        )
