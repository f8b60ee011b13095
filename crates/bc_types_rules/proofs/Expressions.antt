-- Expressions: the definition gives exactly what the rules allow.
use Rattle.std.proofs.Common.{◌≡◌, ℕ, List, [], ◌∷◌, ◌++◌, ◌==◌, length, Some, true, false, is_some, refl, ap, sym, ◌∙◌, subst, arith}
use Rattle.std.proofs.lemmas.Bool.{eqb-true, eq-eqb}
use Rattle.bc_data.specs.SourceTree.{Expression, Int, Truth, Null, This, Var, Group, Neg, Not, Two, Field, Length, Elem, Call, Make, Array, Expressions, NoArg, Arg}
use Rattle.bc_data.specs.declared.tree.Named.{Named}
use Rattle.bc_data.specs.declared.tree.Base.{Base}
use Rattle.bc_data.specs.declared.tree.Base.TheVariants as base
use Rattle.bc_data.specs.declared.tree.ActionText.{ActionText}
use Rattle.bc_data.specs.declared.tree.ActionText.TheVariants as action
use Rattle.bc_data.specs.declared.run.Place.{Place}
use Rattle.bc_data.specs.declared.run.Kind as run_kind
use Rattle.bc_data.specs.declared.program.Shape.TheVariants as shape
use Rattle.bc_data.specs.declared.program.Tweak.{Tweak}
use Rattle.bc_types_rules.specs.Got.{Got, Gives, ask, find, Unknown, Mismatch, Arity, Misplaced}
use Rattle.bc_types_rules.specs.Numbering.{try_fold}
use Rattle.bc_data.specs.Typed as typed
use Rattle.bc_data.specs.Typed.{TypedExpression, TypedExpressions}
use Rattle.bc_types_rules.specs.Context.{ValueType, Known, Undeclared, Signature, FieldFound, MethodFound, Names, Context, Meaning, SlotIs, ParameterIs, TagIs, Scope, meaning_of, tag_variable, tag_variable_at, fits, is_int, is_bool, element_of, class_before, field_at}
use Rattle.bc_types_rules.specs.Expressions.{Typed, Argument, Arguments, Called, place_of, slot_value, takes, check_fits, check_arguments, check_call, check_tweak, array_at, infer, infer_all}
use Rattle.bc_types_rules.specs.ExpressionRules.{Fit, IsSlot, IsTagVariable, Tweaks, IsArrayOf, Has, HaveAll}
use Rattle.bc_types_rules.proofs.Steps.{step_back, step_on, gives_eq, asked, ask_ok, was_found, find_ok, some_of, fold_back, fold_on}

abbrev pub types : List Argument → List ValueType
types [] = []
types (x ∷ xs) = x.type ∷ types xs

pub types_end : (xs : List Argument) (x : Argument) → types (xs ++ x ∷ []) ≡ types xs ++ x.type ∷ []
types_end [] x = refl
types_end (y ∷ ys) x = ap (λ ts. y.type ∷ ts) (types_end ys x)

pub int_of : (t : ValueType) → is_int t ≡ true → t ≡ Known shape.Int
int_of (Known shape.Int) h = refl
int_of (Known shape.Bool) h = cc
int_of (Known shape.Null) h = cc
int_of (Known (shape.Class c)) h = cc
int_of (Known shape.Ints) h = cc
int_of (Known shape.Bools) h = cc
int_of (Known (shape.Objects c)) h = cc
int_of (Undeclared many name) h = cc

pub bool_of : (t : ValueType) → is_bool t ≡ true → t ≡ Known shape.Bool
bool_of (Known shape.Int) h = cc
bool_of (Known shape.Bool) h = refl
bool_of (Known shape.Null) h = cc
bool_of (Known (shape.Class c)) h = cc
bool_of (Known shape.Ints) h = cc
bool_of (Known shape.Bools) h = cc
bool_of (Known (shape.Objects c)) h = cc
bool_of (Undeclared many name) h = cc

pub class_of_back : (t : ValueType) (at : Place) (x : Named) (c : ℕ) → class_before t at x ≡ Gives c → t ≡ Known (shape.Class c)
class_of_back (Known shape.Int) at x c h = cc
class_of_back (Known shape.Bool) at x c h = cc
class_of_back (Known shape.Null) at x c h = cc
class_of_back (Known (shape.Class d)) at x c h = ap (λ c. Known (shape.Class c)) (gives_eq _ _ h)
class_of_back (Known shape.Ints) at x c h = cc
class_of_back (Known shape.Bools) at x c h = cc
class_of_back (Known (shape.Objects d)) at x c h = cc
class_of_back (Undeclared true name) at x c h = cc
class_of_back (Undeclared false name) at x c h = cc

pub field_back : (N : Names) (t : ValueType) (at : Place) (x : Named) (r : FieldFound) → field_at N t at x ≡ Gives r → (c : ℕ) × (t ≡ Known (shape.Class c)) × (N.field_of c x.name ≡ Some r)
field_back N t at x r h =
    let c = step_back (class_before t at x) _ _ h in
    (c.0, class_of_back t at x c.0 c.1, was_found _ _ _ _ c.2)

pub field_on : (N : Names) (at : Place) (x : Named) (c : ℕ) (r : FieldFound) → N.field_of c x.name ≡ Some r → field_at N (Known (shape.Class c)) at x ≡ Gives r
field_on N at x c r h = find_ok _ _ _ _ h

fits_back : (xs : List Argument) (fs : List ValueType) (u : Unit {0}) → length xs ≡ length fs → check_fits xs fs ≡ Gives u → Fit (types xs) fs
fits_back [] [] u e h = tt
fits_back [] (f ∷ fs) u e h = absurd (omega arith)
fits_back (x ∷ xs) [] u e h = absurd (omega arith)
fits_back (x ∷ xs) (f ∷ fs) u e h =
    let b = step_back (ask (fits x.type f) Mismatch x.at) _ _ h in
    (asked _ _ _ _ b.1, fits_back xs fs _ (omega arith) b.2)

fits_on : (xs : List Argument) (fs : List ValueType) → Fit (types xs) fs → check_fits xs fs ≡ Gives tt
fits_on [] [] h = refl
fits_on [] (f ∷ fs) h = absurd h
fits_on (x ∷ xs) [] h = absurd h
fits_on (x ∷ xs) (f ∷ fs) h = step_on (ask (fits x.type f) Mismatch x.at) _ tt _ (ask_ok _ _ _ h.0) (fits_on xs fs h.1)

fit_long : (xs : List Argument) (fs : List ValueType) → Fit (types xs) fs → length xs ≡ length fs
fit_long [] [] h = refl
fit_long [] (f ∷ fs) h = absurd h
fit_long (x ∷ xs) [] h = absurd h
fit_long (x ∷ xs) (f ∷ fs) h = omega (arith, fit_long xs fs h.1)

pub arguments_back : (at : Place) (xs : List Argument) (fs : List ValueType) (u : Unit {0}) → check_arguments at xs fs ≡ Gives u → Fit (types xs) fs
arguments_back at xs fs u h =
    let a = step_back (ask (length xs == length fs) Arity at) _ _ h in
    fits_back xs fs u (eqb-true _ _ (asked _ _ _ _ a.1)) a.2

pub arguments_on : (at : Place) (xs : List Argument) (fs : List ValueType) → Fit (types xs) fs → check_arguments at xs fs ≡ Gives tt
arguments_on at xs fs h = step_on (ask (length xs == length fs) Arity at) _ tt _ (ask_ok _ _ _ (eq-eqb _ _ (fit_long xs fs h))) (fits_on xs fs h)

pub call_back :
    (N : Names) (at : Place) (o : Typed) (x : Named) (ys : Arguments) (z : Called)
    → check_call N at o x ys ≡ Gives z
    → (k m : ℕ) × (sig : Signature) × (o.type ≡ Known (shape.Class k)) × (N.method_of k x.name ≡ Some (record { method = m; signature = sig }))
    × Fit (types ys.each) sig.formals × (z.result ≡ sig.result) × (z.code ≡ typed.Call at o.code k m ys.codes)
call_back N at o x ys z h =
    let c = step_back (class_before o.type at x) _ _ h in
    let r = step_back (find (N.method_of c.0 x.name) Unknown x.at) _ _ c.2 in
    let a = step_back (check_arguments at ys.each r.0.signature.formals) _ _ r.2 in
    let g = gives_eq _ _ a.2 in (
      c.0,
      r.0.method,
      r.0.signature,
      class_of_back o.type at x c.0 c.1,
      was_found _ _ _ _ r.1,
      arguments_back at _ _ _ a.1,
      sym (ap (λ z. z.result) g),
      sym (ap (λ z. z.code) g),
    )

abbrev pub method_found : ℕ → Signature → MethodFound
method_found m sig = record { method = m; signature = sig }

pub call_on :
    (N : Names) (at : Place) (u : TypedExpression) (x : Named) (ys : Arguments) (k m : ℕ) (sig : Signature)
    → N.method_of k x.name ≡ Some (method_found m sig)
    → Fit (types ys.each) sig.formals
    → check_call N at (record { code = u; type = Known (shape.Class k) }) x ys ≡ Gives (record { code = typed.Call at u k m ys.codes; result = sig.result })
call_on N at u x ys k m sig e f =
    step_on (find (N.method_of k x.name) Unknown x.at) _ (method_found m sig) _ (find_ok _ _ _ _ e)
    (step_on (check_arguments at ys.each sig.formals) _ tt _ (arguments_on at _ _ f) refl)

pub tag_back : (s : Scope) (x : Named) (v : ℕ) → tag_variable_at s x ≡ Gives v → IsTagVariable s x v
tag_back s x v h =
    let m = step_back (find (meaning_of s x) Unknown x.at) _ _ h in
    let e = was_found _ _ _ _ m.1 in
    let f = is_tag m.0 (was_found _ _ _ _ m.2) in
    (f.0, e ∙ ap Some f.1)
  where
    is_tag : (m : Meaning) → tag_variable m ≡ Some v → (k : ℕ) × (m ≡ TagIs v k)
    is_tag (SlotIs slot sh) h = cc
    is_tag (ParameterIs slot class) h = cc
    is_tag (TagIs variable k) h = (k, ap (λ v. TagIs v k) (some_eq h))
      where
        some_eq : Some variable ≡ Some v → variable ≡ v
        some_eq h = cc

pub tag_on : (s : Scope) (x : Named) (v : ℕ) → IsTagVariable s x v → tag_variable_at s x ≡ Gives v
tag_on s x v h = step_on (find (meaning_of s x) Unknown x.at) _ (TagIs v h.0) _ (find_ok _ _ _ _ h.1) refl

pub tweak_back : (N : Names) (s : Scope) (k : ℕ) (ts : List Tweak) (a : ActionText) (us : List Tweak) → check_tweak N s k ts a ≡ Gives us → Tweaks N s k ts a us
tweak_back N s k ts (action.Flag x b) us h =
    let f = step_back (find (N.flag_of k x.name) Unknown x.at) _ _ h in
    (f.0, was_found _ _ _ _ f.1, sym (gives_eq _ _ f.2))
tweak_back N s k ts (action.Add at x) us h =
    let v = step_back (tag_variable_at s x) _ _ h in
    (v.0, tag_back s x v.0 v.1, sym (gives_eq _ _ v.2))
tweak_back N s k ts (action.Clear at x) us h = cc

pub tweak_on : (N : Names) (s : Scope) (k : ℕ) (ts : List Tweak) (a : ActionText) (us : List Tweak) → Tweaks N s k ts a us → check_tweak N s k ts a ≡ Gives us
tweak_on N s k ts (action.Flag x b) us h = step_on (find (N.flag_of k x.name) Unknown x.at) _ h.0 _ (find_ok _ _ _ _ h.1) (ap Gives (sym h.2))
tweak_on N s k ts (action.Add at x) us h = step_on (tag_variable_at s x) _ h.0 _ (tag_on s x h.0 h.1) (ap Gives (sym h.2))
tweak_on N s k ts (action.Clear at x) us h = absurd h

pub array_back : (N : Names) (b : Base) (at : Place) (k : run_kind.Kind) → array_at N b at ≡ Gives k → IsArrayOf N b k
array_back N base.Int at k h = sym (gives_eq _ _ h)
array_back N base.Bool at k h = sym (gives_eq _ _ h)
array_back N (base.Class name) at k h =
    let c = step_back (find (N.class_of name) Unknown at) _ _ h in
    (c.0, was_found _ _ _ _ c.1, sym (gives_eq _ _ c.2))

pub array_on : (N : Names) (b : Base) (at : Place) (k : run_kind.Kind) → IsArrayOf N b k → array_at N b at ≡ Gives k
array_on N base.Int at k h = ap Gives (sym h)
array_on N base.Bool at k h = ap Gives (sym h)
array_on N (base.Class name) at k h = step_on (find (N.class_of name) Unknown at) _ h.0 _ (find_ok _ _ _ _ h.1) (ap Gives (sym h.2))

abbrev pub pair : TypedExpression → ValueType → Typed
pair c t = record { code = c; type = t }

pub leaf : (t u : ValueType) (c d : TypedExpression) → Gives (pair d u) ≡ Gives (pair c t) → (t ≡ u) × (c ≡ d)
leaf t u c d h = let e = gives_eq _ _ h in (sym (ap (λ x. x.type) e), sym (ap (λ x. x.code) e))

pub meet : (t u : ValueType) (c d : TypedExpression) → t ≡ u → c ≡ d → Gives (pair d u) ≡ Gives (pair c t)
meet t u c d e f = ap (λ z. Gives (pair d z)) (sym e) ∙ ap (λ z. Gives (pair z t)) (sym f)

slot_back : (m : Meaning) (x : Typed) → slot_value m ≡ Some x → IsSlot m x.type x.code
slot_back (SlotIs slot sh) x h = let e = some_eq h in (sym (ap (λ x. x.type) e), sym (ap (λ x. x.code) e))
  where
    some_eq : Some (pair (typed.Local slot) (Known sh)) ≡ Some x → pair (typed.Local slot) (Known sh) ≡ x
    some_eq h = cc
slot_back (ParameterIs slot class) x h = let e = some_eq h in (sym (ap (λ x. x.type) e), sym (ap (λ x. x.code) e))
  where
    some_eq : Some (pair (typed.Local slot) (Known (shape.Class class))) ≡ Some x → pair (typed.Local slot) (Known (shape.Class class)) ≡ x
    some_eq h = cc
slot_back (TagIs variable tag_type) x h = cc

slot_on : (m : Meaning) (t : ValueType) (c : TypedExpression) → IsSlot m t c → slot_value m ≡ Some (pair c t)
slot_on (SlotIs slot sh) t c h = ap (λ t. Some (pair (typed.Local slot) t)) (sym h.0) ∙ ap (λ c. Some (pair c t)) (sym h.1)
slot_on (ParameterIs slot class) t c h = ap (λ t. Some (pair (typed.Local slot) t)) (sym h.0) ∙ ap (λ c. Some (pair c t)) (sym h.1)
slot_on (TagIs variable tag_type) t c h = absurd h

-- a result whose type is known to be another
pub as_type : (g : Got Typed) (x : Typed) (t : ValueType) → g ≡ Gives x → x.type ≡ t → g ≡ Gives (pair x.code t)
as_type g x t h e = h ∙ ap (λ z. Gives (pair x.code z)) e

mutual
  pub has_of : (G : Context) (s : Scope) (e : Expression) (t : ValueType) (c : TypedExpression) → infer G s e ≡ Gives (pair c t) → Has G s e t c
  has_of G s (Int at n) t c h = leaf _ _ _ _ h
  has_of G s (Truth at b) t c h = leaf _ _ _ _ h
  has_of G s (Null at) t c h = leaf _ _ _ _ h
  has_of G s (This at) t c h =
      let m = step_back (find G.me Misplaced at) _ _ h in
      let e = leaf _ _ _ _ m.2 in
      (m.0, was_found _ _ _ _ m.1, e.0, e.1)
  has_of G s (Var x) t c h =
      let m = step_back (find (meaning_of s x) Unknown x.at) _ _ h in
      (m.0, was_found _ _ _ _ m.1, slot_back m.0 (pair c t) (was_found _ _ _ _ m.2))
  has_of G s (Group at e) t c h = has_of G s e t c h
  has_of G s (Neg at e) t c h =
      let x = step_back (infer G s e) _ _ h in
      let a = step_back (ask (is_int x.0.type) Mismatch at) _ _ x.2 in
      let q = leaf _ _ _ _ a.2 in
      (x.0.code, has_of G s e _ _ (as_type _ x.0 _ x.1 (int_of _ (asked _ _ _ _ a.1))), q.0, q.1)
  has_of G s (Not at e) t c h =
      let x = step_back (infer G s e) _ _ h in
      let a = step_back (ask (is_bool x.0.type) Mismatch at) _ _ x.2 in
      let q = leaf _ _ _ _ a.2 in
      (x.0.code, has_of G s e _ _ (as_type _ x.0 _ x.1 (bool_of _ (asked _ _ _ _ a.1))), q.0, q.1)
  has_of G s (Two at op a b) t c h =
      let x = step_back (infer G s a) _ _ h in
      let y = step_back (infer G s b) _ _ x.2 in
      let z = step_back (ask (takes op x.0.type y.0.type) Mismatch at) _ _ y.2 in
      let q = leaf _ _ _ _ z.2 in
      (x.0.type, y.0.type, x.0.code, y.0.code, has_of G s a _ _ x.1, has_of G s b _ _ y.1, asked _ _ _ _ z.1, q.0, q.1)
  has_of G s (Field at a x) t c h =
      let o = step_back (infer G s a) _ _ h in
      let r = step_back (field_at G.names o.0.type at x) _ _ o.2 in
      let f = field_back G.names o.0.type at x r.0 r.1 in
      let q = leaf _ _ _ _ r.2 in
      (f.0, r.0.field, o.0.code, has_of G s a _ _ (as_type _ o.0 _ o.1 f.1), f.2 ∙ ap (λ z. Some (record { field = r.0.field; type = z })) (sym q.0), q.1)
  has_of G s (Length at a) t c h =
      let x = step_back (infer G s a) _ _ h in
      let z = step_back (ask (is_some (element_of x.0.type)) Mismatch at) _ _ x.2 in
      let y = some_of _ (asked _ _ _ _ z.1) in
      let q = leaf _ _ _ _ z.2 in
      (x.0.type, y.0, x.0.code, has_of G s a _ _ x.1, y.1, q.0, q.1)
  has_of G s (Elem at a i) t c h =
      let x = step_back (infer G s a) _ _ h in
      let y = step_back (infer G s i) _ _ x.2 in
      let z = step_back (find (element_of x.0.type) Mismatch at) _ _ y.2 in
      let w = step_back (ask (is_int y.0.type) Mismatch at) _ _ z.2 in
      let q = leaf _ _ _ _ w.2 in
      (x.0.type, x.0.code, y.0.code, has_of G s a _ _ x.1, has_of G s i _ _ (as_type _ y.0 _ y.1 (int_of _ (asked _ _ _ _ w.1))), was_found _ _ _ _ z.1 ∙ ap Some (sym q.0), q.1)
  has_of G s (Call at a x args) t c h =
      let o = step_back (infer G s a) _ _ h in
      let y = step_back (infer_all G s args) _ _ o.2 in
      let z = step_back (check_call G.names at o.0 x y.0) _ _ y.2 in
      let w = step_back (find z.0.result Mismatch at) _ _ z.2 in
      let b = call_back G.names at o.0 x y.0 z.0 z.1 in
      let q = leaf _ _ _ _ w.2 in
      (b.0, b.1, b.2, o.0.code, types y.0.each, y.0.codes, has_of G s a _ _ (as_type _ o.0 _ o.1 b.3), have_of G s args _ y.1, b.4, b.5, sym b.6 ∙ was_found _ _ _ _ w.1 ∙ ap Some (sym q.0), q.1 ∙ b.7)
  has_of G s (Make at x args tweaks) t c h =
      let y = step_back (infer_all G s args) _ _ h in
      let k = step_back (find (G.names.class_of x.name) Unknown x.at) _ _ y.2 in
      let a = step_back (check_arguments at y.0.each (G.names.maker_formals k.0)) _ _ k.2 in
      let ts = step_back (try_fold (check_tweak G.names s k.0) [] tweaks) _ _ a.2 in
      let q = leaf _ _ _ _ ts.2 in
      (k.0, types y.0.each, y.0.codes, ts.0, have_of G s args _ y.1, was_found _ _ _ _ k.1, arguments_back at _ _ _ a.1, fold_back _ _ (tweak_back G.names s k.0) _ tweaks _ ts.1, q.0, q.1)
  has_of G s (Array at kind e) t c h =
      let x = step_back (infer G s e) _ _ h in
      let k = step_back (array_at G.names kind.base kind.at) _ _ x.2 in
      let a = step_back (ask (is_int x.0.type) Mismatch at) _ _ k.2 in
      let q = leaf _ _ _ _ a.2 in
      (k.0, x.0.code, has_of G s e _ _ (as_type _ x.0 _ x.1 (int_of _ (asked _ _ _ _ a.1))), array_back G.names kind.base kind.at k.0 k.1, q.0, q.1)

  pub have_of : (G : Context) (s : Scope) (es : Expressions) (a : Arguments) → infer_all G s es ≡ Gives a → HaveAll G s es (types a.each) a.codes
  have_of G s NoArg a h = let e = gives_eq _ _ h in (sym (ap (λ a. types a.each) e), sym (ap (λ a. a.codes) e))
  have_of G s (Arg front last) a h =
      let y = step_back (infer_all G s front) _ _ h in
      let x = step_back (infer G s last) _ _ y.2 in
      let q = gives_eq _ _ x.2 in
      (types y.0.each, y.0.codes, x.0.type, x.0.code, have_of G s front y.0 y.1, has_of G s last _ _ x.1, sym (ap (λ a. types a.each) q) ∙ types_end y.0.each _, sym (ap (λ a. a.codes) q))

mutual
  pub infer_of : (G : Context) (s : Scope) (e : Expression) (t : ValueType) (c : TypedExpression) → Has G s e t c → infer G s e ≡ Gives (pair c t)
  infer_of G s (Int at n) t c h = meet _ _ _ _ h.0 h.1
  infer_of G s (Truth at b) t c h = meet _ _ _ _ h.0 h.1
  infer_of G s (Null at) t c h = meet _ _ _ _ h.0 h.1
  infer_of G s (This at) t c h = step_on (find G.me Misplaced at) _ h.0 _ (find_ok _ _ _ _ h.1) (meet _ _ _ _ h.2 h.3)
  infer_of G s (Var x) t c h = step_on (find (meaning_of s x) Unknown x.at) _ h.0 _ (find_ok _ _ _ _ h.1) (find_ok _ _ _ _ (slot_on h.0 t c h.2))
  infer_of G s (Group at e) t c h = infer_of G s e t c h
  infer_of G s (Neg at e) t c h = step_on (infer G s e) _ (pair h.0 (Known shape.Int)) _ (infer_of G s e _ _ h.1) (meet _ _ _ _ h.2 h.3)
  infer_of G s (Not at e) t c h = step_on (infer G s e) _ (pair h.0 (Known shape.Bool)) _ (infer_of G s e _ _ h.1) (meet _ _ _ _ h.2 h.3)
  infer_of G s (Two at op a b) t c h =
      step_on (infer G s a) _ (pair h.2 h.0) _ (infer_of G s a _ _ h.4)
      (step_on (infer G s b) _ (pair h.3 h.1) _ (infer_of G s b _ _ h.5)
      (step_on (ask (takes op h.0 h.1) Mismatch at) _ tt _ (ask_ok _ _ _ h.6) (meet _ _ _ _ h.7 h.8)))
  infer_of G s (Field at a x) t c h =
      step_on (infer G s a) _ (pair h.2 (Known (shape.Class h.0))) _ (infer_of G s a _ _ h.3)
      (step_on (field_at G.names (Known (shape.Class h.0)) at x) _ (record { field = h.1; type = t }) _ (field_on G.names at x h.0 _ h.4) (meet _ _ _ _ refl h.5))
  infer_of G s (Length at a) t c h =
      step_on (infer G s a) _ (pair h.2 h.0) _ (infer_of G s a _ _ h.3)
      (step_on (ask (is_some (element_of h.0)) Mismatch at) _ tt _ (ask_ok _ _ _ (ap (λ o. is_some o) h.4)) (meet _ _ _ _ h.5 h.6))
  infer_of G s (Elem at a i) t c h =
      step_on (infer G s a) _ (pair h.1 h.0) _ (infer_of G s a _ _ h.3)
      (step_on (infer G s i) _ (pair h.2 (Known shape.Int)) _ (infer_of G s i _ _ h.4)
      (step_on (find (element_of h.0) Mismatch at) _ t _ (find_ok _ _ _ _ h.5) (meet _ _ _ _ refl h.6)))
  infer_of G s (Call at a x args) t c h =
      let ys = all_of G s args _ _ h.7 in
      step_on (infer G s a) _ (pair h.3 (Known (shape.Class h.0))) _ (infer_of G s a _ _ h.6)
      (step_on (infer_all G s args) _ ys.0 _ ys.1
      (step_on (check_call G.names at (pair h.3 (Known (shape.Class h.0))) x ys.0) _ _ _ (call_on G.names at h.3 x ys.0 h.0 h.1 h.2 h.8 (subst (λ xs. Fit xs h.2.formals) (sym ys.2) h.9))
      (step_on (find h.2.result Mismatch at) _ t _ (find_ok _ _ _ _ h.10) (meet _ _ _ _ refl (h.11 ∙ ap (typed.Call at h.3 h.0 h.1) (sym ys.3))))))
  infer_of G s (Make at x args tweaks) t c h =
      let ys = all_of G s args _ _ h.4 in
      step_on (infer_all G s args) _ ys.0 _ ys.1
      (step_on (find (G.names.class_of x.name) Unknown x.at) _ h.0 _ (find_ok _ _ _ _ h.5)
      (step_on (check_arguments at ys.0.each (G.names.maker_formals h.0)) _ tt _ (arguments_on at _ _ (subst (λ xs. Fit xs (G.names.maker_formals h.0)) (sym ys.2) h.6))
      (step_on (try_fold (check_tweak G.names s h.0) [] tweaks) _ h.3 _ (fold_on _ _ (tweak_on G.names s h.0) _ tweaks _ h.7)
      (meet _ _ _ _ h.8 (h.9 ∙ ap (λ vs. typed.Make at h.0 vs h.3) (sym ys.3))))))
  infer_of G s (Array at kind e) t c h =
      step_on (infer G s e) _ (pair h.1 (Known shape.Int)) _ (infer_of G s e _ _ h.2)
      (step_on (array_at G.names kind.base kind.at) _ h.0 _ (array_on G.names kind.base kind.at h.0 h.3) (meet _ _ _ _ h.4 h.5))

  pub all_of : (G : Context) (s : Scope) (es : Expressions) (xs : List ValueType) (vs : TypedExpressions) → HaveAll G s es xs vs → (a : Arguments) × (infer_all G s es ≡ Gives a) × (types a.each ≡ xs) × (a.codes ≡ vs)
  all_of G s NoArg xs vs h = (record { codes = typed.NoArg; each = [] }, refl, sym h.0, sym h.1)
  all_of G s (Arg front last) xs vs h =
      let ys = all_of G s front _ _ h.4 in
      let x : Argument = record { type = h.2; at = place_of last } in (
        record { codes = typed.Arg ys.0.codes h.3; each = ys.0.each ++ x ∷ [] },
        step_on (infer_all G s front) _ ys.0 _ ys.1 (step_on (infer G s last) _ (pair h.3 h.2) _ (infer_of G s last _ _ h.5) refl),
        types_end ys.0.each x ∙ ap (λ ts. ts ++ h.2 ∷ []) ys.2 ∙ sym h.6,
        ap (λ vs. typed.Arg vs h.3) ys.3 ∙ sym h.7,
      )

pub one : (G : Context) (s : Scope) (e : Expression) (t u : ValueType) (c d : TypedExpression) → Has G s e t c → Has G s e u d → (t ≡ u) × (c ≡ d)
one G s e t u c d h i = leaf _ _ _ _ (sym (infer_of G s e u d i) ∙ infer_of G s e t c h)
