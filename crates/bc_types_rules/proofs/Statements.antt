-- Statements: the definition gives exactly what the rules allow.
use Rattle.std.proofs.Common.{◌≡◌, ◌⊎◌, ℕ, List, [], ◌∷◌, ◌++◌, ◌==◌, Option, Some, None, Bool, true, false, nat_lt, is_some, not, refl, ap, sym, ◌∙◌, subst, inl, inr}
use Rattle.std.specs.List.{list_any}
use Rattle.std.proofs.lemmas.Bool.{ltb-true, lt-ltb}
use Rattle.bc_data.specs.SourceTree.{Sequence, Empty, More, Expression, Call, PrintItem, TextItem, ValueItem, Change, ChangeOf, Statement, Let, NewTag, Assign, Do, MakeDo, Block, If, IfElse, While, Return, ReturnValue, Print, Assert, Exit, Statements, Nothing, Then}
use Rattle.bc_data.specs.declared.tree.Named.{Named}
use Rattle.bc_data.specs.declared.tree.TypeText.{TypeText}
use Rattle.bc_data.specs.declared.tree.ActionText.{ActionText}
use Rattle.bc_data.specs.declared.tree.ActionText.TheVariants as action
use Rattle.bc_data.specs.declared.program.Shape.{Shape}
use Rattle.bc_data.specs.declared.program.Shape.TheVariants as shape
use Rattle.bc_data.specs.declared.program.Change as program_change
use Rattle.bc_types_rules.specs.Got.{Got, Gives, ask, find, Twice, TooMany, Unknown, Mismatch, Fixed, Misplaced}
use Rattle.bc_types_rules.specs.Numbering.{try_fold}
use Rattle.bc_data.specs.Typed as typed
use Rattle.bc_data.specs.Typed.{TypedExpression, TypedPart, TypedStatement, TypedStatements}
use Rattle.bc_types_rules.specs.Context.{ValueType, Known, Undeclared, Names, Context, Meaning, SlotIs, ParameterIs, TagIs, Scope, meaning_of, is_free, with_slot, with_tag, may_declare, declare_slot, declare_tag, tag_variable_at, ended, type_of, declared_shape, shape_at, fits, is_bool}
use Rattle.bc_types_rules.specs.Expressions.{Typed, Called, place_of, infer, infer_all}
use Rattle.bc_types_rules.specs.Statements.{Stated, AllStated, Parameter, parameter_of, is_parameter, assignment, infer_call, ReadItem, ReadText, ReadValue, read_item, printed, check_part, check_parts, check_action, Exiting, none_named, check_change, state, state_all}
use Rattle.bc_types_rules.specs.ExpressionRules.{Each, Fit}
use Rattle.bc_types_rules.specs.StatementRules.{MayDeclare, Calls, Prints, Acts, Changes, Does, DoAll}
use Rattle.bc_types_rules.proofs.Steps.{step_back, step_on, gives_eq, asked, ask_ok, was_found, find_ok, some_of, none_of, fold_back, fold_on}
use Rattle.bc_types_rules.proofs.Expressions.{types, bool_of, call_back, call_on, tag_back, tag_on, pair, as_type, has_of, have_of, infer_of, all_of}

pub some_eq : {A : Type 0} (x y : A) → Some x ≡ Some y → x ≡ y
some_eq x y h = cc

pub false_of : (b : Bool) → not b ≡ true → b ≡ false
false_of true h = cc
false_of false h = refl

-- types and declarations
pub shape_back : (N : Names) (t : TypeText) (sh : Shape) → shape_at N t ≡ Gives sh → type_of N.class_of t ≡ Known sh
shape_back N t sh h = known (type_of N.class_of t) (was_found _ _ _ _ h)
  where
    known : (t : ValueType) → declared_shape t ≡ Some sh → t ≡ Known sh
    known (Known other) h = ap Known (some_eq _ _ h)
    known (Undeclared many name) h = cc

pub shape_on : (N : Names) (t : TypeText) (sh : Shape) → type_of N.class_of t ≡ Known sh → shape_at N t ≡ Gives sh
shape_on N t sh h = find_ok _ _ _ _ (ap (λ t. declared_shape t) h)

pub may_back : (s : Scope) (x : Named) (u : Unit {0}) → may_declare s x ≡ Gives u → MayDeclare s x
may_back s x u h =
    let a = step_back (ask (is_free s x) Twice x.at) (λ _. ask (nat_lt s.count 256) TooMany x.at) _ h in
    (none_of _ (asked _ _ _ _ a.1), ltb-true _ _ (asked _ _ _ _ a.2))

pub may_on : (s : Scope) (x : Named) → MayDeclare s x → may_declare s x ≡ Gives tt
may_on s x h =
    step_on (ask (is_free s x) Twice x.at) (λ _. ask (nat_lt s.count 256) TooMany x.at) tt _ (ask_ok _ _ _ (ap (λ o. not (is_some o)) h.0)) (ask_ok _ _ _ (lt-ltb _ _ h.1))

slot_back : (s : Scope) (x : Named) (sh : Shape) (t : Scope) → declare_slot s x sh ≡ Gives t → MayDeclare s x × (t ≡ with_slot s x sh)
slot_back s x sh t h =
    let a = step_back (may_declare s x) (λ _. Gives (with_slot s x sh)) _ h in
    (may_back s x a.0 a.1, sym (gives_eq _ _ a.2))

slot_on : (s : Scope) (x : Named) (sh : Shape) → MayDeclare s x → declare_slot s x sh ≡ Gives (with_slot s x sh)
slot_on s x sh h = step_on (may_declare s x) (λ _. Gives (with_slot s x sh)) tt _ (may_on s x h) refl

declare_tag_back : (s : Scope) (x : Named) (k : ℕ) (t : Scope) → declare_tag s x k ≡ Gives t → MayDeclare s x × (t ≡ with_tag s x k)
declare_tag_back s x k t h =
    let a = step_back (may_declare s x) (λ _. Gives (with_tag s x k)) _ h in
    (may_back s x a.0 a.1, sym (gives_eq _ _ a.2))

declare_tag_on : (s : Scope) (x : Named) (k : ℕ) → MayDeclare s x → declare_tag s x k ≡ Gives (with_tag s x k)
declare_tag_on s x k h = step_on (may_declare s x) (λ _. Gives (with_tag s x k)) tt _ (may_on s x h) refl

-- calls
abbrev called : Option ValueType → TypedExpression → Called
called r c = record { code = c; result = r }

abbrev with_result : Typed → Got Called
with_result x = Gives (called (Some x.type) x.code)

calls_back : (G : Context) (s : Scope) (e : Expression) (z : Called) → infer_call G s e ≡ Gives z → Calls G s e z.result z.code
calls_back G s (Call at a x args) z h =
    let o = step_back (infer G s a) _ _ h in
    let y = step_back (infer_all G s args) _ _ o.2 in
    let b = call_back G.names at o.0 x y.0 z y.2 in
    (b.0, b.1, b.2, o.0.code, types y.0.each, y.0.codes, has_of G s a _ _ (as_type _ o.0 _ o.1 b.3), have_of G s args _ y.1, b.4, b.5, b.6, b.7)
calls_back G s e z h =
    let x = step_back (infer G s e) with_result _ h in
    let q = gives_eq _ _ x.2 in
    (x.0.type, has_of G s e _ _ (x.1 ∙ ap (λ c. Gives (pair c x.0.type)) (ap (λ z. z.code) q)), sym (ap (λ z. z.result) q))

calls_on : (G : Context) (s : Scope) (e : Expression) (r : Option ValueType) (c : TypedExpression) → Calls G s e r c → infer_call G s e ≡ Gives (called r c)
calls_on G s (Call at a x args) r c h =
    let ys = all_of G s args _ _ h.7 in
    step_on (infer G s a) _ (pair h.3 (Known (shape.Class h.0))) _ (infer_of G s a _ _ h.6)
    (step_on (infer_all G s args) _ ys.0 _ ys.1
    (call_on G.names at h.3 x ys.0 h.0 h.1 h.2 h.8 (subst (λ xs. Fit xs h.2.formals) (sym ys.2) h.9)
    ∙ ap (λ vs. Gives (called h.2.result (typed.Call at h.3 h.0 h.1 vs))) ys.3
    ∙ ap (λ r. Gives (called r (typed.Call at h.3 h.0 h.1 h.5))) (sym h.10)
    ∙ ap (λ c. Gives (called r c)) (sym h.11)))
calls_on G s e r c h = step_on (infer G s e) with_result (pair c h.0) _ (infer_of G s e _ _ h.1) (ap (λ r. Gives (called r c)) (sym h.2))

-- items of a `print`
parts_back :
    (xs : List ReadItem) (x : ReadItem) (ps : List TypedPart)
    → check_parts (xs ++ x ∷ []) ≡ Gives ps
    → (qs : List TypedPart) × (p : TypedPart) × (check_parts xs ≡ Gives qs) × (check_part x ≡ Gives p) × (ps ≡ qs ++ p ∷ [])
parts_back [] x ps h =
    let p = step_back (check_part x) _ _ h in
    ([], p.0, refl, p.1, sym (gives_eq _ _ p.2))
parts_back (y ∷ ys) x ps h =
    let q = step_back (check_part y) _ _ h in
    let r = step_back (check_parts (ys ++ x ∷ [])) _ _ q.2 in
    let i = parts_back ys x r.0 r.1 in (
      q.0 ∷ i.0,
      i.1,
      step_on (check_part y) _ q.0 _ q.1 (step_on (check_parts ys) _ i.0 _ i.2 refl),
      i.3,
      sym (gives_eq _ _ r.2) ∙ ap (λ ps. q.0 ∷ ps) i.4,
    )

parts_on :
    (xs : List ReadItem) (x : ReadItem) (qs : List TypedPart) (p : TypedPart)
    → check_parts xs ≡ Gives qs
    → check_part x ≡ Gives p
    → check_parts (xs ++ x ∷ []) ≡ Gives (qs ++ p ∷ [])
parts_on [] x qs p h i = step_on (check_part x) _ p _ i (ap (λ qs. Gives (qs ++ p ∷ [])) (gives_eq _ _ h))
parts_on (y ∷ ys) x qs p h i =
    let a = step_back (check_part y) _ _ h in
    let b = step_back (check_parts ys) _ _ a.2 in
    step_on (check_part y) _ a.0 _ a.1
    (step_on (check_parts (ys ++ x ∷ [])) _ (b.0 ++ p ∷ []) _ (parts_on ys x b.0 p b.1 i) (ap (λ qs. Gives (qs ++ p ∷ [])) (gives_eq _ _ b.2)))

printed_back :
    (t : ValueType) (c : TypedExpression) (p : TypedPart)
    → printed t c ≡ Some p
    → ((t ≡ Known shape.Int) × (p ≡ typed.NumberPart c)) ⊎ ((t ≡ Known shape.Bool) × (p ≡ typed.TruthPart c))
printed_back (Known shape.Int) c p h = inl (refl, sym (some_eq _ _ h))
printed_back (Known shape.Bool) c p h = inr (refl, sym (some_eq _ _ h))
printed_back (Known shape.Null) c p h = cc
printed_back (Known (shape.Class k)) c p h = cc
printed_back (Known shape.Ints) c p h = cc
printed_back (Known shape.Bools) c p h = cc
printed_back (Known (shape.Objects k)) c p h = cc
printed_back (Undeclared many name) c p h = cc

value_back :
    (G : Context) (s : Scope) (e : Expression) (x : Typed) (qs ps : List TypedPart) (p : TypedPart)
    → infer G s e ≡ Gives x
    → check_part (ReadValue x (place_of e)) ≡ Gives p
    → ps ≡ qs ++ p ∷ []
    → Prints G s qs (ValueItem e) ps
value_back G s e x qs ps p i h f = (
  x.code,
  elim (printed_back x.type x.code p (was_found _ _ _ _ h)) [
    | inl q ↦ inl (has_of G s e _ _ (as_type _ x _ i q.0), f ∙ ap (λ p. qs ++ p ∷ []) q.1)
    | inr q ↦ inr (has_of G s e _ _ (as_type _ x _ i q.0), f ∙ ap (λ p. qs ++ p ∷ []) q.1)
  ],
)

prints_back :
    (G : Context) (s : Scope) (items : Sequence PrintItem) (xs : List ReadItem) (ps : List TypedPart)
    → try_fold (read_item G s) [] items ≡ Gives xs
    → check_parts xs ≡ Gives ps
    → Each (Prints G s) [] items ps
prints_back G s Empty xs ps h i = gives_eq _ _ (sym i ∙ ap check_parts (sym (gives_eq _ _ h)))
prints_back G s (More front (TextItem meaning)) xs ps h i =
    let a = step_back (try_fold (read_item G s) [] front) _ _ h in
    let b = parts_back a.0 (ReadText meaning) ps (ap check_parts (gives_eq _ _ a.2) ∙ i) in
    (b.0, prints_back G s front a.0 b.0 a.1 b.2, b.4 ∙ ap (λ p. b.0 ++ p ∷ []) (sym (gives_eq _ _ b.3)))
prints_back G s (More front (ValueItem e)) xs ps h i =
    let a = step_back (try_fold (read_item G s) [] front) _ _ h in
    let x = step_back (infer G s e) _ _ a.2 in
    let b = parts_back a.0 (ReadValue x.0 (place_of e)) ps (ap check_parts (gives_eq _ _ x.2) ∙ i) in
    (b.0, prints_back G s front a.0 b.0 a.1 b.2, value_back G s e x.0 b.0 ps b.1 x.1 b.3 b.4)

prints_on :
    (G : Context) (s : Scope) (items : Sequence PrintItem) (ps : List TypedPart)
    → Each (Prints G s) [] items ps
    → (xs : List ReadItem) × (try_fold (read_item G s) [] items ≡ Gives xs) × (check_parts xs ≡ Gives ps)
prints_on G s Empty ps h = ([], refl, ap Gives (sym h))
prints_on G s (More front (TextItem meaning)) ps h =
    let a = prints_on G s front h.0 h.1 in (
      a.0 ++ ReadText meaning ∷ [],
      step_on (try_fold (read_item G s) [] front) _ a.0 _ a.1 refl,
      parts_on a.0 (ReadText meaning) h.0 _ a.2 refl ∙ ap Gives (sym h.2),
    )
prints_on G s (More front (ValueItem e)) ps h =
    let a = prints_on G s front h.0 h.1 in
    elim h.2.1 [
      | inl q ↦ (
        a.0 ++ ReadValue (pair h.2.0 (Known shape.Int)) (place_of e) ∷ [],
        step_on (try_fold (read_item G s) [] front) _ a.0 _ a.1 (step_on (infer G s e) _ (pair h.2.0 (Known shape.Int)) _ (infer_of G s e _ _ q.0) refl),
        parts_on a.0 (ReadValue (pair h.2.0 (Known shape.Int)) (place_of e)) h.0 _ a.2 refl ∙ ap Gives (sym q.1),
      )
      | inr q ↦ (
        a.0 ++ ReadValue (pair h.2.0 (Known shape.Bool)) (place_of e) ∷ [],
        step_on (try_fold (read_item G s) [] front) _ a.0 _ a.1 (step_on (infer G s e) _ (pair h.2.0 (Known shape.Bool)) _ (infer_of G s e _ _ q.0) refl),
        parts_on a.0 (ReadValue (pair h.2.0 (Known shape.Bool)) (place_of e)) h.0 _ a.2 refl ∙ ap Gives (sym q.1),
      )
    ]

-- `taskexit`
parameter_back : (m : Option Meaning) (p : Parameter) → parameter_of m ≡ Some p → m ≡ Some (ParameterIs p.number p.class)
parameter_back None p h = cc
parameter_back (Some (SlotIs slot sh)) p h = cc
parameter_back (Some (ParameterIs slot class)) p h = ap (λ p. Some (ParameterIs p.number p.class)) (some_eq (record { number = slot; class = class }) p h)
parameter_back (Some (TagIs variable tag_type)) p h = cc

action_back : (N : Names) (s : Scope) (p : Parameter) (cs : List program_change.Change) (a : ActionText) (ds : List program_change.Change) → check_action N s p cs a ≡ Gives ds → Acts N s p cs a ds
action_back N s p cs (action.Flag x b) ds h =
    let f = step_back (find (N.flag_of p.class x.name) Unknown x.at) _ _ h in
    (f.0, was_found _ _ _ _ f.1, sym (gives_eq _ _ f.2))
action_back N s p cs (action.Add at x) ds h =
    let v = step_back (tag_variable_at s x) _ _ h in
    (v.0, tag_back s x v.0 v.1, sym (gives_eq _ _ v.2))
action_back N s p cs (action.Clear at x) ds h =
    let v = step_back (tag_variable_at s x) _ _ h in
    (v.0, tag_back s x v.0 v.1, sym (gives_eq _ _ v.2))

action_on : (N : Names) (s : Scope) (p : Parameter) (cs : List program_change.Change) (a : ActionText) (ds : List program_change.Change) → Acts N s p cs a ds → check_action N s p cs a ≡ Gives ds
action_on N s p cs (action.Flag x b) ds h = step_on (find (N.flag_of p.class x.name) Unknown x.at) _ h.0 _ (find_ok _ _ _ _ h.1) (ap Gives (sym h.2))
action_on N s p cs (action.Add at x) ds h = step_on (tag_variable_at s x) _ h.0 _ (tag_on s x h.0 h.1) (ap Gives (sym h.2))
action_on N s p cs (action.Clear at x) ds h = step_on (tag_variable_at s x) _ h.0 _ (tag_on s x h.0 h.1) (ap Gives (sym h.2))

change_back : (N : Names) (s : Scope) (x : Exiting) (c : Change) (y : Exiting) → check_change N s x c ≡ Gives y → Changes N s x c y
change_back N s x (ChangeOf param actions) y h =
    let p = step_back (find (parameter_of (meaning_of s param)) Unknown param.at) _ _ h in
    let a = step_back (ask (not (list_any (λ n. n == p.0.number) x.named)) Twice param.at) _ _ p.2 in
    let cs = step_back (try_fold (check_action N s p.0) x.changes actions) _ _ a.2 in
    (p.0, cs.0, parameter_back _ _ (was_found _ _ _ _ p.1), false_of _ (asked _ _ _ _ a.1), fold_back _ _ (action_back N s p.0) _ actions _ cs.1, sym (gives_eq _ _ cs.2))

change_on : (N : Names) (s : Scope) (x : Exiting) (c : Change) (y : Exiting) → Changes N s x c y → check_change N s x c ≡ Gives y
change_on N s x (ChangeOf param actions) y h =
    step_on (find (parameter_of (meaning_of s param)) Unknown param.at) _ h.0 _ (find_ok _ _ _ _ (ap parameter_of h.2))
    (step_on (ask (not (list_any (λ n. n == h.0.number) x.named)) Twice param.at) _ tt _ (ask_ok _ _ _ (ap not h.3))
    (step_on (try_fold (check_action N s h.0) x.changes actions) _ h.1 _ (fold_on _ _ (action_on N s h.0) _ actions _ h.4) (ap Gives (sym h.5))))

-- statements
abbrev pub stated : TypedStatement → Scope → Stated
stated d s = record { code = d; scope = s }

abbrev pub all_stated : TypedStatements → Scope → AllStated
all_stated ds s = record { codes = ds; scope = s }

end : (d e : TypedStatement) (s t : Scope) → Gives (stated e t) ≡ Gives (stated d s) → (d ≡ e) × (s ≡ t)
end d e s t h = let q = gives_eq _ _ h in (sym (ap (λ x. x.code) q), sym (ap (λ x. x.scope) q))

meet : (d e : TypedStatement) (s t : Scope) → d ≡ e → s ≡ t → Gives (stated e t) ≡ Gives (stated d s)
meet d e s t h i = ap (λ z. Gives (stated z t)) (sym h) ∙ ap (λ z. Gives (stated d z)) (sym i)

mutual
  pub does_of : (G : Context) (s : Scope) (x : Statement) (d : TypedStatement) (t : Scope) → state G s x ≡ Gives (stated d t) → Does G s x d t
  does_of G s (Let x e) d t h =
      let sh = step_back (shape_at G.names x.kind) _ _ h in
      let v = step_back (infer G s e) _ _ sh.2 in
      let r = step_back (declare_slot s x.name sh.0) _ _ v.2 in
      let k = step_back (ask (fits v.0.type (Known sh.0)) Mismatch (place_of e)) _ _ r.2 in
      let q = end _ _ _ _ k.2 in
      let m = slot_back s x.name sh.0 r.0 r.1 in
      (sh.0, v.0.type, v.0.code, shape_back G.names x.kind sh.0 sh.1, has_of G s e _ _ v.1, m.0, asked _ _ _ _ k.1, q.0, q.1 ∙ m.1)
  does_of G s (NewTag at x kind) d t h =
      let a = step_back (ask (not (is_some G.me)) Misplaced at) _ _ h in
      let k = step_back (find (G.names.tag_type_of kind.name) Unknown kind.at) _ _ a.2 in
      let r = step_back (declare_tag s x k.0) _ _ k.2 in
      let q = end _ _ _ _ r.2 in
      let m = declare_tag_back s x k.0 r.0 r.1 in
      (k.0, none_of _ (asked _ _ _ _ a.1), was_found _ _ _ _ k.1, m.0, q.0, q.1 ∙ m.1)
  does_of G s (Assign target e) d t h =
      let y = step_back (infer G s target) _ _ h in
      let v = step_back (infer G s e) _ _ y.2 in
      let a = step_back (ask (not (is_parameter s target)) Fixed (place_of target)) _ _ v.2 in
      let k = step_back (ask (fits v.0.type y.0.type) Mismatch (place_of e)) _ _ a.2 in
      let r = step_back (find (assignment y.0.code v.0.code) Mismatch (place_of target)) _ _ k.2 in
      let q = end _ _ _ _ r.2 in
      (y.0.type, v.0.type, y.0.code, v.0.code, has_of G s target _ _ y.1, has_of G s e _ _ v.1, false_of _ (asked _ _ _ _ a.1), asked _ _ _ _ k.1, was_found _ _ _ _ r.1 ∙ ap Some (sym q.0), q.1)
  does_of G s (Do call) d t h =
      let z = step_back (infer_call G s call) _ _ h in
      let q = end _ _ _ _ z.2 in
      (z.0.result, z.0.code, calls_back G s call z.0 z.1, q.0, q.1)
  does_of G s (MakeDo made) d t h =
      let x = step_back (infer G s made) _ _ h in
      let q = end _ _ _ _ x.2 in
      (x.0.type, x.0.code, has_of G s made _ _ x.1, q.0, q.1)
  does_of G s (Block at body) d t h =
      let xs = step_back (state_all G s body) _ _ h in
      let q = end _ _ _ _ xs.2 in
      (xs.0.codes, xs.0.scope, do_of G s body xs.0 xs.1, q.0, q.1)
  does_of G s (If at test body) d t h =
      let c = step_back (infer G s test) _ _ h in
      let xs = step_back (state_all G s body) _ _ c.2 in
      let a = step_back (ask (is_bool c.0.type) Mismatch (place_of test)) _ _ xs.2 in
      let q = end _ _ _ _ a.2 in
      (c.0.code, xs.0.codes, xs.0.scope, has_of G s test _ _ (as_type _ c.0 _ c.1 (bool_of _ (asked _ _ _ _ a.1))), do_of G s body xs.0 xs.1, q.0, q.1)
  does_of G s (IfElse at test body other) d t h =
      let c = step_back (infer G s test) _ _ h in
      let xs = step_back (state_all G s body) _ _ c.2 in
      let ys = step_back (state_all G (ended s xs.0.scope) other) _ _ xs.2 in
      let a = step_back (ask (is_bool c.0.type) Mismatch (place_of test)) _ _ ys.2 in
      let q = end _ _ _ _ a.2 in
      (c.0.code, xs.0.codes, ys.0.codes, xs.0.scope, ys.0.scope, has_of G s test _ _ (as_type _ c.0 _ c.1 (bool_of _ (asked _ _ _ _ a.1))), do_of G s body xs.0 xs.1, do_of G _ other ys.0 ys.1, q.0, q.1)
  does_of G s (While at test body) d t h =
      let c = step_back (infer G s test) _ _ h in
      let xs = step_back (state_all G s body) _ _ c.2 in
      let a = step_back (ask (is_bool c.0.type) Mismatch (place_of test)) _ _ xs.2 in
      let q = end _ _ _ _ a.2 in
      (c.0.code, xs.0.codes, xs.0.scope, has_of G s test _ _ (as_type _ c.0 _ c.1 (bool_of _ (asked _ _ _ _ a.1))), do_of G s body xs.0 xs.1, q.0, q.1)
  does_of G s (Return at) d t h =
      let a = step_back (ask (is_some G.me) Misplaced at) _ _ h in
      let b = step_back (ask (not (is_some G.result)) Mismatch at) (λ _. Gives (stated (typed.Return None) s)) _ a.2 in
      let me = some_of _ (asked _ _ _ _ a.1) in
      let q = end _ _ _ _ b.2 in
      (me.0, me.1, none_of _ (asked _ _ _ _ b.1), q.0, q.1)
  does_of G s (ReturnValue at e) d t h =
      let v = step_back (infer G s e) _ _ h in
      let sh = step_back (find G.result Misplaced at) _ _ v.2 in
      let k = step_back (ask (fits v.0.type (Known sh.0)) Mismatch (place_of e)) _ _ sh.2 in
      let q = end _ _ _ _ k.2 in
      (sh.0, v.0.type, v.0.code, has_of G s e _ _ v.1, was_found _ _ _ _ sh.1, asked _ _ _ _ k.1, q.0, q.1)
  does_of G s (Print at items) d t h =
      let xs = step_back (try_fold (read_item G s) [] items) _ _ h in
      let ps = step_back (check_parts xs.0) _ _ xs.2 in
      let q = end _ _ _ _ ps.2 in
      (ps.0, prints_back G s items xs.0 ps.0 xs.1 ps.1, q.0, q.1)
  does_of G s (Assert at e) d t h =
      let x = step_back (infer G s e) _ _ h in
      let a = step_back (ask (is_bool x.0.type) Mismatch (place_of e)) _ _ x.2 in
      let q = end _ _ _ _ a.2 in
      (x.0.code, has_of G s e _ _ (as_type _ x.0 _ x.1 (bool_of _ (asked _ _ _ _ a.1))), q.0, q.1)
  does_of G s (Exit at changes) d t h =
      let a = step_back (ask (not (is_some G.me)) Misplaced at) _ _ h in
      let x = step_back (try_fold (check_change G.names s) none_named changes) _ _ a.2 in
      let q = end _ _ _ _ x.2 in
      (x.0, none_of _ (asked _ _ _ _ a.1), fold_back _ _ (change_back G.names s) _ changes _ x.1, q.0, q.1)

  pub do_of : (G : Context) (s : Scope) (ss : Statements) (x : AllStated) → state_all G s ss ≡ Gives x → DoAll G s ss x.codes x.scope
  do_of G s Nothing x h = let q = gives_eq _ _ h in (sym (ap (λ x. x.codes) q), sym (ap (λ x. x.scope) q))
  do_of G s (Then front last) x h =
      let y = step_back (state_all G s front) _ _ h in
      let z = step_back (state G y.0.scope last) _ _ y.2 in
      let q = gives_eq _ _ z.2 in
      (y.0.codes, y.0.scope, z.0.code, do_of G s front y.0 y.1, subst (Does G y.0.scope last z.0.code) (ap (λ x. x.scope) q) (does_of G y.0.scope last z.0.code z.0.scope z.1), sym (ap (λ x. x.codes) q))

mutual
  pub state_of : (G : Context) (s : Scope) (x : Statement) (d : TypedStatement) (t : Scope) → Does G s x d t → state G s x ≡ Gives (stated d t)
  state_of G s (Let x e) d t h =
      step_on (shape_at G.names x.kind) _ h.0 _ (shape_on G.names x.kind h.0 h.3)
      (step_on (infer G s e) _ (pair h.2 h.1) _ (infer_of G s e _ _ h.4)
      (step_on (declare_slot s x.name h.0) _ (with_slot s x.name h.0) _ (slot_on s x.name h.0 h.5)
      (step_on (ask (fits h.1 (Known h.0)) Mismatch (place_of e)) _ tt _ (ask_ok _ _ _ h.6) (meet _ _ _ _ h.7 h.8))))
  state_of G s (NewTag at x kind) d t h =
      step_on (ask (not (is_some G.me)) Misplaced at) _ tt _ (ask_ok _ _ _ (ap (λ o. not (is_some o)) h.1))
      (step_on (find (G.names.tag_type_of kind.name) Unknown kind.at) _ h.0 _ (find_ok _ _ _ _ h.2)
      (step_on (declare_tag s x h.0) _ (with_tag s x h.0) _ (declare_tag_on s x h.0 h.3) (meet _ _ _ _ h.4 h.5)))
  state_of G s (Assign target e) d t h =
      step_on (infer G s target) _ (pair h.2 h.0) _ (infer_of G s target _ _ h.4)
      (step_on (infer G s e) _ (pair h.3 h.1) _ (infer_of G s e _ _ h.5)
      (step_on (ask (not (is_parameter s target)) Fixed (place_of target)) _ tt _ (ask_ok _ _ _ (ap not h.6))
      (step_on (ask (fits h.1 h.0) Mismatch (place_of e)) _ tt _ (ask_ok _ _ _ h.7)
      (step_on (find (assignment h.2 h.3) Mismatch (place_of target)) _ d _ (find_ok _ _ _ _ h.8) (meet _ _ _ _ refl h.9)))))
  state_of G s (Do call) d t h = step_on (infer_call G s call) _ (called h.0 h.1) _ (calls_on G s call h.0 h.1 h.2) (meet _ _ _ _ h.3 h.4)
  state_of G s (MakeDo made) d t h = step_on (infer G s made) _ (pair h.1 h.0) _ (infer_of G s made _ _ h.2) (meet _ _ _ _ h.3 h.4)
  state_of G s (Block at body) d t h = step_on (state_all G s body) _ (all_stated h.0 h.1) _ (all_on G s body _ _ h.2) (meet _ _ _ _ h.3 h.4)
  state_of G s (If at test body) d t h =
      step_on (infer G s test) _ (pair h.0 (Known shape.Bool)) _ (infer_of G s test _ _ h.3)
      (step_on (state_all G s body) _ (all_stated h.1 h.2) _ (all_on G s body _ _ h.4) (meet _ _ _ _ h.5 h.6))
  state_of G s (IfElse at test body other) d t h =
      step_on (infer G s test) _ (pair h.0 (Known shape.Bool)) _ (infer_of G s test _ _ h.5)
      (step_on (state_all G s body) _ (all_stated h.1 h.3) _ (all_on G s body _ _ h.6)
      (step_on (state_all G (ended s h.3) other) _ (all_stated h.2 h.4) _ (all_on G (ended s h.3) other _ _ h.7) (meet _ _ _ _ h.8 h.9)))
  state_of G s (While at test body) d t h =
      step_on (infer G s test) _ (pair h.0 (Known shape.Bool)) _ (infer_of G s test _ _ h.3)
      (step_on (state_all G s body) _ (all_stated h.1 h.2) _ (all_on G s body _ _ h.4) (meet _ _ _ _ h.5 h.6))
  state_of G s (Return at) d t h =
      step_on (ask (is_some G.me) Misplaced at) _ tt _ (ask_ok _ _ _ (ap (λ o. is_some o) h.1))
      (step_on (ask (not (is_some G.result)) Mismatch at) (λ _. Gives (stated (typed.Return None) s)) tt _ (ask_ok _ _ _ (ap (λ o. not (is_some o)) h.2)) (meet _ _ _ _ h.3 h.4))
  state_of G s (ReturnValue at e) d t h =
      step_on (infer G s e) _ (pair h.2 h.1) _ (infer_of G s e _ _ h.3)
      (step_on (find G.result Misplaced at) _ h.0 _ (find_ok _ _ _ _ h.4)
      (step_on (ask (fits h.1 (Known h.0)) Mismatch (place_of e)) _ tt _ (ask_ok _ _ _ h.5) (meet _ _ _ _ h.6 h.7)))
  state_of G s (Print at items) d t h =
      let xs = prints_on G s items h.0 h.1 in
      step_on (try_fold (read_item G s) [] items) _ xs.0 _ xs.1 (step_on (check_parts xs.0) _ h.0 _ xs.2 (meet _ _ _ _ h.2 h.3))
  state_of G s (Assert at e) d t h = step_on (infer G s e) _ (pair h.0 (Known shape.Bool)) _ (infer_of G s e _ _ h.1) (meet _ _ _ _ h.2 h.3)
  state_of G s (Exit at changes) d t h =
      step_on (ask (not (is_some G.me)) Misplaced at) _ tt _ (ask_ok _ _ _ (ap (λ o. not (is_some o)) h.1))
      (step_on (try_fold (check_change G.names s) none_named changes) _ h.0 _ (fold_on _ _ (change_on G.names s) _ changes _ h.2) (meet _ _ _ _ h.3 h.4))

  pub all_on : (G : Context) (s : Scope) (ss : Statements) (ds : TypedStatements) (t : Scope) → DoAll G s ss ds t → state_all G s ss ≡ Gives (all_stated ds t)
  all_on G s Nothing ds t h = ap (λ d. Gives (all_stated d s)) (sym h.0) ∙ ap (λ z. Gives (all_stated ds z)) (sym h.1)
  all_on G s (Then front last) ds t h =
      step_on (state_all G s front) _ (all_stated h.0 h.1) _ (all_on G s front _ _ h.3)
      (step_on (state G h.1 last) _ (stated h.2 t) _ (state_of G h.1 last _ _ h.4) (ap (λ d. Gives (all_stated d t)) (sym h.5)))

pub one_statement : (G : Context) (s : Scope) (x : Statement) (d e : TypedStatement) (t u : Scope) → Does G s x d t → Does G s x e u → (d ≡ e) × (t ≡ u)
one_statement G s x d e t u h i = end _ _ _ _ (sym (state_of G s x e u i) ∙ state_of G s x d t h)
