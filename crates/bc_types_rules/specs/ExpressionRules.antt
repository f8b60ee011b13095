-- The typing rules of expressions alone, as judgements. Faults and their order don't occur here.
use Rattle.std.specs.Prelude.{◌≡◌, ℕ, true, List, [], ◌∷◌, ◌++◌, Some}
use Rattle.bc_data.specs.SourceTree.{Sequence, Empty, More, Expression, Int, Truth, Null, This, Var, Group, Neg, Not, Two, Field, Length, Elem, Call, Make, Array, Expressions, NoArg, Arg}
use Rattle.bc_data.specs.declared.tree.Named.{Named}
use Rattle.bc_data.specs.declared.tree.Base.{Base}
use Rattle.bc_data.specs.declared.tree.Base.TheVariants as base
use Rattle.bc_data.specs.declared.tree.ActionText.{ActionText}
use Rattle.bc_data.specs.declared.tree.ActionText.TheVariants as action
use Rattle.bc_data.specs.declared.run.Kind as run_kind
use Rattle.bc_data.specs.declared.run.Kind.TheVariants as array_kind
use Rattle.bc_data.specs.declared.program.Shape.TheVariants as shape
use Rattle.bc_data.specs.declared.program.Tweak.{Tweak}
use Rattle.bc_data.specs.declared.program.Tweak.TheVariants as tweak
use Rattle.bc_data.specs.Typed as typed
use Rattle.bc_data.specs.Typed.{TypedExpression, TypedExpressions}
use Rattle.bc_data.specs.Shapes.{result_shape, shape_of_kind}
use Rattle.bc_types_rules.specs.Context.{ValueType, Known, Signature, Names, Context, Meaning, SlotIs, ParameterIs, TagIs, Scope, meaning_of, fits, element_of}
use Rattle.bc_types_rules.specs.Expressions.{takes}

-- Each element in turn leads from one state to the next.
abbrev pub Each : {S A : Type 0} → (S → A → S → Type 0) → S → Sequence A → S → Type 0
Each Step s Empty t = t ≡ s
Each Step s (More front last) t = (u : _) × Each Step s front u × Step u last t

-- The types fit those of the formals, one by one.
abbrev pub Fit : List ValueType → List ValueType → Type 0
Fit [] [] = Unit {0}
Fit (t ∷ ts) (f ∷ fs) = (fits t f ≡ true) × Fit ts fs
Fit _ _ = ⊥

-- A slot has this type and this code.
abbrev pub IsSlot : Meaning → ValueType → TypedExpression → Type 0
IsSlot (SlotIs slot sh) t c = (t ≡ Known sh) × (c ≡ typed.Local slot)
IsSlot (ParameterIs slot class) t c = (t ≡ Known (shape.Class class)) × (c ≡ typed.Local slot)
IsSlot (TagIs variable tag_type) t c = ⊥

abbrev pub IsTagVariable : Scope → Named → ℕ → Type 0
IsTagVariable s x v = (tag_type : ℕ) × (meaning_of s x ≡ Some (TagIs v tag_type))

-- An action in the braces of a `new` of this class is put behind those before it.
abbrev pub Tweaks : Names → Scope → ℕ → List Tweak → ActionText → List Tweak → Type 0
Tweaks N s class before (action.Flag x b) after = (f : ℕ) × (N.flag_of class x.name ≡ Some f) × (after ≡ before ++ tweak.Flag f b ∷ [])
Tweaks N s class before (action.Add at x) after = (v : ℕ) × IsTagVariable s x v × (after ≡ before ++ tweak.Add at v ∷ [])
Tweaks N s class before (action.Clear at x) after = ⊥

-- Arrays of such elements are of this kind.
abbrev pub IsArrayOf : Names → Base → run_kind.Kind → Type 0
IsArrayOf N base.Int k = k ≡ array_kind.Ints
IsArrayOf N base.Bool k = k ≡ array_kind.Bools
IsArrayOf N (base.Class name) k = (c : ℕ) × (N.class_of name ≡ Some c) × (k ≡ array_kind.Objects c)

abbrev mutual
  -- In this context and scope the expression has this type and this code.
  pub Has : Context → Scope → Expression → ValueType → TypedExpression → Type 0
  Has G s (Int at n) t c = (t ≡ Known shape.Int) × (c ≡ typed.Int n)
  Has G s (Truth at b) t c = (t ≡ Known shape.Bool) × (c ≡ typed.Truth b)
  Has G s (Null at) t c = (t ≡ Known shape.Null) × (c ≡ typed.Null)
  Has G s (This at) t c = (me : ℕ) × (G.me ≡ Some me) × (t ≡ Known (shape.Class me)) × (c ≡ typed.Local 0)
  Has G s (Var x) t c = (m : Meaning) × (meaning_of s x ≡ Some m) × IsSlot m t c
  Has G s (Group at e) t c = Has G s e t c
  Has G s (Neg at e) t c = (v : TypedExpression) × Has G s e (Known shape.Int) v × (t ≡ Known shape.Int) × (c ≡ typed.Neg v)
  Has G s (Not at e) t c = (v : TypedExpression) × Has G s e (Known shape.Bool) v × (t ≡ Known shape.Bool) × (c ≡ typed.Not v)
  Has G s (Two at op a b) t c =
      (x y : ValueType) × (u v : TypedExpression) × Has G s a x u × Has G s b y v
      × (takes op x y ≡ true) × (t ≡ Known (result_shape op)) × (c ≡ typed.Two at op u v)
  Has G s (Field at a x) t c =
      (k f : ℕ) × (u : TypedExpression) × Has G s a (Known (shape.Class k)) u
      × (G.names.field_of k x.name ≡ Some (record { field = f; type = t })) × (c ≡ typed.FieldOf at u f)
  Has G s (Length at a) t c =
      (x y : ValueType) × (u : TypedExpression) × Has G s a x u × (element_of x ≡ Some y) × (t ≡ Known shape.Int) × (c ≡ typed.Length at u)
  Has G s (Elem at a i) t c =
      (x : ValueType) × (u v : TypedExpression) × Has G s a x u × Has G s i (Known shape.Int) v × (element_of x ≡ Some t) × (c ≡ typed.Elem at u v)
  Has G s (Call at a x args) t c =
      (k m : ℕ) × (sig : Signature) × (u : TypedExpression) × (xs : List ValueType) × (vs : TypedExpressions)
      × Has G s a (Known (shape.Class k)) u × HaveAll G s args xs vs
      × (G.names.method_of k x.name ≡ Some (record { method = m; signature = sig })) × Fit xs sig.formals
      × (sig.result ≡ Some t) × (c ≡ typed.Call at u k m vs)
  Has G s (Make at x args tweaks) t c =
      (k : ℕ) × (xs : List ValueType) × (vs : TypedExpressions) × (ts : List Tweak) × HaveAll G s args xs vs
      × (G.names.class_of x.name ≡ Some k) × Fit xs (G.names.maker_formals k) × Each (Tweaks G.names s k) [] tweaks ts
      × (t ≡ Known (shape.Class k)) × (c ≡ typed.Make at k vs ts)
  Has G s (Array at kind e) t c =
      (k : run_kind.Kind) × (v : TypedExpression) × Has G s e (Known shape.Int) v × IsArrayOf G.names kind.base k
      × (t ≡ Known (shape_of_kind k)) × (c ≡ typed.Array at k v)

  pub HaveAll : Context → Scope → Expressions → List ValueType → TypedExpressions → Type 0
  HaveAll G s NoArg xs vs = (xs ≡ []) × (vs ≡ typed.NoArg)
  HaveAll G s (Arg front last) xs vs =
      (ys : List ValueType) × (ws : TypedExpressions) × (x : ValueType) × (v : TypedExpression)
      × HaveAll G s front ys ws × Has G s last x v × (xs ≡ ys ++ x ∷ []) × (vs ≡ typed.Arg ws v)
