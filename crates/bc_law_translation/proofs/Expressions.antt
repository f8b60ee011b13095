-- The code of an expression is one: from its first position to the one behind it stand the same instructions.
use Rattle.std.proofs.Common.{ℕ, ◌+◌, List, [], ◌∷◌}
use Rattle.std.specs.Prelude.{Option, Some, None, slice_get}
use Rattle.bc_data.specs.declared.program.Op.{Op}
use Rattle.bc_data.specs.declared.program.Op.TheVariants as op
use Rattle.bc_data.specs.declared.program.Tweak.{Tweak}
use Rattle.bc_data.specs.declared.program.Tweak.TheVariants as tweak
use Rattle.bc_data.specs.declared.run.Place.{Place}
use Rattle.bc_data.specs.Typed.{TypedExpression, Int, Truth, Null, Local, Neg, Not, Two, FieldOf, Length, Elem, Call, Make, Array, TypedExpressions, NoArg, Arg, TypedMethod, TypedClass}
use Rattle.bc_code.specs.Translation.{Text, right_from, behind_operator, behind_maker, behind_make, behind_each, after, after_all, count, IsOperator, IsTweakCode, AreTweaks, IsMakerCall, IsMakeCall, HasExpression, HasExpressions}
use Rattle.bc_law_translation.proofs.Texts.{Same, join, none, one}

module _ {T V : Text} where
  -- an operator, whose right operand's code is one
  operator_same :
      (at : Place) (o : Op) (p q : ℕ) → Same T V (right_from o p) q → IsOperator T at o p q → IsOperator V at o p q
      → Same T V p (behind_operator o q)
  operator_same at op.And p q s h g =
      join (one p h.0 g.0) (join s (join (one q h.1 g.1) (one (q + 1) h.2 g.2)))
  operator_same at op.Or p q s h g =
      join (one p h.0 g.0) (join s (join (one q h.1 g.1) (one (q + 1) h.2 g.2)))
  operator_same at op.Same p q s h g = join s (one q h g)
  operator_same at op.Differ p q s h g = join s (one q h g)
  operator_same at op.Less p q s h g = join s (one q h g)
  operator_same at op.LessEq p q s h g = join s (one q h g)
  operator_same at op.More p q s h g = join s (one q h g)
  operator_same at op.MoreEq p q s h g = join s (one q h g)
  operator_same at op.Add p q s h g = join s (one q h g)
  operator_same at op.Sub p q s h g = join s (one q h g)
  operator_same at op.Mul p q s h g = join s (one q h g)
  operator_same at op.Div p q s h g = join s (one q h g)
  operator_same at op.Rem p q s h g = join s (one q h g)

  tweak_same : (t : Tweak) (p : ℕ) → IsTweakCode T p t → IsTweakCode V p t → Same T V p (p + 1)
  tweak_same (tweak.Flag flag b) p h g = one p h g
  tweak_same (tweak.Add at variable) p h g = one p h g

  tweaks_same : (ts : List Tweak) (p : ℕ) → AreTweaks T p ts → AreTweaks V p ts → Same T V p (behind_each ts p)
  tweaks_same [] p h g = none p
  tweaks_same (t ∷ ts) p h g = join (tweak_same t p h.0 g.0) (tweaks_same ts (p + 1) h.1 g.1)

  maker_same :
      (m : Option TypedMethod) (p : ℕ) (at : Place) (c args : ℕ)
      → IsMakerCall T p at c args m → IsMakerCall V p at c args m → Same T V p (behind_maker m p)
  maker_same None p at c args h g = none p
  maker_same (Some m) p at c args h g = one p h g

  make_same :
      (k : Option TypedClass) (p : ℕ) (at : Place) (c args : ℕ)
      → IsMakeCall T p at c args k → IsMakeCall V p at c args k → Same T V p (behind_make k p)
  make_same None p at c args h g = none p
  make_same (Some k) p at c args h g = maker_same k.maker p at c args h g

  module _ (K : List TypedClass) where
    mutual
      pub expression_same :
          (e : TypedExpression) (p : ℕ) → HasExpression K T p e → HasExpression K V p e → Same T V p (after K p e)
      expression_same (Int n) p h g = one p h g
      expression_same (Truth b) p h g = one p h g
      expression_same Null p h g = one p h g
      expression_same (Local slot) p h g = one p h g
      expression_same (Neg e) p h g = join (expression_same e p h.0 g.0) (one (after K p e) h.1 g.1)
      expression_same (Not e) p h g = join (expression_same e p h.0 g.0) (one (after K p e) h.1 g.1)
      expression_same (Two at o a b) p h g =
          let q = after K p a in
          let right = expression_same b (right_from o q) h.1 g.1 in
          join (expression_same a p h.0 g.0) (operator_same at o q (after K (right_from o q) b) right h.2 g.2)
      expression_same (FieldOf at object field) p h g =
          join (expression_same object p h.0 g.0) (one (after K p object) h.1 g.1)
      expression_same (Length at array) p h g =
          join (expression_same array p h.0 g.0) (one (after K p array) h.1 g.1)
      expression_same (Elem at array index) p h g =
          let q = after K p array in
          join (expression_same array p h.0 g.0)
          (join (expression_same index q h.1 g.1) (one (after K q index) h.2 g.2))
      expression_same (Call at object c n args) p h g =
          let q = after K p object in
          join (expression_same object p h.0 g.0)
          (join (expressions_same args q h.1 g.1) (one (after_all K q args) h.2 g.2))
      expression_same (Make at c args tweaks) p h g =
          let q = after_all K p args in
          let tweaked = tweaks_same tweaks (q + 1) h.2 g.2 in
          let call = make_same (slice_get K c) (behind_each tweaks (q + 1)) at c (count args) h.3 g.3 in
          join (expressions_same args p h.0 g.0) (join (one q h.1 g.1) (join tweaked call))
      expression_same (Array at kind size) p h g =
          join (expression_same size p h.0 g.0) (one (after K p size) h.1 g.1)

      expressions_same :
          (es : TypedExpressions) (p : ℕ)
          → HasExpressions K T p es → HasExpressions K V p es → Same T V p (after_all K p es)
      expressions_same NoArg p h g = none p
      expressions_same (Arg front last) p h g =
          join (expressions_same front p h.0 g.0) (expression_same last (after_all K p front) h.1 g.1)
