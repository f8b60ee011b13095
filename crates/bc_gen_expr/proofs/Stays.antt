-- The code of an expression stays where its instructions stay.
use Rattle.std.proofs.Common.{ℕ, ◌+◌, ◌≤◌, List, [], ◌∷◌, Option, Some, None, arith}
use Rattle.std.specs.Prelude.{slice_get}
use Rattle.bc_data.specs.declared.program.Op.{Op}
use Rattle.bc_data.specs.declared.program.Op.TheVariants as op
use Rattle.bc_data.specs.declared.program.Tweak.{Tweak}
use Rattle.bc_data.specs.declared.program.Tweak.TheVariants as tweak
use Rattle.bc_data.specs.declared.run.Place.{Place}
use Rattle.bc_data.specs.Typed.{TypedExpression, Int, Truth, Null, Local, Neg, Not, Two, FieldOf, Length, Elem, Call, Make, Array, TypedExpressions, NoArg, Arg, TypedMethod, TypedClass}
use Rattle.bc_code.specs.declared.code.Instruction.{Instruction}
use Rattle.bc_code.specs.declared.code.Instruction.TheVariants as instruction
use Rattle.bc_code.specs.Instructions.{nowhere}
use Rattle.bc_code.specs.Translation.{Text, At, right_from, behind_operator, behind_maker, behind_make, behind_each, after, after_all, count, IsOperator, IsTweakCode, AreTweaks, IsMakerCall, IsMakeCall, HasExpression, HasExpressions}
use Rattle.bc_code.specs.declared.code.Unit.{Unit as CodeUnit}
use Rattle.bc_code.specs.Emitted.{Emitted}
use Rattle.bc_gen_expr.proofs.Growing.{Laid, laid, Kept, kept_nothing, kept_at, kept_told, kept_two, kept_three, kept_four, kept_five}

pub each_behind : {A : Type 0} (xs : List A) (p : ℕ) → p ≤ behind_each xs p
each_behind [] p = omega arith
each_behind (x ∷ xs) p = omega (arith, each_behind xs (p + 1))

maker_behind : (m : Option TypedMethod) (p : ℕ) → p ≤ behind_maker m p
maker_behind None p = omega arith
maker_behind (Some m) p = omega arith

make_behind : (k : Option TypedClass) (p : ℕ) → p ≤ behind_make k p
make_behind None p = omega arith
make_behind (Some k) p = maker_behind k.maker p

operator_behind : (o : Op) (p : ℕ) → p + 1 ≤ behind_operator o p
operator_behind op.And p = omega arith
operator_behind op.Or p = omega arith
operator_behind op.Same p = omega arith
operator_behind op.Differ p = omega arith
operator_behind op.Less p = omega arith
operator_behind op.LessEq p = omega arith
operator_behind op.More p = omega arith
operator_behind op.MoreEq p = omega arith
operator_behind op.Add p = omega arith
operator_behind op.Sub p = omega arith
operator_behind op.Mul p = omega arith
operator_behind op.Div p = omega arith
operator_behind op.Rem p = omega arith

right_behind : (o : Op) (p : ℕ) → p ≤ right_from o p
right_behind op.And p = omega arith
right_behind op.Or p = omega arith
right_behind op.Same p = omega arith
right_behind op.Differ p = omega arith
right_behind op.Less p = omega arith
right_behind op.LessEq p = omega arith
right_behind op.More p = omega arith
right_behind op.MoreEq p = omega arith
right_behind op.Add p = omega arith
right_behind op.Sub p = omega arith
right_behind op.Mul p = omega arith
right_behind op.Div p = omega arith
right_behind op.Rem p = omega arith

module _ (K : List TypedClass) where
  mutual
    -- each expression has an instruction
    pub after_grows : (e : TypedExpression) (p : ℕ) → p + 1 ≤ after K p e
    after_grows (Int n) p = omega arith
    after_grows (Truth b) p = omega arith
    after_grows Null p = omega arith
    after_grows (Local slot) p = omega arith
    after_grows (Neg e) p = omega (arith, after_grows e p)
    after_grows (Not e) p = omega (arith, after_grows e p)
    after_grows (Two at o a b) p =
        omega (arith, after_grows a p, right_behind o (after K p a), after_grows b (right_from o (after K p a)), operator_behind o (after K (right_from o (after K p a)) b))
    after_grows (FieldOf at object field) p = omega (arith, after_grows object p)
    after_grows (Length at array) p = omega (arith, after_grows array p)
    after_grows (Elem at array index) p = omega (arith, after_grows array p, after_grows index (after K p array))
    after_grows (Call at object c n args) p = omega (arith, after_grows object p, all_grow args (after K p object))
    after_grows (Make at c args tweaks) p =
        omega (arith, all_grow args p, each_behind tweaks (after_all K p args + 1), make_behind (slice_get K c) (behind_each tweaks (after_all K p args + 1)))
    after_grows (Array at kind size) p = omega (arith, after_grows size p)

    pub all_grow : (es : TypedExpressions) (p : ℕ) → p + count es ≤ after_all K p es
    all_grow NoArg p = omega arith
    all_grow (Arg front last) p = omega (arith, all_grow front p, after_grows last (after_all K p front))

pub kept_tweak : (t : Tweak) (p : ℕ) → Kept (λ T. IsTweakCode T p t) p (p + 1)
kept_tweak (tweak.Flag flag b) p = kept_at p (instruction.SetFlag flag b) nowhere
kept_tweak (tweak.Add at variable) p = kept_at p (instruction.AddTag variable) at

pub kept_tweaks : (ts : List Tweak) (p : ℕ) → Kept (λ T. AreTweaks T p ts) p (behind_each ts p)
kept_tweaks [] p = kept_nothing p
kept_tweaks (t ∷ ts) p = kept_two (kept_tweak t p) (kept_tweaks ts (p + 1))

kept_maker : (at : Place) (c n : ℕ) (m : Option TypedMethod) (p : ℕ) → Kept (λ T. IsMakerCall T p at c n m) p (behind_maker m p)
kept_maker at c n None p = kept_nothing p
kept_maker at c n (Some m) p = kept_at p (instruction.Make c n) at

pub kept_make : (at : Place) (c n : ℕ) (k : Option TypedClass) (p : ℕ) → Kept (λ T. IsMakeCall T p at c n k) p (behind_make k p)
kept_make at c n None p = kept_nothing p
kept_make at c n (Some k) p = kept_maker at c n k.maker p

-- a test of the left operand, the right one, a jump over the value that the test decides, and this value
short : {P R : Text → Type 0} {p q r : ℕ} (i j k : Instruction) → Kept P p q → Kept R (q + 1) r → Kept (λ T. P T × R T × (At T q i nowhere × At T r j nowhere × At T (r + 1) k nowhere)) p (r + 1 + 1)
short {P} {R} {p} {q} {r} i j k x y =
    kept_told
    (kept_five x (kept_at q i nowhere) y (kept_at r j nowhere) (kept_at (r + 1) k nowhere))
    (λ T h. (h.0, h.2, (h.1, h.3, h.4)))
    (λ T h. (h.0, h.2.0, h.1, h.2.1, h.2.2))

-- an operator and its operands
pub kept_operator : {P : Text → Type 0} {R : Text → ℕ → Type 0} {p q : ℕ} {s : ℕ → ℕ} (at : Place) (o : Op) → Kept P p q → ((r : ℕ) → Kept (λ T. R T r) r (s r)) → Kept (λ T. P T × R T (right_from o q) × IsOperator T at o q (s (right_from o q))) p (behind_operator o (s (right_from o q)))
kept_operator {q} at op.And x y = short _ _ _ x (y (q + 1))
kept_operator {q} at op.Or x y = short _ _ _ x (y (q + 1))
kept_operator {q} at op.Same x y = kept_three x (y q) (kept_at _ instruction.Same at)
kept_operator {q} at op.Differ x y = kept_three x (y q) (kept_at _ instruction.Differ at)
kept_operator {q} at op.Less x y = kept_three x (y q) (kept_at _ instruction.Less at)
kept_operator {q} at op.LessEq x y = kept_three x (y q) (kept_at _ instruction.LessEq at)
kept_operator {q} at op.More x y = kept_three x (y q) (kept_at _ instruction.More at)
kept_operator {q} at op.MoreEq x y = kept_three x (y q) (kept_at _ instruction.MoreEq at)
kept_operator {q} at op.Add x y = kept_three x (y q) (kept_at _ instruction.Add at)
kept_operator {q} at op.Sub x y = kept_three x (y q) (kept_at _ instruction.Sub at)
kept_operator {q} at op.Mul x y = kept_three x (y q) (kept_at _ instruction.Mul at)
kept_operator {q} at op.Div x y = kept_three x (y q) (kept_at _ instruction.Div at)
kept_operator {q} at op.Rem x y = kept_three x (y q) (kept_at _ instruction.Rem at)

module _ (K : List TypedClass) where
  mutual
    pub kept_expression : (e : TypedExpression) (p : ℕ) → Kept (λ T. HasExpression K T p e) p (after K p e)
    kept_expression (Int n) p = kept_at p (instruction.Int n) nowhere
    kept_expression (Truth b) p = kept_at p (instruction.Bool b) nowhere
    kept_expression Null p = kept_at p instruction.Null nowhere
    kept_expression (Local slot) p = kept_at p (instruction.Load slot) nowhere
    kept_expression (Neg e) p = kept_two (kept_expression e p) (kept_at _ instruction.Neg nowhere)
    kept_expression (Not e) p = kept_two (kept_expression e p) (kept_at _ instruction.Not nowhere)
    kept_expression (Two at o a b) p = kept_operator {R = λ T r. HasExpression K T r b} {s = λ r. after K r b} at o (kept_expression a p) (λ r. kept_expression b r)
    kept_expression (FieldOf at object field) p = kept_two (kept_expression object p) (kept_at _ (instruction.Field field) at)
    kept_expression (Length at array) p = kept_two (kept_expression array p) (kept_at _ instruction.Length at)
    kept_expression (Elem at array index) p = kept_three (kept_expression array p) (kept_expression index (after K p array)) (kept_at _ instruction.Elem at)
    kept_expression (Call at object c n args) p = kept_three (kept_expression object p) (kept_expressions args (after K p object)) (kept_at _ (instruction.Call c n (count args)) at)
    kept_expression (Make at c args tweaks) p =
        kept_four
        (kept_expressions args p)
        (kept_at _ (instruction.NewObject c) at)
        (kept_tweaks tweaks (after_all K p args + 1))
        (kept_make at c (count args) (slice_get K c) (behind_each tweaks (after_all K p args + 1)))
    kept_expression (Array at kind size) p = kept_two (kept_expression size p) (kept_at _ (instruction.NewArray kind) at)

    pub kept_expressions : (es : TypedExpressions) (p : ℕ) → Kept (λ T. HasExpressions K T p es) p (after_all K p es)
    kept_expressions NoArg p = kept_nothing p
    kept_expressions (Arg front last) p = kept_two (kept_expressions front p) (kept_expression last (after_all K p front))

abbrev pub Emits : List TypedClass → TypedExpression → CodeUnit → CodeUnit → Type 0
Emits K e a b = Emitted (λ T p. HasExpression K T p e) (λ p. after K p e) a b

abbrev pub EmitsAll : List TypedClass → TypedExpressions → CodeUnit → CodeUnit → Type 0
EmitsAll K es a b = Emitted (λ T p. HasExpressions K T p es) (λ p. after_all K p es) a b

pub laid_expression : (K : List TypedClass) (e : TypedExpression) {a b : CodeUnit} → Emits K e a b → Laid (λ T p. HasExpression K T p e) (λ p. after K p e) a b
laid_expression K e l = laid (record { kept = kept_expression K e }) l

pub laid_expressions : (K : List TypedClass) (es : TypedExpressions) {a b : CodeUnit} → EmitsAll K es a b → Laid (λ T p. HasExpressions K T p es) (λ p. after_all K p es) a b
laid_expressions K es l = laid (record { kept = kept_expressions K es }) l
