-- How many instructions the code of a form has, counted in the order in which they are done.
use Rattle.std.proofs.Common.{◌≡◌, ℕ, ◌+◌, List, [], ◌∷◌, refl, arith}
use Rattle.std.specs.Prelude.{Option, Some, None, slice_get}
use Rattle.bc_data.specs.declared.program.Op.{Op}
use Rattle.bc_data.specs.declared.program.Op.TheVariants as op
use Rattle.bc_data.specs.Typed.{TypedExpression, Int, Truth, Null, Local, Neg, Not, Two, FieldOf, Length, Elem, Call, Make, Array, TypedExpressions, NoArg, Arg, TypedPart, TextPart, NumberPart, TruthPart, TypedStatement, Set, NewTag, SetField, SetElem, Drop, Perform, If, While, Return, Print, Assert, Exit, Block, TypedStatements, Nothing, Then, TypedMethod, TypedClass}
use Rattle.bc_code.specs.Translation.{right_from, behind_operator, behind_maker, behind_make, behind_each, after, after_all, after_part, after_parts, past, past_all}

-- an operator, with so many for its right operand
abbrev pub cost_operator : Op → ℕ → ℕ
cost_operator op.And c = 1 + (c + 1 + 1)
cost_operator op.Or c = 1 + (c + 1 + 1)
cost_operator op.Same c = c + 1
cost_operator op.Differ c = c + 1
cost_operator op.Less c = c + 1
cost_operator op.LessEq c = c + 1
cost_operator op.More c = c + 1
cost_operator op.MoreEq c = c + 1
cost_operator op.Add c = c + 1
cost_operator op.Sub c = c + 1
cost_operator op.Mul c = c + 1
cost_operator op.Div c = c + 1
cost_operator op.Rem c = c + 1

abbrev pub cost_maker : Option TypedMethod → ℕ
cost_maker None = 0
cost_maker (Some m) = 1

abbrev pub cost_make : Option TypedClass → ℕ
cost_make None = 0
cost_make (Some k) = cost_maker k.maker

abbrev pub each : {A : Type 0} → List A → ℕ
each [] = 0
each (x ∷ xs) = 1 + each xs

abbrev mutual
  pub cost : List TypedClass → TypedExpression → ℕ
  cost K (Int n) = 1
  cost K (Truth b) = 1
  cost K Null = 1
  cost K (Local slot) = 1
  cost K (Neg e) = cost K e + 1
  cost K (Not e) = cost K e + 1
  cost K (Two at o a b) = cost K a + cost_operator o (cost K b)
  cost K (FieldOf at object field) = cost K object + 1
  cost K (Length at array) = cost K array + 1
  cost K (Elem at array index) = cost K array + (cost K index + 1)
  cost K (Call at object c n args) = cost K object + (costs K args + 1)
  cost K (Make at c args tweaks) = costs K args + (1 + (each tweaks + cost_make (slice_get K c)))
  cost K (Array at kind size) = cost K size + 1

  pub costs : List TypedClass → TypedExpressions → ℕ
  costs K NoArg = 0
  costs K (Arg front last) = costs K front + cost K last

abbrev pub cost_part : List TypedClass → TypedPart → ℕ
cost_part K (TextPart bytes) = 1
cost_part K (NumberPart e) = cost K e + 1
cost_part K (TruthPart e) = cost K e + 1

abbrev pub cost_parts : List TypedClass → List TypedPart → ℕ
cost_parts K [] = 0
cost_parts K (part ∷ parts) = cost_part K part + cost_parts K parts

-- A loop does its test once more than its body. The turn of each round pays for the body and the next test.
abbrev pub cost_loop : List TypedClass → TypedExpression → ℕ
cost_loop K test = cost K test + (1 + 1)

abbrev mutual
  pub weight : List TypedClass → TypedStatement → ℕ
  weight K (Set slot e) = cost K e + 1
  weight K (NewTag at variable tag_type) = 1
  weight K (SetField at object field e) = cost K object + (cost K e + 1)
  weight K (SetElem at array index e) = cost K array + (cost K index + (cost K e + 1))
  weight K (Drop e) = cost K e + 1
  weight K (Perform e) = cost K e
  weight K (If test body other) = cost K test + (1 + (weights K body + 1 + weights K other))
  weight K (While at test body) = weights K body + (1 + cost_loop K test)
  weight K (Return None) = 1
  weight K (Return (Some e)) = cost K e + 1
  weight K (Print at parts) = cost_parts K parts
  weight K (Assert at e) = cost K e + 1
  weight K (Exit changes) = each changes + 1
  weight K (Block body) = weights K body

  pub weights : List TypedClass → TypedStatements → ℕ
  weights K Nothing = 0
  weights K (Then front last) = weights K front + weight K last

operator_end : (o : Op) (p q c : ℕ) → q ≡ right_from o p + c → behind_operator o q ≡ p + cost_operator o c
operator_end op.And p q c e = omega arith
operator_end op.Or p q c e = omega arith
operator_end op.Same p q c e = omega arith
operator_end op.Differ p q c e = omega arith
operator_end op.Less p q c e = omega arith
operator_end op.LessEq p q c e = omega arith
operator_end op.More p q c e = omega arith
operator_end op.MoreEq p q c e = omega arith
operator_end op.Add p q c e = omega arith
operator_end op.Sub p q c e = omega arith
operator_end op.Mul p q c e = omega arith
operator_end op.Div p q c e = omega arith
operator_end op.Rem p q c e = omega arith

maker_end : (o : Option TypedMethod) (p : ℕ) → behind_maker o p ≡ p + cost_maker o
maker_end None p = omega arith
maker_end (Some m) p = omega arith

make_end : (o : Option TypedClass) (p : ℕ) → behind_make o p ≡ p + cost_make o
make_end None p = omega arith
make_end (Some k) p = maker_end k.maker p

each_end : {A : Type 0} (xs : List A) (p : ℕ) → behind_each xs p ≡ p + each xs
each_end [] p = omega arith
each_end (x ∷ xs) p = omega (arith, each_end xs (p + 1))

-- The code that begins at p ends behind as many instructions.
module _ (K : List TypedClass) where
  mutual
    pub ends : (e : TypedExpression) (p : ℕ) → after K p e ≡ p + cost K e
    ends (Int n) p = refl
    ends (Truth b) p = refl
    ends Null p = refl
    ends (Local slot) p = refl
    ends (Neg e) p = omega (arith, ends e p)
    ends (Not e) p = omega (arith, ends e p)
    ends (Two at o a b) p =
        let i = ends a p in
        let j = operator_end o (after K p a) (after K (right_from o (after K p a)) b) (cost K b) (ends b (right_from o (after K p a))) in
        omega (arith, i, j)
    ends (FieldOf at object field) p = omega (arith, ends object p)
    ends (Length at array) p = omega (arith, ends array p)
    ends (Elem at array index) p = omega (arith, ends array p, ends index (after K p array))
    ends (Call at object c n args) p = omega (arith, ends object p, all_ends args (after K p object))
    ends (Make at c args tweaks) p =
        omega (arith, all_ends args p, each_end tweaks (after_all K p args + 1), make_end (slice_get K c) (behind_each tweaks (after_all K p args + 1)))
    ends (Array at kind size) p = omega (arith, ends size p)

    all_ends : (es : TypedExpressions) (p : ℕ) → after_all K p es ≡ p + costs K es
    all_ends NoArg p = omega arith
    all_ends (Arg front last) p = omega (arith, all_ends front p, ends last (after_all K p front))

  part_end : (part : TypedPart) (p : ℕ) → after_part K p part ≡ p + cost_part K part
  part_end (TextPart bytes) p = refl
  part_end (NumberPart e) p = omega (arith, ends e p)
  part_end (TruthPart e) p = omega (arith, ends e p)

  parts_end : (parts : List TypedPart) (p : ℕ) → after_parts K p parts ≡ p + cost_parts K parts
  parts_end [] p = omega arith
  parts_end (part ∷ parts) p = omega (arith, part_end part p, parts_end parts (after_part K p part))

  mutual
    passes : (s : TypedStatement) (p : ℕ) → past K p s ≡ p + weight K s
    passes (Set slot e) p = omega (arith, ends e p)
    passes (NewTag at variable tag_type) p = refl
    passes (SetField at object field e) p = omega (arith, ends object p, ends e (after K p object))
    passes (SetElem at array index e) p =
        omega (arith, ends array p, ends index (after K p array), ends e (after K (after K p array) index))
    passes (Drop e) p = omega (arith, ends e p)
    passes (Perform e) p = ends e p
    passes (If test body other) p =
        let i = ends test p in
        let j = all_pass body (after K p test + 1) in
        let k = all_pass other (past_all K (after K p test + 1) body + 1) in
        omega (arith, i, j, k)
    passes (While at test body) p = omega (arith, ends test p, all_pass body (after K p test + 1 + 1))
    passes (Return None) p = refl
    passes (Return (Some e)) p = omega (arith, ends e p)
    passes (Print at parts) p = parts_end parts p
    passes (Assert at e) p = omega (arith, ends e p)
    passes (Exit changes) p = omega (arith, each_end changes p)
    passes (Block body) p = all_pass body p

    pub all_pass : (s : TypedStatements) (p : ℕ) → past_all K p s ≡ p + weights K s
    all_pass Nothing p = omega arith
    all_pass (Then front last) p = omega (arith, all_pass front p, passes last (past_all K p front))
