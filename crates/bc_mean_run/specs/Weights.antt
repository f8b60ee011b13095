-- Weights of trees, by which running them ends: a part weighs less than its whole, and a method's body less than all classes.
use Rattle.std.specs.Prelude.{ℕ, ◌+◌, ◌*◌, List, [], ◌∷◌, sum_by, Option, Some, None}
use Rattle.bc_data.specs.Typed.{TypedExpression, Int, Truth, Null, Local, Neg, Not, Two, FieldOf, Length, Elem, Call, Make, Array, TypedExpressions, NoArg, Arg, TypedPart, TextPart, NumberPart, TruthPart, TypedStatement, Set, NewTag, SetField, SetElem, Drop, Perform, If, While, Return, Print, Assert, Exit, Block, TypedStatements, Nothing, Then, TypedMethod, TypedClass}

abbrev mutual
  pub weight : TypedExpression → ℕ
  weight (Int n) = 1
  weight (Truth b) = 1
  weight Null = 1
  weight (Local slot) = 1
  weight (Neg e) = weight e + 2
  weight (Not e) = weight e + 2
  weight (Two at o a b) = weight a + weight b + 2
  weight (FieldOf at object field) = weight object + 2
  weight (Length at array) = weight array + 2
  weight (Elem at array index) = weight array + weight index + 2
  weight (Call at object c n args) = weight object + weights args + 4
  weight (Make at c args tweaks) = weights args + 3
  weight (Array at k size) = weight size + 2

  pub weights : TypedExpressions → ℕ
  weights NoArg = 0
  weights (Arg front last) = weights front + weight last + 1

abbrev pub part_weight : TypedPart → ℕ
part_weight (TextPart bytes) = 1
part_weight (NumberPart e) = weight e + 1
part_weight (TruthPart e) = weight e + 1

abbrev pub part_weights : List TypedPart → ℕ
part_weights [] = 0
part_weights (p ∷ ps) = part_weight p + part_weights ps + 1

abbrev mutual
  pub stat_weight : TypedStatement → ℕ
  stat_weight (Set slot e) = weight e + 1
  stat_weight (NewTag at variable tag_type) = 1
  stat_weight (SetField at object field e) = weight object + weight e + 1
  stat_weight (SetElem at array index e) = weight array + weight index + weight e + 1
  stat_weight (Drop e) = weight e + 1
  stat_weight (Perform e) = weight e + 1
  stat_weight (If test body other) = weight test + stat_weights body + stat_weights other + 2
  stat_weight (While at test body) = weight test + stat_weights body + 3
  stat_weight (Return None) = 1
  stat_weight (Return (Some e)) = weight e + 1
  stat_weight (Print at parts) = part_weights parts + 1
  stat_weight (Assert at e) = weight e + 1
  stat_weight (Exit changes) = 1
  stat_weight (Block body) = stat_weights body + 1

  pub stat_weights : TypedStatements → ℕ
  stat_weights Nothing = 0
  stat_weights (Then front last) = stat_weights front + stat_weight last + 2

abbrev pub method_weight : TypedMethod → ℕ
method_weight m = stat_weights m.body

abbrev pub maker_weight : Option TypedMethod → ℕ
maker_weight None = 0
maker_weight (Some m) = method_weight m

abbrev pub class_weight : TypedClass → ℕ
class_weight k = maker_weight k.maker + sum_by method_weight k.methods

-- more than any body of these classes
abbrev pub above_all : List TypedClass → ℕ
above_all K = sum_by class_weight K + 1

-- So many calls may still follow, and this is left of the body that runs.
abbrev pub ahead : List TypedClass → ℕ → ℕ → ℕ
ahead K left rest = left * above_all K + rest
