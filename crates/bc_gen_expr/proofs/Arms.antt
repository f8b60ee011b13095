-- The code of each kind of expression, from that of its parts.
use Rattle.std.proofs.Common.{◌≡◌, ℕ, ◌+◌, ◌<◌, ◌≤◌, Bool, true, false, List, [], ◌∷◌, ◌++◌, length, take, get_or, refl, sym, ◌∙◌, ap, subst, arith, Some}
use Rattle.std.specs.Prelude.{slice_get}
use Rattle.std.proofs.lemmas.List.{take_all, take_more}
use Rattle.bc_data.specs.declared.run.Place.{Place}
use Rattle.bc_data.specs.declared.program.Expr.{Expr}
use Rattle.bc_data.specs.declared.program.Op.{Op}
use Rattle.bc_data.specs.declared.program.Tweak.{Tweak}
use Rattle.bc_data.specs.Typed.{TypedExpression, Two, Call, Make, TypedExpressions, NoArg, TypedClass}
use Rattle.bc_data.specs.ProgramView.{view_expr, expr_views}
use Rattle.bc_code.specs.declared.code.Instruction.{Instruction}
use Rattle.bc_code.specs.declared.code.Instruction.TheVariants as instruction
use Rattle.bc_code.specs.declared.code.Unit.{Unit as CodeUnit}
use Rattle.bc_code.specs.Emitted.{Emitted}
use Rattle.bc_code.specs.Instructions.{nowhere}
use Rattle.bc_code.specs.Translation.{Text, At, right_from, behind_make, behind_each, after, count, most_instructions, IsTweakCode, AreTweaks, IsMakeCall, HasExpression}
use Rattle.bc_gen_expr.specs.Pieces.{Calculates, decided_by, jump_where}
use Rattle.bc_gen_expr.specs.Written.{written}
use Rattle.bc_gen_expr.proofs.Growing.{laid, laid_at, then, told, retold, jumped}
use Rattle.bc_gen_expr.proofs.Rows.{views_more, count_views, each_append, tweaks_append}
use Rattle.bc_gen_expr.proofs.Stays.{kept_tweak, kept_tweaks, kept_make, all_grow, Emits, EmitsAll, laid_expression, laid_expressions}

abbrev pub EmitsOne : Instruction → Place → CodeUnit → CodeUnit → Type 0
EmitsOne i at a b = Emitted (λ T p. At T p i at) (λ p. p + 1) a b

-- an instruction behind its operand
pub one_operand : (K : List TypedClass) (x : TypedExpression) {i : Instruction} {at : Place} {a b c : CodeUnit} → Emits K x a b → EmitsOne i at b c → Emitted (λ T p. HasExpression K T p x × At T (after K p x) i at) (λ p. after K p x + 1) a c
one_operand K x l m = (then (laid_expression K x l) (laid_at m)).is

-- an instruction behind two operands
pub two_operands : (K : List TypedClass) (x y : TypedExpression) {i : Instruction} {at : Place} {a b c d : CodeUnit} → Emits K x a b → Emits K y b c → EmitsOne i at c d → Emitted (λ T p. HasExpression K T p x × HasExpression K T (after K p x) y × At T (after K (after K p x) y) i at) (λ p. after K (after K p x) y + 1) a d
two_operands K x y l m n = told (λ T h. (h.0, h.1.0, h.1.1)) (then (laid_expression K x l) (then (laid_expression K y m) (laid_at n))).is

-- an operator that calculates from both operands
pub calculated : (K : List TypedClass) (o : Op) (x y : TypedExpression) {i : Instruction} {at : Place} {a b c d : CodeUnit} → Calculates o i → Emits K x a b → Emits K y b c → EmitsOne i at c d → Emits K (Two at o x y) a d
calculated K o x y {i} {at} {a} does l m n =
    let p = after K (length a.code) x in
    let right = does.right p in
    retold
    (ap (λ z. after K z y + 1) (sym right) ∙ sym (does.behind (after K (right_from o p) y)))
    (λ T h. (
      h.0,
      subst (λ z. HasExpression K T z y) (sym right) h.1,
      does.is T at p (after K (right_from o p) y) (subst (λ z. At T (after K z y) i at) (sym right) h.2),
    ))
    (two_operands K x y l m n)

-- the left operand, a jump behind the leap, the right one, and a leap over the value that the left one decides
abbrev Short : List TypedClass → Bool → ℕ → ℕ → TypedExpression → TypedExpression → Text → ℕ → Type 0
Short K value decided end x y T p =
    HasExpression K T p x
    × (At T (after K p x) (jump_where value decided) nowhere
    × (HasExpression K T (after K p x + 1) y
    × (At T (after K (after K p x + 1) y) (instruction.Jump end) nowhere × At T (after K (after K p x + 1) y + 1) (instruction.Bool value) nowhere)))

short : (K : List TypedClass) (x y : TypedExpression) (value : Bool) {a b c d e f g h : CodeUnit} (test leap decided end : ℕ) → Emits K x a b → test ≡ length b.code → EmitsOne (jump_where value 0) nowhere b c → Emits K y c d → leap ≡ length d.code → EmitsOne (instruction.Jump 0) nowhere d e → decided ≡ length e.code → EmitsOne (instruction.Bool value) nowhere e f → end ≡ length f.code → g ≡ written f leap (instruction.Jump end) → h ≡ written g test (jump_where value decided) → Emitted (Short K value decided end x y) (λ p. after K (after K p x + 1) y + 1 + 1) a h
short K x y value test leap decided end l test_is one m leap_is two decided_is three end_is first second =
    let behind = jumped (instruction.Jump end) leap (laid_expression K y m) two (laid_at three) leap_is first in
    (jumped (jump_where value decided) test (laid_expression K x l) one behind test_is second).is

-- where the value that is decided stands
decided_at : (K : List TypedClass) (x y : TypedExpression) (value : Bool) {a b c d e : CodeUnit} → Emits K x a b → EmitsOne (jump_where value 0) nowhere b c → Emits K y c d → EmitsOne (instruction.Jump 0) nowhere d e → length e.code ≡ after K (after K (length a.code) x + 1) y + 1
decided_at K x y value l one m two = two.long ∙ ap (λ z. z + 1) (m.long ∙ ap (λ z. after K z y) (one.long ∙ ap (λ z. z + 1) l.long))

-- that is the code of `&&` and of `||`
short_is : (K : List TypedClass) (x y : TypedExpression) (value : Bool) (at : Place) (decided end : ℕ) (T : Text) (p : ℕ) → decided ≡ after K (after K p x + 1) y + 1 → end ≡ after K (after K p x + 1) y + 1 + 1 → Short K value decided end x y T p → HasExpression K T p (Two at (decided_by value) x y)
short_is K x y true at decided end T p d e h = (
  h.0,
  h.1.1.0,
  ((h.1.0.0 ∙ ap (λ z. Some (jump_where true z)) d, h.1.0.1), (h.1.1.1.0.0 ∙ ap (λ z. Some (instruction.Jump z)) e, h.1.1.1.0.1), h.1.1.1.1),
)
short_is K x y false at decided end T p d e h = (
  h.0,
  h.1.1.0,
  ((h.1.0.0 ∙ ap (λ z. Some (jump_where false z)) d, h.1.0.1), (h.1.1.1.0.0 ∙ ap (λ z. Some (instruction.Jump z)) e, h.1.1.1.0.1), h.1.1.1.1),
)

short_ends : (K : List TypedClass) (x y : TypedExpression) (value : Bool) (at : Place) (p : ℕ) → after K (after K p x + 1) y + 1 + 1 ≡ after K p (Two at (decided_by value) x y)
short_ends K x y true at p = refl
short_ends K x y false at p = refl

-- an operator that doesn't look at the right operand where the left one has this value, with both jumps written back
pub shortened : (K : List TypedClass) (x y : TypedExpression) (value : Bool) (at : Place) {a b c d e f g h : CodeUnit} (test leap decided end : ℕ) → Emits K x a b → test ≡ length b.code → EmitsOne (jump_where value 0) nowhere b c → Emits K y c d → leap ≡ length d.code → EmitsOne (instruction.Jump 0) nowhere d e → decided ≡ length e.code → EmitsOne (instruction.Bool value) nowhere e f → end ≡ length f.code → g ≡ written f leap (instruction.Jump end) → h ≡ written g test (jump_where value decided) → Emits K (Two at (decided_by value) x y) a h
shortened K x y value at {a} {b} {c} {d} {e} {f} test leap decided end l test_is one m leap_is two decided_is three end_is first second =
    let p = length a.code in
    let there : decided ≡ after K (after K p x + 1) y + 1 = decided_is ∙ decided_at K x y value l one m two in
    let behind : end ≡ after K (after K p x + 1) y + 1 + 1 = end_is ∙ three.long ∙ ap (λ z. z + 1) (sym decided_is ∙ there) in
    retold (short_ends K x y value at p) (λ T h. short_is K x y value at decided end T p there behind h) (short K x y value test leap decided end l test_is one m leap_is two decided_is three end_is first second)

-- the arguments
pub one_more : (K : List TypedClass) (es : List Expr) (i : ℕ) (e : Expr) {a b c : CodeUnit} → i < length es → e ≡ get_or es i e → EmitsAll K (expr_views (take i es) NoArg) a b → Emits K (view_expr e) b c → EmitsAll K (expr_views (take (i + 1) es) NoArg) a c
one_more K es i e {a} {b} {c} within is l m =
    subst (λ xs. EmitsAll K xs a c) (sym (views_more es i e within is)) (then (laid_expressions K (expr_views (take i es) NoArg) l) (laid_expression K (view_expr e) m)).is

-- No more arguments than instructions.
pub few_arguments : (K : List TypedClass) (es : List Expr) (i : ℕ) {a b : CodeUnit} → length es ≤ i → EmitsAll K (expr_views (take i es) NoArg) a b → length es ≤ most_instructions
few_arguments K es i {a} within l =
    let all = take_all i es within in
    let here = count_views (take i es) in
    let same = ap length all in
    let grown = all_grow K (expr_views (take i es) NoArg) (length a.code) in
    omega (arith, l.long, l.grows.short)

pub called : (K : List TypedClass) (x : TypedExpression) (args : TypedExpressions) (c n : ℕ) {k : ℕ} {at : Place} {u v w z : CodeUnit} → k ≡ count args → Emits K x u v → EmitsAll K args v w → EmitsOne (instruction.Call c n k) at w z → Emits K (Call at x c n args) u z
called K x args c n same l m o =
    told
    (λ T h. (h.0, h.1.0, (h.1.1.0 ∙ ap (λ k. Some (instruction.Call c n k)) same, h.1.1.1)))
    (then (laid_expression K x l) (then (laid_expressions K args m) (laid_at o))).is

-- the braces of a `new`
abbrev pub EmitsTweaks : List Tweak → CodeUnit → CodeUnit → Type 0
EmitsTweaks ts a b = Emitted (λ T p. AreTweaks T p ts) (λ p. behind_each ts p) a b

pub one_more_tweak : (ts : List Tweak) (i : ℕ) (t : Tweak) {a b c : CodeUnit} → i < length ts → EmitsTweaks (take i ts) a b → Emitted (λ T p. IsTweakCode T p (get_or ts i t)) (λ p. p + 1) b c → EmitsTweaks (take (i + 1) ts) a c
one_more_tweak ts i t {a} {b} {c} within l m =
    let front = take i ts in
    let x = get_or ts i t in
    let both = (then (laid (record { kept = kept_tweaks front }) l) (laid (record { kept = kept_tweak x }) m)).is in
    let more = retold {s = λ p. behind_each (front ++ x ∷ []) p} (sym (each_append front x (length a.code))) (λ T h. tweaks_append T front x (length a.code) h.0 h.1) both in
    subst (λ l. EmitsTweaks l a c) (sym (take_more ts i t within)) more

pub made : (K : List TypedClass) (args : TypedExpressions) (tweaks : List Tweak) (c k : ℕ) {at : Place} {u v w y z : CodeUnit} → k ≡ count args → EmitsAll K args u v → EmitsOne (instruction.NewObject c) at v w → EmitsTweaks tweaks w y → Emitted (λ T p. IsMakeCall T p at c k (slice_get K c)) (λ p. behind_make (slice_get K c) p) y z → Emits K (Make at c args tweaks) u z
made K args tweaks c k {at} {u} {v} {w} {y} {z} same l m n o =
    let call = subst (λ k. Emitted (λ T p. IsMakeCall T p at c k (slice_get K c)) (λ p. behind_make (slice_get K c) p) y z) same o in
    told
    (λ T h. (h.0, h.1.0, h.1.1.0, h.1.1.1))
    (then (laid_expressions K args l) (then (laid_at m) (then (laid (record { kept = kept_tweaks tweaks }) n) (laid (record { kept = kept_make at c (count args) (slice_get K c) }) call)))).is
