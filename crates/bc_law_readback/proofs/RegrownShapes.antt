-- What the grammar asks of a tree's shape does not depend on its places.
use Rattle.std.proofs.Common.{◌≡◌, ℕ, ◌+◌, max, refl, ap, ap₂, subst}
use Rattle.bc_data.specs.SourceTree.{Sequence, Empty, More, largest, Expression, Int, Truth, Null, This, Var, Group, Neg, Not, Two, Field, Length, Elem, Call, Make, Array, Expressions, NoArg, Arg, height, tallest, Guard, FlagIs, FlagTruth, FlagNot, FlagTwo, FlagGroup, guard_height, PrintItem, TextItem, ValueItem, item_height, Statement, Let, NewTag, Assign, Do, MakeDo, Block, If, IfElse, While, Return, ReturnValue, Print, Assert, Exit, Statements, Nothing, Then, depth, deepest, Method, MethodOf, method_depth, Member, FlagMember, FieldMember, MethodMember, MakerMember, member_depth, Param, ParamOf, param_depth, Item, TagTypeItem, ClassItem, TaskItem, item_depth}
use Rattle.bc_data.specs.Grammar.{loose, IsChain, IsTarget, IsCall, IsMade, guard_loose}
use Rattle.bc_print.specs.Laws.{mapped, unplaced, unplaced_expression, unplaced_arguments, unplaced_guard, unplaced_print_item, unplaced_statement, unplaced_statements, unplaced_method, unplaced_member, unplaced_param, unplaced_item}
use Rattle.bc_law_readback.proofs.Regrown.{kept}

same_loose : (e : Expression) → loose (unplaced_expression e) ≡ loose e
same_loose (Int at n) = refl
same_loose (Truth at b) = refl
same_loose (Null at) = refl
same_loose (This at) = refl
same_loose (Var x) = refl
same_loose (Group at e) = refl
same_loose (Neg at e) = refl
same_loose (Not at e) = refl
same_loose (Two at op a b) = refl
same_loose (Field at a x) = refl
same_loose (Length at a) = refl
same_loose (Elem at a i) = refl
same_loose (Call at a x args) = refl
same_loose (Make at x args tweaks) = refl
same_loose (Array at kind e) = refl

same_chain : (e : Expression) → IsChain (unplaced_expression e) ≡ IsChain e
same_chain (Field at a x) = same_chain a
same_chain (Length at a) = same_chain a
same_chain (Elem at a i) = same_chain a
same_chain (Call at a x args) = same_chain a
same_chain _ = refl

same_target : (e : Expression) → IsTarget (unplaced_expression e) ≡ IsTarget e
same_target (Var x) = refl
same_target _ = refl

same_call : (e : Expression) → IsCall (unplaced_expression e) ≡ IsCall e
same_call (Call at a x args) = refl
same_call _ = refl

same_made : (e : Expression) → IsMade (unplaced_expression e) ≡ IsMade e
same_made (Make at x args tweaks) = refl
same_made _ = refl

same_guard_loose : (g : Guard) → guard_loose (unplaced_guard g) ≡ guard_loose g
same_guard_loose (FlagNot g) = refl
same_guard_loose _ = refl

module _ (e again : Expression) (u : unplaced_expression e ≡ unplaced_expression again) where
  -- how loosely two trees bind that differ in places alone, and what they are
  pub loose_kept : (P : ℕ → Type 0) → P (loose e) → P (loose again)
  loose_kept P = subst P (kept loose unplaced_expression same_loose e again u)

  pub chain_kept : IsChain e → IsChain again
  chain_kept = subst (λ T. T) (kept IsChain unplaced_expression same_chain e again u)

  pub target_kept : IsTarget e → IsTarget again
  target_kept = subst (λ T. T) (kept IsTarget unplaced_expression same_target e again u)

  pub call_kept : IsCall e → IsCall again
  call_kept = subst (λ T. T) (kept IsCall unplaced_expression same_call e again u)

  pub made_kept : IsMade e → IsMade again
  made_kept = subst (λ T. T) (kept IsMade unplaced_expression same_made e again u)

pub guard_loose_kept : (g again : Guard) → unplaced_guard g ≡ unplaced_guard again → (P : ℕ → Type 0) → P (guard_loose g) → P (guard_loose again)
guard_loose_kept g again u P = subst P (kept guard_loose unplaced_guard same_guard_loose g again u)

-- heights and depths
same_largest : {A : Type 0} → (f : A → ℕ) (apart : A → A) → ((x : A) → f (apart x) ≡ f x) → (xs : Sequence A) → largest f (mapped apart xs) ≡ largest f xs
same_largest f apart same Empty = refl
same_largest f apart same (More front last) = ap₂ max (same_largest f apart same front) (same last)

mutual
  same_height : (e : Expression) → height (unplaced_expression e) ≡ height e
  same_height (Int at n) = refl
  same_height (Truth at b) = refl
  same_height (Null at) = refl
  same_height (This at) = refl
  same_height (Var x) = refl
  same_height (Group at e) = ap (λ n. n + 1) (same_height e)
  same_height (Neg at e) = ap (λ n. n + 1) (same_height e)
  same_height (Not at e) = ap (λ n. n + 1) (same_height e)
  same_height (Two at op a b) = ap₂ (λ m n. max m n + 1) (same_height a) (same_height b)
  same_height (Field at a x) = ap (λ n. n + 1) (same_height a)
  same_height (Length at a) = ap (λ n. n + 1) (same_height a)
  same_height (Elem at a i) = ap₂ (λ m n. max m n + 1) (same_height a) (same_height i)
  same_height (Call at a x args) = ap₂ (λ m n. max m n + 1) (same_height a) (same_tallest args)
  same_height (Make at x args tweaks) = ap (λ n. n + 1) (same_tallest args)
  same_height (Array at kind e) = ap (λ n. n + 1) (same_height e)

  same_tallest : (es : Expressions) → tallest (unplaced_arguments es) ≡ tallest es
  same_tallest NoArg = refl
  same_tallest (Arg front last) = ap₂ max (same_tallest front) (same_height last)

same_guard_height : (g : Guard) → guard_height (unplaced_guard g) ≡ guard_height g
same_guard_height (FlagIs x) = refl
same_guard_height (FlagTruth b) = refl
same_guard_height (FlagNot g) = ap (λ n. n + 1) (same_guard_height g)
same_guard_height (FlagTwo op g h) = ap₂ (λ m n. max m n + 1) (same_guard_height g) (same_guard_height h)
same_guard_height (FlagGroup g) = ap (λ n. n + 1) (same_guard_height g)

same_item_height : (x : PrintItem) → item_height (unplaced_print_item x) ≡ item_height x
same_item_height (TextItem meaning) = refl
same_item_height (ValueItem e) = same_height e

mutual
  same_depth : (s : Statement) → depth (unplaced_statement s) ≡ depth s
  same_depth (Let x e) = ap (λ n. n + 1) (same_height e)
  same_depth (NewTag at x kind) = refl
  same_depth (Assign target e) = ap₂ (λ m n. max m n + 1) (same_height target) (same_height e)
  same_depth (Do call) = ap (λ n. n + 1) (same_height call)
  same_depth (MakeDo made) = ap (λ n. n + 1) (same_height made)
  same_depth (Block at body) = ap (λ n. n + 1) (same_deepest body)
  same_depth (If at test body) = ap₂ (λ m n. max m n + 1) (same_height test) (same_deepest body)
  same_depth (IfElse at test body other) = ap₂ (λ m n. max m n + 1) (ap₂ max (same_height test) (same_deepest body)) (same_deepest other)
  same_depth (While at test body) = ap₂ (λ m n. max m n + 1) (same_height test) (same_deepest body)
  same_depth (Return at) = refl
  same_depth (ReturnValue at e) = ap (λ n. n + 1) (same_height e)
  same_depth (Print at items) = ap (λ n. n + 1) (same_largest item_height unplaced_print_item same_item_height items)
  same_depth (Assert at e) = ap (λ n. n + 1) (same_height e)
  same_depth (Exit at changes) = refl

  same_deepest : (ss : Statements) → deepest (unplaced_statements ss) ≡ deepest ss
  same_deepest Nothing = refl
  same_deepest (Then front last) = ap₂ max (same_deepest front) (same_depth last)

same_method_depth : (m : Method) → method_depth (unplaced_method m) ≡ method_depth m
same_method_depth (MethodOf result x formals body) = same_deepest body

same_member_depth : (m : Member) → member_depth (unplaced_member m) ≡ member_depth m
same_member_depth (FlagMember x) = refl
same_member_depth (FieldMember x) = refl
same_member_depth (MethodMember m) = same_method_depth m
same_member_depth (MakerMember m) = same_method_depth m

same_param_depth : (p : Param) → param_depth (unplaced_param p) ≡ param_depth p
same_param_depth (ParamOf kind x guard binds) = same_guard_height guard

same_item_depth : (i : Item) → item_depth (unplaced_item i) ≡ item_depth i
same_item_depth (TagTypeItem x) = refl
same_item_depth (ClassItem x members) = same_largest member_depth unplaced_member same_member_depth members
same_item_depth (TaskItem at x params body) = ap₂ max (same_largest param_depth unplaced_param same_param_depth params) (same_deepest body)

-- how deep two programs are that differ in places alone
pub depth_kept : (items again : Sequence Item) → unplaced items ≡ unplaced again → (P : ℕ → Type 0) → P (largest item_depth items) → P (largest item_depth again)
depth_kept items again u P = subst P (kept (largest item_depth) unplaced (same_largest item_depth unplaced_item same_item_depth) items again u)
