-- The grammar, by cases on the tree. `Spells tree ts rest` says that from ts on the tokens spell the tree, and
-- that then comes rest.
use Rattle.std.specs.Prelude.{◌≡◌, ◌⊎◌, ℕ, ◌≤◌, ◌<◌, Bool, true, false, IsTrue, List, ◌∷◌, Option, Some, None}
use Rattle.bc_data.specs.Seen.{Lexeme, Seen, Keyword, Name, Number, Text, Mark}
use Rattle.bc_data.specs.SourceTree.{Sequence, Empty, More, Expression, Int, Truth, Null, This, Var, Group, Neg, Not, Two, Field, Length, Elem, Call, Make, Array, Expressions, NoArg, Arg, GuardOp, AndOp, OrOp, Guard, FlagIs, FlagTruth, FlagNot, FlagTwo, FlagGroup, PrintItem, TextItem, ValueItem, Change, ChangeOf, Statement, Let, NewTag, Assign, Do, MakeDo, Block, If, IfElse, While, Return, ReturnValue, Print, Assert, Exit, Statements, Nothing, Then, Method, MethodOf, Member, FlagMember, FieldMember, MethodMember, MakerMember, Param, ParamOf, Item, TagTypeItem, ClassItem, TaskItem}
use Rattle.bc_data.specs.declared.run.Place.{Place}
use Rattle.bc_data.specs.declared.program.Op.{Op}
use Rattle.bc_data.specs.declared.program.Op.TheVariants as op
use Rattle.bc_data.specs.declared.token.Sign.{Sign}
use Rattle.bc_data.specs.declared.token.Word.{Word}
use Rattle.bc_data.specs.declared.token.Word.TheVariants as word
use Rattle.bc_data.specs.declared.token.Sign.TheVariants as sign
use Rattle.bc_data.specs.declared.tree.Named.{Named}
use Rattle.bc_data.specs.declared.tree.TypeText.{TypeText}
use Rattle.bc_data.specs.declared.tree.Base.{Base}
use Rattle.bc_data.specs.declared.tree.Base.TheVariants as base
use Rattle.bc_data.specs.declared.tree.Formal.{Formal}
use Rattle.bc_data.specs.declared.tree.Bind.{Bind}
use Rattle.bc_data.specs.declared.tree.ActionText.{ActionText}
use Rattle.bc_data.specs.declared.tree.ActionText.TheVariants as action

abbrev pub token : Lexeme → Place → Seen
token kind at = record { kind = kind; at = at }

abbrev pub name_token : Named → Seen
name_token x = token (Name x.name) x.at

abbrev pub truth : Bool → Lexeme
truth true = Keyword word.True
truth false = Keyword word.False

abbrev pub sign_of : Op → Sign
sign_of op.Or = sign.Either
sign_of op.And = sign.Both
sign_of op.Same = sign.Same
sign_of op.Differ = sign.Differ
sign_of op.Less = sign.Less
sign_of op.LessEq = sign.LessEq
sign_of op.More = sign.More
sign_of op.MoreEq = sign.MoreEq
sign_of op.Add = sign.Plus
sign_of op.Sub = sign.Minus
sign_of op.Mul = sign.Star
sign_of op.Div = sign.Slash
sign_of op.Rem = sign.Percent

-- how loosely an operator binds
abbrev pub looseness : Op → ℕ
looseness op.Or = 7
looseness op.And = 6
looseness op.Same = 5
looseness op.Differ = 5
looseness op.Less = 4
looseness op.LessEq = 4
looseness op.More = 4
looseness op.MoreEq = 4
looseness op.Add = 3
looseness op.Sub = 3
looseness op.Mul = 2
looseness op.Div = 2
looseness op.Rem = 2

-- the same of a tree: a primary with links 0, a unary operator or a `new` 1
abbrev pub loose : Expression → ℕ
loose (Neg at e) = 1
loose (Not at e) = 1
loose (Make at x args tweaks) = 1
loose (Array at kind e) = 1
loose (Two at op a b) = looseness op
loose _ = 0

-- elements that a separator ends each
abbrev pub Fronts : {A : Type 0} → (A → List Seen → List Seen → Type 0) → Lexeme → Sequence A → List Seen → List Seen → Type 0
Fronts Spells separator Empty ts rest = ts ≡ rest
Fronts Spells separator (More front last) ts rest = (mid : List Seen) × (at : Place) × Fronts Spells separator front ts mid × Spells last mid (token separator at ∷ rest)

-- at least one element, with a separator between each two
abbrev pub Separated : {A : Type 0} → (A → List Seen → List Seen → Type 0) → Lexeme → Sequence A → List Seen → List Seen → Type 0
Separated Spells separator Empty ts rest = ⊥
Separated Spells separator (More front last) ts rest = (mid : List Seen) × Fronts Spells separator front ts mid × Spells last mid rest

-- the same, or nothing
abbrev pub Listed : {A : Type 0} → (A → List Seen → List Seen → Type 0) → Lexeme → Sequence A → List Seen → List Seen → Type 0
Listed Spells separator Empty ts rest = ts ≡ rest
Listed Spells separator (More front last) ts rest = Separated Spells separator (More front last) ts rest

abbrev pub Repeated : {A : Type 0} → (A → List Seen → List Seen → Type 0) → Sequence A → List Seen → List Seen → Type 0
Repeated Spells Empty ts rest = ts ≡ rest
Repeated Spells (More front last) ts rest = (mid : List Seen) × Repeated Spells front ts mid × Spells last mid rest

-- `f := true`, `add t`, or, where it is allowed, `clear t`
abbrev pub SpellsAction : Bool → ActionText → List Seen → List Seen → Type 0
SpellsAction clears (action.Flag x b) ts rest = (becomes : Place) × (at : Place) × (ts ≡ name_token x ∷ token (Mark sign.Becomes) becomes ∷ token (truth b) at ∷ rest)
SpellsAction clears (action.Add at x) ts rest = ts ≡ token (Keyword word.Add) at ∷ name_token x ∷ rest
SpellsAction clears (action.Clear at x) ts rest = IsTrue clears × (ts ≡ token (Keyword word.Clear) at ∷ name_token x ∷ rest)

-- the braces behind a `new`: absent and empty ones are one
abbrev pub SpellsTweaks : Sequence ActionText → List Seen → List Seen → Type 0
SpellsTweaks Empty ts rest = (ts ≡ rest) ⊎ ((open_at : Place) × (close : Place) × (ts ≡ token (Mark sign.OpenBrace) open_at ∷ token (Mark sign.CloseBrace) close ∷ rest))
SpellsTweaks (More front last) ts rest = (inner : List Seen) × (open_at : Place) × (close : Place) × (ts ≡ token (Mark sign.OpenBrace) open_at ∷ inner) × Separated (SpellsAction false) (Mark sign.Comma) (More front last) inner (token (Mark sign.CloseBrace) close ∷ rest)

abbrev pub base_lexeme : Base → Lexeme
base_lexeme base.Int = Keyword word.Int
base_lexeme base.Bool = Keyword word.Bool
base_lexeme (base.Class name) = Name name

abbrev pub SpellsBrackets : Bool → List Seen → List Seen → Type 0
SpellsBrackets false ts rest = ts ≡ rest
SpellsBrackets true ts rest = (open_at : Place) × (close : Place) × (ts ≡ token (Mark sign.OpenBracket) open_at ∷ token (Mark sign.CloseBracket) close ∷ rest)

abbrev pub SpellsType : TypeText → List Seen → List Seen → Type 0
SpellsType kind ts rest = (mid : List Seen) × (ts ≡ token (base_lexeme kind.base) kind.at ∷ mid) × SpellsBrackets kind.many mid rest

abbrev mutual
  pub Spells : Expression → List Seen → List Seen → Type 0
  Spells (Int at n) ts rest = ts ≡ token (Number n) at ∷ rest
  Spells (Truth at b) ts rest = ts ≡ token (truth b) at ∷ rest
  Spells (Null at) ts rest = ts ≡ token (Keyword word.Null) at ∷ rest
  Spells (This at) ts rest = ts ≡ token (Keyword word.This) at ∷ rest
  Spells (Var x) ts rest = ts ≡ name_token x ∷ rest
  Spells (Group at e) ts rest = (inner : List Seen) × (close : Place) × (ts ≡ token (Mark sign.OpenParen) at ∷ inner) × Spells e inner (token (Mark sign.CloseParen) close ∷ rest)
  Spells (Neg at e) ts rest = (inner : List Seen) × (ts ≡ token (Mark sign.Minus) at ∷ inner) × (loose e ≤ 1) × Spells e inner rest
  Spells (Not at e) ts rest = (inner : List Seen) × (ts ≡ token (Mark sign.Bang) at ∷ inner) × (loose e ≤ 1) × Spells e inner rest
  Spells (Two at op a b) ts rest = (mid : List Seen) × (loose a ≤ looseness op) × (loose b < looseness op) × Spells a ts (token (Mark (sign_of op)) at ∷ mid) × Spells b mid rest
  Spells (Field at a x) ts rest = (loose a ≡ 0) × Spells a ts (token (Mark sign.Dot) at ∷ name_token x ∷ rest)
  Spells (Length at a) ts rest = (word_at : Place) × (loose a ≡ 0) × Spells a ts (token (Mark sign.Dot) at ∷ token (Keyword word.Length) word_at ∷ rest)
  Spells (Elem at a i) ts rest = (mid : List Seen) × (close : Place) × (loose a ≡ 0) × Spells a ts (token (Mark sign.OpenBracket) at ∷ mid) × Spells i mid (token (Mark sign.CloseBracket) close ∷ rest)
  Spells (Call at a x args) ts rest = (mid : List Seen) × (open_at : Place) × (close : Place) × (loose a ≡ 0) × Spells a ts (token (Mark sign.Dot) at ∷ name_token x ∷ token (Mark sign.OpenParen) open_at ∷ mid) × SpellsArgs args mid (token (Mark sign.CloseParen) close ∷ rest)
  Spells (Make at x args tweaks) ts rest = (inner : List Seen) × (behind : List Seen) × (open_at : Place) × (close : Place) × (ts ≡ token (Keyword word.New) at ∷ name_token x ∷ token (Mark sign.OpenParen) open_at ∷ inner) × SpellsArgs args inner (token (Mark sign.CloseParen) close ∷ behind) × SpellsTweaks tweaks behind rest
  Spells (Array at kind e) ts rest = (inner : List Seen) × (open_at : Place) × (close : Place) × (kind.many ≡ false) × (ts ≡ token (Keyword word.New) at ∷ token (base_lexeme kind.base) kind.at ∷ token (Mark sign.OpenBracket) open_at ∷ inner) × Spells e inner (token (Mark sign.CloseBracket) close ∷ rest)

  -- the same of arguments, with a comma between each two
  pub SpellsArgs : Expressions → List Seen → List Seen → Type 0
  SpellsArgs NoArg ts rest = ts ≡ rest
  SpellsArgs (Arg front last) ts rest = (mid : List Seen) × SpellsFront front ts mid × Spells last mid rest

  -- the same of arguments that a comma ends each
  pub SpellsFront : Expressions → List Seen → List Seen → Type 0
  SpellsFront NoArg ts rest = ts ≡ rest
  SpellsFront (Arg front last) ts rest = (mid : List Seen) × (comma : Place) × SpellsFront front ts mid × Spells last mid (token (Mark sign.Comma) comma ∷ rest)

-- a name or `this`, with links
abbrev pub IsChain : Expression → Type 0
IsChain (This at) = Unit {0}
IsChain (Var x) = Unit {0}
IsChain (Field at a x) = IsChain a
IsChain (Length at a) = IsChain a
IsChain (Elem at a i) = IsChain a
IsChain (Call at a x args) = IsChain a
IsChain _ = ⊥

abbrev pub IsTarget : Expression → Type 0
IsTarget (Var x) = Unit {0}
IsTarget (Field at a x) = Unit {0}
IsTarget (Elem at a i) = Unit {0}
IsTarget _ = ⊥

abbrev pub IsCall : Expression → Type 0
IsCall (Call at a x args) = Unit {0}
IsCall _ = ⊥

abbrev pub IsMade : Expression → Type 0
IsMade (Make at x args tweaks) = Unit {0}
IsMade _ = ⊥

abbrev pub SpellsPrintItem : PrintItem → List Seen → List Seen → Type 0
SpellsPrintItem (TextItem meaning) ts rest = (at : Place) × (ts ≡ token (Text meaning) at ∷ rest)
SpellsPrintItem (ValueItem e) ts rest = Spells e ts rest

abbrev pub SpellsChange : Change → List Seen → List Seen → Type 0
SpellsChange (ChangeOf x actions) ts rest = (inner : List Seen) × (colon : Place) × (ts ≡ name_token x ∷ token (Mark sign.Colon) colon ∷ inner) × Separated (SpellsAction true) (Mark sign.Comma) actions inner rest

-- a keyword and an expression in parentheses
abbrev pub SpellsTest : Word → Place → Expression → List Seen → List Seen → Type 0
SpellsTest keyword at e ts rest = (inner : List Seen) × (paren : Place) × (close : Place) × (ts ≡ token (Keyword keyword) at ∷ token (Mark sign.OpenParen) paren ∷ inner) × Spells e inner (token (Mark sign.CloseParen) close ∷ rest)

abbrev mutual
  pub SpellsStat : Statement → List Seen → List Seen → Type 0
  SpellsStat (Let x e) ts rest = (behind : List Seen) × (inner : List Seen) × (equals : Place) × (semicolon : Place) × SpellsType x.kind ts behind × (behind ≡ name_token x.name ∷ token (Mark sign.Equals) equals ∷ inner) × Spells e inner (token (Mark sign.Semicolon) semicolon ∷ rest)
  SpellsStat (NewTag at x kind) ts rest = (equals : Place) × (new : Place) × (tag : Place) × (paren : Place) × (close : Place) × (semicolon : Place) × (ts ≡ token (Keyword word.Tag) at ∷ name_token x ∷ token (Mark sign.Equals) equals ∷ token (Keyword word.New) new ∷ token (Keyword word.Tag) tag ∷ token (Mark sign.OpenParen) paren ∷ name_token kind ∷ token (Mark sign.CloseParen) close ∷ token (Mark sign.Semicolon) semicolon ∷ rest)
  SpellsStat (Assign target e) ts rest = (inner : List Seen) × (equals : Place) × (semicolon : Place) × IsChain target × IsTarget target × Spells target ts (token (Mark sign.Equals) equals ∷ inner) × Spells e inner (token (Mark sign.Semicolon) semicolon ∷ rest)
  SpellsStat (Do call) ts rest = (semicolon : Place) × IsChain call × IsCall call × Spells call ts (token (Mark sign.Semicolon) semicolon ∷ rest)
  SpellsStat (MakeDo made) ts rest = (semicolon : Place) × IsMade made × Spells made ts (token (Mark sign.Semicolon) semicolon ∷ rest)
  SpellsStat (Block at body) ts rest = (inner : List Seen) × (close : Place) × (ts ≡ token (Mark sign.OpenBrace) at ∷ inner) × SpellsStats body inner (token (Mark sign.CloseBrace) close ∷ rest)
  SpellsStat (If at test body) ts rest = (behind : List Seen) × (inner : List Seen) × (brace : Place) × (close : Place) × SpellsTest word.If at test ts behind × (behind ≡ token (Mark sign.OpenBrace) brace ∷ inner) × SpellsStats body inner (token (Mark sign.CloseBrace) close ∷ rest)
  SpellsStat (IfElse at test body other) ts rest = (behind : List Seen) × (inner : List Seen) × (last : List Seen) × (brace : Place) × (close : Place) × (else_at : Place) × (brace_2 : Place) × (close_2 : Place) × SpellsTest word.If at test ts behind × (behind ≡ token (Mark sign.OpenBrace) brace ∷ inner) × SpellsStats body inner (token (Mark sign.CloseBrace) close ∷ token (Keyword word.Else) else_at ∷ token (Mark sign.OpenBrace) brace_2 ∷ last) × SpellsStats other last (token (Mark sign.CloseBrace) close_2 ∷ rest)
  SpellsStat (While at test body) ts rest = (behind : List Seen) × (inner : List Seen) × (brace : Place) × (close : Place) × SpellsTest word.While at test ts behind × (behind ≡ token (Mark sign.OpenBrace) brace ∷ inner) × SpellsStats body inner (token (Mark sign.CloseBrace) close ∷ rest)
  SpellsStat (Return at) ts rest = (semicolon : Place) × (ts ≡ token (Keyword word.Return) at ∷ token (Mark sign.Semicolon) semicolon ∷ rest)
  SpellsStat (ReturnValue at e) ts rest = (inner : List Seen) × (semicolon : Place) × (ts ≡ token (Keyword word.Return) at ∷ inner) × Spells e inner (token (Mark sign.Semicolon) semicolon ∷ rest)
  SpellsStat (Print at items) ts rest = (inner : List Seen) × (paren : Place) × (close : Place) × (semicolon : Place) × (ts ≡ token (Keyword word.Print) at ∷ token (Mark sign.OpenParen) paren ∷ inner) × Separated SpellsPrintItem (Mark sign.Comma) items inner (token (Mark sign.CloseParen) close ∷ token (Mark sign.Semicolon) semicolon ∷ rest)
  SpellsStat (Assert at e) ts rest = (semicolon : Place) × SpellsTest word.Assert at e ts (token (Mark sign.Semicolon) semicolon ∷ rest)
  SpellsStat (Exit at changes) ts rest = (inner : List Seen) × (paren : Place) × (close : Place) × (semicolon : Place) × (ts ≡ token (Keyword word.TaskExit) at ∷ token (Mark sign.OpenParen) paren ∷ inner) × Listed SpellsChange (Mark sign.Semicolon) changes inner (token (Mark sign.CloseParen) close ∷ token (Mark sign.Semicolon) semicolon ∷ rest)

  pub SpellsStats : Statements → List Seen → List Seen → Type 0
  SpellsStats Nothing ts rest = ts ≡ rest
  SpellsStats (Then front last) ts rest = (mid : List Seen) × SpellsStats front ts mid × SpellsStat last mid rest

abbrev pub guard_looseness : GuardOp → ℕ
guard_looseness AndOp = 2
guard_looseness OrOp = 3

abbrev pub guard_word : GuardOp → Word
guard_word AndOp = word.And
guard_word OrOp = word.Or

abbrev pub guard_loose : Guard → ℕ
guard_loose (FlagNot g) = 1
guard_loose (FlagTwo op g h) = guard_looseness op
guard_loose _ = 0

abbrev pub SpellsGuard : Guard → List Seen → List Seen → Type 0
SpellsGuard (FlagIs x) ts rest = ts ≡ name_token x ∷ rest
SpellsGuard (FlagTruth b) ts rest = (at : Place) × (ts ≡ token (truth b) at ∷ rest)
SpellsGuard (FlagNot g) ts rest = (inner : List Seen) × (at : Place) × (ts ≡ token (Mark sign.Bang) at ∷ inner) × (guard_loose g ≤ 1) × SpellsGuard g inner rest
SpellsGuard (FlagTwo op g h) ts rest = (mid : List Seen) × (at : Place) × (guard_loose g ≤ guard_looseness op) × (guard_loose h < guard_looseness op) × SpellsGuard g ts (token (Keyword (guard_word op)) at ∷ mid) × SpellsGuard h mid rest
SpellsGuard (FlagGroup g) ts rest = (inner : List Seen) × (open_at : Place) × (close : Place) × (ts ≡ token (Mark sign.OpenParen) open_at ∷ inner) × SpellsGuard g inner (token (Mark sign.CloseParen) close ∷ rest)

abbrev pub SpellsBind : Bind → List Seen → List Seen → Type 0
SpellsBind bind ts rest = ts ≡ name_token bind.tag_type ∷ name_token bind.variable ∷ rest

abbrev pub SpellsBinds : Sequence Bind → List Seen → List Seen → Type 0
SpellsBinds Empty ts rest = ts ≡ rest
SpellsBinds (More front last) ts rest = (inner : List Seen) × (at : Place) × (ts ≡ token (Keyword word.With) at ∷ inner) × Separated SpellsBind (Keyword word.And) (More front last) inner rest

abbrev pub SpellsParam : Param → List Seen → List Seen → Type 0
SpellsParam (ParamOf kind x guard binds) ts rest = (inner : List Seen) × (behind : List Seen) × (in_at : Place) × (ts ≡ name_token kind ∷ name_token x ∷ token (Keyword word.In) in_at ∷ inner) × SpellsGuard guard inner behind × SpellsBinds binds behind rest

abbrev pub SpellsFormal : Formal → List Seen → List Seen → Type 0
SpellsFormal x ts rest = SpellsType x.kind ts (name_token x.name ∷ rest)

-- a block of statements
abbrev pub SpellsBody : Statements → List Seen → List Seen → Type 0
SpellsBody body ts rest = (inner : List Seen) × (brace : Place) × (close : Place) × (ts ≡ token (Mark sign.OpenBrace) brace ∷ inner) × SpellsStats body inner (token (Mark sign.CloseBrace) close ∷ rest)

-- formals in parentheses, and a block
abbrev pub SpellsCode : Sequence Formal → Statements → List Seen → List Seen → Type 0
SpellsCode formals body ts rest = (inner : List Seen) × (behind : List Seen) × (paren : Place) × (close : Place) × (ts ≡ token (Mark sign.OpenParen) paren ∷ inner) × Listed SpellsFormal (Mark sign.Comma) formals inner (token (Mark sign.CloseParen) close ∷ behind) × SpellsBody body behind rest

abbrev pub SpellsResult : Option TypeText → List Seen → List Seen → Type 0
SpellsResult None ts rest = (at : Place) × (ts ≡ token (Keyword word.Void) at ∷ rest)
SpellsResult (Some kind) ts rest = SpellsType kind ts rest

abbrev pub SpellsMethod : Method → List Seen → List Seen → Type 0
SpellsMethod (MethodOf result x formals body) ts rest = (behind : List Seen) × SpellsResult result ts (name_token x ∷ behind) × SpellsCode formals body behind rest

abbrev pub SpellsMaker : Method → List Seen → List Seen → Type 0
SpellsMaker (MethodOf result x formals body) ts rest = (behind : List Seen) × (result ≡ None) × (ts ≡ name_token x ∷ behind) × SpellsCode formals body behind rest

abbrev pub SpellsMember : Member → List Seen → List Seen → Type 0
SpellsMember (FlagMember x) ts rest = (at : Place) × (semicolon : Place) × (ts ≡ token (Keyword word.Flag) at ∷ name_token x ∷ token (Mark sign.Semicolon) semicolon ∷ rest)
SpellsMember (FieldMember x) ts rest = (semicolon : Place) × SpellsFormal x ts (token (Mark sign.Semicolon) semicolon ∷ rest)
SpellsMember (MethodMember m) ts rest = SpellsMethod m ts rest
SpellsMember (MakerMember m) ts rest = SpellsMaker m ts rest

abbrev pub SpellsItem : Item → List Seen → List Seen → Type 0
SpellsItem (TagTypeItem x) ts rest = (at : Place) × (semicolon : Place) × (ts ≡ token (Keyword word.TagType) at ∷ name_token x ∷ token (Mark sign.Semicolon) semicolon ∷ rest)
SpellsItem (ClassItem x members) ts rest = (inner : List Seen) × (at : Place) × (brace : Place) × (close : Place) × (ts ≡ token (Keyword word.Class) at ∷ name_token x ∷ token (Mark sign.OpenBrace) brace ∷ inner) × Repeated SpellsMember members inner (token (Mark sign.CloseBrace) close ∷ rest)
SpellsItem (TaskItem at x params body) ts rest = (inner : List Seen) × (behind : List Seen) × (paren : Place) × (close : Place) × (ts ≡ token (Keyword word.Task) at ∷ name_token x ∷ token (Mark sign.OpenParen) paren ∷ inner) × Separated SpellsParam (Mark sign.Comma) params inner (token (Mark sign.CloseParen) close ∷ behind) × SpellsBody body behind rest
