-- What the grammar says of items, as far as their types are concerned.
use Rattle.std.proofs.Common.{◌≡◌, ℕ, suc, List, [], ◌∷◌, None, All, arith}
use Rattle.bc_data.specs.Seen.{Seen}
use Rattle.bc_data.specs.SourceTree.{Sequence, Empty, More, Statement, Let, NewTag, Assign, Do, MakeDo, Block, If, IfElse, While, Return, ReturnValue, Print, Assert, Exit, Statements, Nothing, Then, Method, MethodOf, Member, FlagMember, FieldMember, MethodMember, MakerMember, Item, TagTypeItem, ClassItem, TaskItem}
use Rattle.bc_data.specs.Grammar.{IsTarget, Repeated, SpellsItem, SpellsMember, SpellsStat, SpellsStats}
use Rattle.bc_data.specs.Refusal.{IsTreeOf}
use Rattle.bc_data.specs.Names.{IsIdentifier}
use Rattle.bc_types_rules.specs.Bodies.{name_of}
use Rattle.bc_law_accepted.specs.Laws.{IsNamed}
use Rattle.bc_law_accepted.proofs.Behind.{Each, Leaves, item_leaves, member_leaves, moved, repeated, result_leaves, type_leaves}
use Rattle.bc_law_accepted.proofs.Paired.{IsEvery}

abbrev pub HasNoResult : Method → Type 0
HasNoResult (MethodOf result x formals body) = result ≡ None

abbrev pub HasSome : {A : Type 0} → Sequence A → Type 0
HasSome Empty = ⊥
HasSome (More front last) = Unit {0}

-- what is assigned to is a name, a field or an element
abbrev mutual
  pub IsWrittenStatement : Statement → Type 0
  IsWrittenStatement (Assign target e) = IsTarget target
  IsWrittenStatement (Block at body) = IsWrittenBody body
  IsWrittenStatement (If at test body) = IsWrittenBody body
  IsWrittenStatement (IfElse at test body other) = IsWrittenBody body × IsWrittenBody other
  IsWrittenStatement (While at test body) = IsWrittenBody body
  IsWrittenStatement _ = Unit {0}

  pub IsWrittenBody : Statements → Type 0
  IsWrittenBody Nothing = Unit {0}
  IsWrittenBody (Then front last) = IsWrittenBody front × IsWrittenStatement last

-- a constructor has no result, and each other member a name
abbrev pub IsWrittenMember : Member → Type 0
IsWrittenMember (FlagMember x) = IsIdentifier x.name
IsWrittenMember (FieldMember x) = IsIdentifier x.name.name
IsWrittenMember (MethodMember m) = IsIdentifier (name_of m).name
IsWrittenMember (MakerMember m) = HasNoResult m

-- and a task has parameters, and a body
abbrev pub IsWrittenItem : Item → Type 0
IsWrittenItem (TagTypeItem x) = IsIdentifier x.name
IsWrittenItem (ClassItem x members) = IsIdentifier x.name × IsEvery IsWrittenMember members
IsWrittenItem (TaskItem at x params body) = IsIdentifier x.name × HasSome params × IsWrittenBody body

every_repeated :
    {A : Type 0} (Spells : A → List Seen → List Seen → Type 0) (Q : A → Type 0)
    → Leaves IsNamed Spells
    → ((x : A) (ts rest : List Seen) → Each IsNamed ts → Spells x ts rest → Q x)
    → (xs : Sequence A) (ts rest : List Seen) → Each IsNamed ts → Repeated Spells xs ts rest → IsEvery Q xs
every_repeated Spells Q leaves one Empty ts rest a h = tt
every_repeated Spells Q leaves one (More front last) ts rest a h =
    (every_repeated Spells Q leaves one front ts h.0 a h.1, one last h.0 rest (repeated IsNamed Spells leaves front ts h.0 a h.1) h.2)

mutual
  statement_is_written : (x : Statement) (ts rest : List Seen) → SpellsStat x ts rest → IsWrittenStatement x
  statement_is_written (Let x e) ts rest h = tt
  statement_is_written (NewTag at x kind) ts rest h = tt
  statement_is_written (Assign target e) ts rest h = h.4
  statement_is_written (Do call) ts rest h = tt
  statement_is_written (MakeDo made) ts rest h = tt
  statement_is_written (Block at body) ts rest h = body_is_written body _ _ h.3
  statement_is_written (If at test body) ts rest h = body_is_written body _ _ h.6
  statement_is_written (IfElse at test body other) ts rest h = (body_is_written body _ _ h.10, body_is_written other _ _ h.11)
  statement_is_written (While at test body) ts rest h = body_is_written body _ _ h.6
  statement_is_written (Return at) ts rest h = tt
  statement_is_written (ReturnValue at e) ts rest h = tt
  statement_is_written (Print at items) ts rest h = tt
  statement_is_written (Assert at e) ts rest h = tt
  statement_is_written (Exit at changes) ts rest h = tt

  body_is_written : (ss : Statements) (ts rest : List Seen) → SpellsStats ss ts rest → IsWrittenBody ss
  body_is_written Nothing ts rest h = tt
  body_is_written (Then front last) ts rest h = (body_is_written front _ _ h.1, statement_is_written last _ _ h.2)

member_is_written : (m : Member) (ts rest : List Seen) → Each IsNamed ts → SpellsMember m ts rest → IsWrittenMember m
member_is_written (FlagMember x) ts rest a h = (moved IsNamed ts _ h.2 a).1.0
member_is_written (FieldMember x) ts rest a h = (type_leaves IsNamed x.kind ts _ a h.1).0
member_is_written (MethodMember (MethodOf result x formals body)) ts rest a h = (result_leaves IsNamed result ts _ a h.1).0
member_is_written (MakerMember (MethodOf result x formals body)) ts rest a h = h.1

item_is_written : (i : Item) (ts rest : List Seen) → Each IsNamed ts → SpellsItem i ts rest → IsWrittenItem i
item_is_written (TagTypeItem x) ts rest a h = (moved IsNamed ts _ h.2 a).1.0
item_is_written (ClassItem x members) ts rest a h =
    let here = moved IsNamed ts _ h.4 a in
    (here.1.0, every_repeated SpellsMember IsWrittenMember (member_leaves IsNamed) member_is_written members _ _ here.1.1.1 h.5)
item_is_written (TaskItem at x Empty body) ts rest a h = absurd h.5
item_is_written (TaskItem at x (More front last) body) ts rest a h = ((moved IsNamed ts _ h.4 a).1.0, tt, body_is_written body _ _ h.6.4)

each_token : (ts : List Seen) → All IsNamed ts → Each IsNamed ts
each_token [] h = tt
each_token (t ∷ ts) h = (h 0 t (omega arith), each_token ts (λ k d within. h (suc k) d (omega arith)))

pub every_item_is_written : (n : ℕ) (items : Sequence Item) (tokens : List Seen) → All IsNamed tokens → IsTreeOf n items tokens → IsEvery IsWrittenItem items
every_item_is_written n items tokens named h = every_repeated SpellsItem IsWrittenItem (item_leaves IsNamed) item_is_written items _ _ (each_token tokens named) h.2
