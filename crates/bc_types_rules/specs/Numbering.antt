-- The numbering of names: what a program declares, or the first name that is declared twice or is one too many.
use Rattle.std.specs.Prelude.{ℕ, Bool, true, false, List, [], ◌∷◌, ◌++◌, Option, Some, None, codes, is_some, length, nat_eq, nat_lt, not, position, slice_get}
use Rattle.std.specs.Cmp.Lexicographic.{pointwise}
use Rattle.bc_data.specs.SourceTree.{Sequence, Empty, More, Member, FlagMember, FieldMember, MethodMember, MakerMember, MethodOf, Item, TagTypeItem, ClassItem, TaskItem}
use Rattle.bc_data.specs.declared.tree.Named.{Named}
use Rattle.bc_types_rules.specs.Got.{Got, Gives, Twice, TooMany, ask, ◌>>=◌, ◌>>◌}

-- A space is the names that it has, in the order of their declarations.
abbrev pub Space : Type 0
Space = List (List ℕ)

-- The number of a name is its place in its space.
abbrev pub number_of : Space → List ℕ → Option ℕ
number_of space name = position (pointwise nat_eq name) space

-- a space that may have so many names, with one more
abbrev pub declare : ℕ → Space → Named → Got Space
declare most space x = do
  ask (not (is_some (number_of space x.name))) Twice x.at
  ask (nat_lt (length space) most) TooMany x.at
  Gives (space ++ x.name ∷ [])

-- what a class declares, and whether it has a constructor
pub record Members : Type 0 where
  pub flags : Space
  pub fields : Space
  pub methods : Space
  pub has_maker : Bool

-- What a program declares. The members of a class stand under its number.
pub record Spaces : Type 0 where
  pub classes : Space
  pub members : List Members
  pub tag_types : Space
  pub tasks : Space

-- each element in turn, from the first on
abbrev pub try_fold : {S A : Type 0} → (S → A → Got S) → S → Sequence A → Got S
try_fold step s Empty = Gives s
try_fold step s (More front last) = do
  t ← try_fold step s front
  step t last

abbrev pub no_members : Members
no_members = record { flags = []; fields = []; methods = []; has_maker = false }

-- a class with a constructor, whatever its name is
abbrev pub declare_maker : Members → Named → Got Members
declare_maker m x = do
  ask (not m.has_maker) Twice x.at
  Gives (record m { has_maker = true })

-- A class has at most 32 flags, 256 fields, 256 methods and one constructor.
abbrev pub declare_member : Members → Member → Got Members
declare_member m (FlagMember x) = do
  flags ← declare 32 m.flags x
  Gives (record m { flags = flags })
declare_member m (FieldMember x) = do
  fields ← declare 256 m.fields x.name
  Gives (record m { fields = fields })
declare_member m (MethodMember (MethodOf result x formals body)) = do
  methods ← declare 256 m.methods x
  Gives (record m { methods = methods })
declare_member m (MakerMember (MethodOf result x formals body)) = declare_maker m x

-- A class's own name comes before its members.
abbrev pub declare_class : Spaces → Named → Sequence Member → Got Spaces
declare_class s x members = do
  classes ← declare 256 s.classes x
  m ← try_fold declare_member no_members members
  Gives (record s { classes = classes; members = s.members ++ m ∷ [] })

-- A program has at most 64 tag types, 256 classes and 256 tasks.
abbrev pub declare_item : Spaces → Item → Got Spaces
declare_item s (TagTypeItem x) = do
  tag_types ← declare 64 s.tag_types x
  Gives (record s { tag_types = tag_types })
declare_item s (ClassItem x members) = declare_class s x members
declare_item s (TaskItem at x params body) = do
  tasks ← declare 256 s.tasks x
  Gives (record s { tasks = tasks })

-- Each program has the class `StartupObject` from the start, with a flag and a field.
abbrev pub startup_members : Members
startup_members = record { flags = codes "initialstate" ∷ []; fields = codes "input" ∷ []; methods = []; has_maker = false }

abbrev pub startup_spaces : Spaces
startup_spaces = record { classes = codes "StartupObject" ∷ []; members = startup_members ∷ []; tag_types = []; tasks = [] }

abbrev pub numbering : Sequence Item → Got Spaces
numbering items = try_fold declare_item startup_spaces items

-- the number of a member of a class, which has it in the space that is asked for
abbrev pub member_number : (Members → Space) → Spaces → ℕ → List ℕ → Option ℕ
member_number kind s class name = elim (slice_get s.members class) [ Some m ↦ number_of (kind m) name | None ↦ None ]
