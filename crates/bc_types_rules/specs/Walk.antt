-- The program of a tree, or its first fault.
use Rattle.std.specs.Prelude.{◌≡◌, ℕ, codes, length, List, [], ◌∷◌, ◌++◌, Some, None}
use Rattle.bc_data.specs.SourceTree.{Sequence, Member, FlagMember, FieldMember, MethodMember, MakerMember, Item, TagTypeItem, ClassItem, TaskItem}
use Rattle.bc_data.specs.declared.run.Place.{Place}
use Rattle.bc_data.specs.declared.program.Shape.TheVariants as shape
use Rattle.bc_data.specs.Startup.{startup_class}
use Rattle.bc_types_rules.specs.Got.{Got, Gives, Fails, Kind, ◌>>=◌}
use Rattle.bc_types_rules.specs.Numbering.{numbering, try_fold}
use Rattle.bc_data.specs.Typed.{TypedClass, TypedProgram}
use Rattle.bc_types_rules.specs.Context.{Names, shape_at}
use Rattle.bc_types_rules.specs.Declared.{names_of}
use Rattle.bc_types_rules.specs.Bodies.{check_method, check_maker, check_task}

-- a member of the class with this number
abbrev pub check_member : Names → ℕ → TypedClass → Member → Got TypedClass
check_member N me c (FlagMember x) = Gives (record c { flags = c.flags ++ x.name ∷ [] })
check_member N me c (FieldMember x) = do
  sh ← shape_at N x.kind
  Gives (record c { fields = c.fields ++ record { name = x.name.name; shape = sh } ∷ [] })
check_member N me c (MethodMember m) = do
  y ← check_method N me m
  Gives (record c { methods = c.methods ++ y ∷ [] })
check_member N me c (MakerMember m) = do
  y ← check_maker N me c.name m
  Gives (record c { maker = Some y })

abbrev pub empty_class : List ℕ → TypedClass
empty_class name = record { name = name; flags = []; fields = []; maker = None; methods = [] }

-- A class has the number of those that are declared before it.
abbrev pub check_item : Names → TypedProgram → Item → Got TypedProgram
check_item N p (TagTypeItem x) = Gives (record p { tag_types = p.tag_types ++ x.name ∷ [] })
check_item N p (ClassItem x members) = do
  c ← try_fold (check_member N (length p.classes)) (empty_class x.name) members
  Gives (record p { classes = p.classes ++ c ∷ [] })
check_item N p (TaskItem at x params body) = do
  t ← check_task N at x params body
  Gives (record p { tasks = p.tasks ++ t ∷ [] })

abbrev pub startup_program : TypedProgram
startup_program = record { classes = startup_class ∷ []; tag_types = []; tasks = [] }

-- items and members in the order of the text
abbrev pub walk : Names → Sequence Item → Got TypedProgram
walk N items = try_fold (check_item N) startup_program items

-- first the names, then the walk
abbrev pub check : Sequence Item → Got TypedProgram
check items = do
  S ← numbering items
  walk (names_of S items) items

-- the items are accepted as this program
abbrev pub Accepts : Sequence Item → TypedProgram → Type 0
Accepts items p = check items ≡ Gives p

-- this is the first fault of the items
abbrev pub HasTypeFault : Sequence Item → Kind → Place → Type 0
HasTypeFault items kind at = check items ≡ Fails kind at
