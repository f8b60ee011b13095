-- Worked examples of the numbering of names. A place is a column of the one line that the text has.
use Rattle.std.specs.Prelude.{◌≡◌, ℕ, false, true, List, [], ◌∷◌, Some, None, codes}
use Rattle.bc_data.specs.SourceTree.{Sequence, Empty, More, Nothing, Member, FlagMember, FieldMember, MethodMember, MakerMember, Method, MethodOf, Item, TagTypeItem, ClassItem, TaskItem}
use Rattle.bc_data.specs.declared.run.Place.{Place}
use Rattle.bc_data.specs.declared.tree.Named.{Named}
use Rattle.bc_data.specs.declared.tree.Base.TheVariants as base
use Rattle.bc_types_rules.specs.Got.{Gives, Fails, Twice}
use Rattle.bc_types_rules.specs.Numbering.{Members, Spaces, number_of, member_number, startup_members, startup_spaces, numbering}

abbrev pub place : ℕ → Place
place column = record { line = 1; column = column }

abbrev pub named : List ℕ → ℕ → Named
named name column = record { name = name; at = place column }

abbrev pub int_field : List ℕ → ℕ → ℕ → Member
int_field name at column = FieldMember (record { kind = record { base = base.Int; many = false; at = place at }; name = named name column })

-- a method or a constructor that does nothing
abbrev pub routine : List ℕ → ℕ → Method
routine name column = MethodOf None (named name column) Empty Nothing

abbrev pub one : {A : Type 0} → A → Sequence A
one x = More Empty x

abbrev pub two : {A : Type 0} → A → A → Sequence A
two x y = More (one x) y

-- class A { int x; int x; }
abbrev pub with_one_field_twice : Item
with_one_field_twice = ClassItem (named (codes "A") 7) (two (int_field (codes "x") 11 15) (int_field (codes "x") 18 22))

-- class A { B() { } A() { } }
abbrev pub with_two_makers : Item
with_two_makers = ClassItem (named (codes "A") 7) (two (MakerMember (routine (codes "B") 11)) (MakerMember (routine (codes "A") 19)))

-- class A { flag f; int f; void f() { } f() { } }
abbrev pub four_spaces : Item
four_spaces = ClassItem (named (codes "A") 7) (More (More (two (FlagMember (named (codes "f") 16)) (int_field (codes "f") 19 23)) (MethodMember (routine (codes "f") 31))) (MakerMember (routine (codes "f") 39)))

abbrev pub four_members : Members
four_members = record { flags = codes "f" ∷ []; fields = codes "f" ∷ []; methods = codes "f" ∷ []; has_maker = true }

abbrev pub four_declared : Spaces
four_declared = record startup_spaces { classes = codes "StartupObject" ∷ codes "A" ∷ []; members = startup_members ∷ four_members ∷ [] }

-- a class without members
abbrev pub empty_class : List ℕ → ℕ → Item
empty_class name column = ClassItem (named name column) Empty

-- tagtype t; task t() { }
abbrev pub tag_type_and_task : Sequence Item
tag_type_and_task = two (TagTypeItem (named (codes "t") 9)) (TaskItem (place 12) (named (codes "t") 17) Empty Nothing)

abbrev pub both_declared : Spaces
both_declared = record startup_spaces { tag_types = codes "t" ∷ []; tasks = codes "t" ∷ [] }

pub record NumberingExamples : Type 0 where
  pub field_twice : numbering (one with_one_field_twice) ≡ Fails Twice (place 22)
  pub two_makers : numbering (one with_two_makers) ≡ Fails Twice (place 19)
  pub startup_class_twice : numbering (one (empty_class (codes "StartupObject") 7)) ≡ Fails Twice (place 7)
  pub spaces_apart : numbering (one four_spaces) ≡ Gives four_declared
  pub class_and_member_twice : numbering (two (empty_class (codes "A") 7) with_one_field_twice) ≡ Fails Twice (place 7)
  pub member_and_class_twice : numbering (two with_one_field_twice (empty_class (codes "A") 33)) ≡ Fails Twice (place 22)
  pub other_kinds_apart : numbering tag_type_and_task ≡ Gives both_declared
  pub class_number : number_of four_declared.classes (codes "A") ≡ Some 1
  pub field_number : member_number (λ m. m.fields) four_declared 1 (codes "f") ≡ Some 0
  pub input_elsewhere : member_number (λ m. m.fields) four_declared 1 (codes "input") ≡ None
  pub no_such_class : member_number (λ m. m.fields) four_declared 2 (codes "f") ≡ None
