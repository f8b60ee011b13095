-- What the names of a tree mean under their numbering. The types of all fields and methods are known before the walk.
use Rattle.std.specs.Prelude.{ℕ, List, [], ◌∷◌, ◌++◌, Option, Some, None, slice_get, option_and_then, option_map}
use Rattle.bc_data.specs.SourceTree.{Sequence, Empty, More, Member, FlagMember, FieldMember, MethodMember, MakerMember, Method, MethodOf, Item, TagTypeItem, ClassItem, TaskItem}
use Rattle.bc_data.specs.declared.tree.TypeText.{TypeText}
use Rattle.bc_data.specs.declared.tree.Formal.{Formal}
use Rattle.bc_data.specs.declared.program.Shape.TheVariants as shape
use Rattle.bc_types_rules.specs.Numbering.{Spaces, number_of, member_number}
use Rattle.bc_types_rules.specs.Context.{ValueType, Known, Signature, FieldFound, MethodFound, Names, type_of}

-- what a class declares beside its names: the types of its fields, the signatures of its methods, and its constructor's formals
pub record Types : Type 0 where
  pub fields : List ValueType
  pub methods : List Signature
  pub maker : List ValueType

-- each element in turn, from the first on
abbrev pub fold_all : {S A : Type 0} → (S → A → S) → S → Sequence A → S
fold_all step s Empty = s
fold_all step s (More front last) = step (fold_all step s front) last

abbrev pub types_of_formals : (List ℕ → Option ℕ) → Sequence Formal → List ValueType
types_of_formals class_of formals = fold_all (λ ts x. ts ++ type_of class_of x.kind ∷ []) [] formals

abbrev pub type_of_result : (List ℕ → Option ℕ) → Option TypeText → Option ValueType
type_of_result class_of None = None
type_of_result class_of (Some t) = Some (type_of class_of t)

abbrev pub signature_of : (List ℕ → Option ℕ) → Method → Signature
signature_of class_of (MethodOf result x formals body) = record {
  formals = types_of_formals class_of formals;
  result = type_of_result class_of result;
}

abbrev pub with_member : (List ℕ → Option ℕ) → Types → Member → Types
with_member class_of t (FlagMember x) = t
with_member class_of t (FieldMember x) = record t { fields = t.fields ++ type_of class_of x.kind ∷ [] }
with_member class_of t (MethodMember m) = record t { methods = t.methods ++ signature_of class_of m ∷ [] }
with_member class_of t (MakerMember m) = record t { maker = (signature_of class_of m).formals }

abbrev pub no_types : Types
no_types = record { fields = []; methods = []; maker = [] }

abbrev pub with_item : (List ℕ → Option ℕ) → List Types → Item → List Types
with_item class_of ts (TagTypeItem x) = ts
with_item class_of ts (ClassItem x members) = ts ++ fold_all (with_member class_of) no_types members ∷ []
with_item class_of ts (TaskItem at x params body) = ts

-- `StartupObject` has the field `input`, an array of numbers.
abbrev pub startup_types : Types
startup_types = record { fields = Known shape.Ints ∷ []; methods = []; maker = [] }

-- of each class, under its number
abbrev pub types_of : (List ℕ → Option ℕ) → Sequence Item → List Types
types_of class_of items = fold_all (with_item class_of) (startup_types ∷ []) items

abbrev pub field_found : List Types → ℕ → ℕ → Option FieldFound
field_found ts class k =
    option_and_then (λ t. option_map (λ type. record { field = k; type = type }) (slice_get t.fields k)) (slice_get ts class)

abbrev pub method_found : List Types → ℕ → ℕ → Option MethodFound
method_found ts class k =
    option_and_then (λ t. option_map (λ s. record { method = k; signature = s }) (slice_get t.methods k)) (slice_get ts class)

abbrev pub formals_of_maker : Option Types → List ValueType
formals_of_maker None = []
formals_of_maker (Some t) = t.maker

abbrev pub names_by : Spaces → List Types → Names
names_by S ts = record {
  class_of = number_of S.classes;
  flag_of = member_number (λ m. m.flags) S;
  field_of = λ class name. option_and_then (field_found ts class) (member_number (λ m. m.fields) S class name);
  method_of = λ class name. option_and_then (method_found ts class) (member_number (λ m. m.methods) S class name);
  maker_formals = λ class. formals_of_maker (slice_get ts class);
  tag_type_of = number_of S.tag_types;
}

abbrev pub names_of : Spaces → Sequence Item → Names
names_of S items = names_by S (types_of (number_of S.classes) items)
