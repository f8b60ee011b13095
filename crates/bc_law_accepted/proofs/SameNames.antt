-- A numbering names what the program of the same items has.
use Rattle.std.proofs.Common.{◌≡◌, ℕ, ◌≤◌, List, [], ◌∷◌, ◌++◌, length, map, Some, slice_get, not, true, is_some, refl, ap, sym, subst, ◌∙◌, arith}
use Rattle.std.specs.Prelude.{nat_lt, slice_index_or, ◌≢◌, AllPairs}
use Rattle.std.proofs.lemmas.List.{length-map, map-append}
use Rattle.std.proofs.lemmas.Option.{slice_get-get_or}
use Rattle.bc_data.specs.SourceTree.{Sequence, Member, FlagMember, FieldMember, MethodMember, MakerMember, MethodOf, Item, TagTypeItem, ClassItem, TaskItem}
use Rattle.bc_data.specs.declared.program.Field.{Field}
use Rattle.bc_data.specs.declared.tree.Named.{Named}
use Rattle.bc_data.specs.Startup.{startup_class}
use Rattle.bc_data.specs.Typed.{TypedClass, TypedMethod, TypedProgram, TypedTask}
use Rattle.bc_types_rules.specs.Got.{Gives, Twice, TooMany, ask}
use Rattle.bc_types_rules.specs.Numbering.{Members, Space, Spaces, declare, declare_item, declare_member, no_members, number_of, numbering, startup_members, startup_spaces, try_fold}
use Rattle.bc_types_rules.specs.NumberingLaws.{AreMembers, AreSpaces, IsSpace}
use Rattle.bc_types_rules.specs.Context.{Names}
use Rattle.bc_types_rules.specs.ProgramRules.{TakesItem, TakesMember}
use Rattle.bc_types_rules.specs.ExpressionRules.{Each}
use Rattle.bc_types_rules.specs.Walk.{empty_class, startup_program}
use Rattle.bc_types_rules.proofs.Steps.{step_back, gives_eq, fold_back}
use Rattle.bc_law_accepted.proofs.Paired.{Paired, paired_more, paired_one, partner_back, both_walks, moved, holds_at}
use Rattle.bc_law_accepted.proofs.ScopeLemmas.{each_keeps}

abbrev pub field_name : Field → List ℕ
field_name x = x.name

abbrev pub method_name : TypedMethod → List ℕ
method_name m = m.name

abbrev pub class_name : TypedClass → List ℕ
class_name k = k.name

abbrev pub task_name : TypedTask → List ℕ
task_name t = t.name

-- the names of the members of each kind
pub record SameMembers (m : Members) (k : TypedClass) : Type 0 where
  pub flags : m.flags ≡ k.flags
  pub fields : m.fields ≡ map field_name k.fields
  pub methods : m.methods ≡ map method_name k.methods

pub record SameNames (S : Spaces) (P : TypedProgram) : Type 0 where
  pub classes : S.classes ≡ map class_name P.classes
  pub members : Paired SameMembers S.members P.classes
  pub tag_types : S.tag_types ≡ P.tag_types
  pub tasks : S.tasks ≡ map task_name P.tasks

declared : (most : ℕ) (s : Space) (x : Named) (t : Space) → declare most s x ≡ Gives t → t ≡ s ++ x.name ∷ []
declared most s x t e =
    let a = step_back (ask (not (is_some (number_of s x.name))) Twice x.at) _ _ e in
    let b = step_back (ask (nat_lt (length s) most) TooMany x.at) _ _ a.2 in
    sym (gives_eq _ _ b.2)

-- a space with a name more, and the elements with one of this name more
one_more :
    {A : Type 0} (name_of : A → List ℕ) (ss us : Space) (xs : List A) (x : A) (name : List ℕ)
    → ss ≡ map name_of xs → us ≡ ss ++ name ∷ [] → name_of x ≡ name → us ≡ map name_of (xs ++ x ∷ [])
one_more name_of ss us xs x name same e named =
    e ∙ ap (λ ss. ss ++ name ∷ []) same ∙ ap (λ n. map name_of xs ++ n ∷ []) (sym named) ∙ sym (map-append name_of xs (x ∷ []))

module _ (N : Names) where
  member_step : (me : ℕ) (m : Members) (k : TypedClass) (x : Member) (n : Members) (l : TypedClass) → SameMembers m k → declare_member m x ≡ Gives n → TakesMember N me k x l → SameMembers n l
  member_step me m k (FlagMember x) n l w e t =
      let a = step_back (declare 32 m.flags x) _ _ e in
      moved SameMembers (record m { flags = a.0 }) n (record k { flags = k.flags ++ x.name ∷ [] }) l (sym (gives_eq _ _ a.2)) t
      (record { flags = declared 32 m.flags x a.0 a.1 ∙ ap (λ s. s ++ x.name ∷ []) w.flags; fields = w.fields; methods = w.methods })
  member_step me m k (FieldMember x) n l w e t =
      let a = step_back (declare 256 m.fields x.name) _ _ e in
      let field : Field = record { name = x.name.name; shape = t.0 } in
      moved SameMembers (record m { fields = a.0 }) n (record k { fields = k.fields ++ field ∷ [] }) l (sym (gives_eq _ _ a.2)) t.2
      (record { flags = w.flags; fields = one_more field_name m.fields a.0 k.fields field x.name.name w.fields (declared 256 m.fields x.name a.0 a.1) refl; methods = w.methods })
  member_step me m k (MethodMember (MethodOf result x formals body)) n l w e t =
      let a = step_back (declare 256 m.methods x) _ _ e in
      let named : t.0.name ≡ x.name = ap method_name t.1.8 in
      moved SameMembers (record m { methods = a.0 }) n (record k { methods = k.methods ++ t.0 ∷ [] }) l (sym (gives_eq _ _ a.2)) t.2
      (record { flags = w.flags; fields = w.fields; methods = one_more method_name m.methods a.0 k.methods t.0 x.name w.methods (declared 256 m.methods x a.0 a.1) named })
  member_step me m k (MakerMember (MethodOf result x formals body)) n l w e t =
      let a = step_back (ask (not m.has_maker) Twice x.at) _ _ e in
      moved SameMembers (record m { has_maker = true }) n (record k { maker = Some t.0 }) l (sym (gives_eq _ _ a.2)) t.2
      (record { flags = w.flags; fields = w.fields; methods = w.methods })

  -- members leave the class its name
  keeps_name : (me : ℕ) (name : List ℕ) (k : TypedClass) (x : Member) (l : TypedClass) → k.name ≡ name → TakesMember N me k x l → l.name ≡ name
  keeps_name me name k (FlagMember x) l e t = ap class_name t ∙ e
  keeps_name me name k (FieldMember x) l e t = ap class_name t.2 ∙ e
  keeps_name me name k (MethodMember m) l e t = ap class_name t.2 ∙ e
  keeps_name me name k (MakerMember m) l e t = ap class_name t.2 ∙ e

  pub class_named : (me : ℕ) (name : List ℕ) (members : Sequence Member) (k : TypedClass) → Each (TakesMember N me) (empty_class name) members k → k.name ≡ name
  class_named me name members k t = each_keeps (λ (k : TypedClass). k.name ≡ name) (TakesMember N me) (keeps_name me name) (empty_class name) members k refl t

  item_step : (s : Spaces) (p : TypedProgram) (i : Item) (u : Spaces) (q : TypedProgram) → SameNames s p → declare_item s i ≡ Gives u → TakesItem N p i q → SameNames u q
  item_step s p (TagTypeItem x) u q w e t =
      let a = step_back (declare 64 s.tag_types x) _ _ e in
      moved SameNames (record s { tag_types = a.0 }) u (record p { tag_types = p.tag_types ++ x.name ∷ [] }) q (sym (gives_eq _ _ a.2)) t
      (record { classes = w.classes; members = w.members; tag_types = declared 64 s.tag_types x a.0 a.1 ∙ ap (λ s. s ++ x.name ∷ []) w.tag_types; tasks = w.tasks })
  item_step s p (ClassItem x members) u q w e t =
      let a = step_back (declare 256 s.classes x) _ _ e in
      let b = step_back (try_fold declare_member no_members members) _ _ a.2 in
      let many : SameMembers b.0 t.0 =
      both_walks SameMembers (λ m x n. declare_member m x ≡ Gives n) (TakesMember N (length p.classes)) (member_step (length p.classes))
      no_members (empty_class x.name) (record { flags = refl; fields = refl; methods = refl }) members b.0 t.0 (fold_back declare_member _ (λ m x n e. e) no_members members b.0 b.1) t.1 in
      let named : t.0.name ≡ x.name = class_named (length p.classes) x.name members t.0 t.1 in
      moved SameNames (record s { classes = a.0; members = s.members ++ b.0 ∷ [] }) u (record p { classes = p.classes ++ t.0 ∷ [] }) q (sym (gives_eq _ _ b.2)) t.2
      (record {
        classes = one_more class_name s.classes a.0 p.classes t.0 x.name w.classes (declared 256 s.classes x a.0 a.1) named;
        members = paired_more SameMembers s.members p.classes b.0 t.0 w.members many;
        tag_types = w.tag_types;
        tasks = w.tasks;
      })
  item_step s p (TaskItem at x params body) u q w e t =
      let a = step_back (declare 256 s.tasks x) _ _ e in
      let named : t.0.name ≡ x.name = ap task_name t.1.5 in
      moved SameNames (record s { tasks = a.0 }) u (record p { tasks = p.tasks ++ t.0 ∷ [] }) q (sym (gives_eq _ _ a.2)) t.2
      (record {
        classes = w.classes;
        members = w.members;
        tag_types = w.tag_types;
        tasks = one_more task_name s.tasks a.0 p.tasks t.0 x.name w.tasks (declared 256 s.tasks x a.0 a.1) named;
      })

  startup_named : SameNames startup_spaces startup_program
  startup_named =
      let same : SameMembers startup_members startup_class = record { flags = refl; fields = refl; methods = refl } in
      record { classes = refl; members = paired_one SameMembers startup_members startup_class same; tag_types = refl; tasks = refl }

  pub same_names : (items : Sequence Item) (S : Spaces) (P : TypedProgram) → numbering items ≡ Gives S → Each (TakesItem N) startup_program items P → SameNames S P
  same_names items S P e t =
      both_walks SameNames (λ s i u. declare_item s i ≡ Gives u) (TakesItem N) item_step startup_spaces startup_program startup_named items S P (fold_back declare_item _ (λ s i u e. e) startup_spaces items S e) t

-- A space has each name once.
once : (most : ℕ) (s : Space) → IsSpace most s → AllPairs (λ x y. x ≢ y) s
once most s is i j d before within same =
    let a = is.places i (slice_index_or s i d) (slice_get-get_or s i d (omega arith)) in
    let b = is.places j (slice_index_or s j d) (slice_get-get_or s j d within) in
    let places : Some i ≡ Some j = sym a ∙ ap (number_of s) same ∙ b in
    let equal : i ≡ j = cc in
    omega arith

-- so many different names
pub record Few (most : ℕ) (names : List (List ℕ)) : Type 0 where
  pub few : length names ≤ most
  pub once : AllPairs (λ x y. x ≢ y) names

few_names : (most : ℕ) (s : Space) (names : List (List ℕ)) → s ≡ names → IsSpace most s → Few most names
few_names most s names same is = subst (Few most) same (record { few = is.few; once = once most s is })

-- the elements of a list are as many as their names
pub few_named : {A : Type 0} (most : ℕ) (name_of : A → List ℕ) (xs : List A) → Few most (map name_of xs) → length xs ≤ most
few_named most name_of xs f =
    let most_names = f.few in
    let size = length-map xs name_of in
    omega arith

-- how much a program may have
pub record AreFew (P : TypedProgram) : Type 0 where
  pub classes : Few 256 (map class_name P.classes)
  pub tag_types : Few 64 P.tag_types
  pub tasks : Few 256 (map task_name P.tasks)
  pub members :
      (i : ℕ) (k : TypedClass) → slice_get P.classes i ≡ Some k
      → Few 32 k.flags × Few 256 (map field_name k.fields) × Few 256 (map method_name k.methods)

pub are_few : (S : Spaces) (P : TypedProgram) → SameNames S P → AreSpaces S → AreFew P
are_few S P w a = record {
  classes = few_names 256 S.classes _ w.classes a.classes;
  tag_types = few_names 64 S.tag_types _ w.tag_types a.tag_types;
  tasks = few_names 256 S.tasks _ w.tasks a.tasks;
  members = λ i k at.
      let m = partner_back SameMembers S.members P.classes i k w.members at in
      let are = holds_at AreMembers S.members i m.0 a.each_class m.1 in
      (few_names 32 m.0.flags _ m.2.flags are.flags, few_names 256 m.0.fields _ m.2.fields are.fields, few_names 256 m.0.methods _ m.2.methods are.methods);
}
