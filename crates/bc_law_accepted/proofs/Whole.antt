-- Accepted programs are well typed, given that their methods, constructors and tasks are.
use Rattle.std.proofs.Common.{◌≡◌, inl, inr, Bool, true, false, codes, ℕ, ◌+◌, ◌<◌, List, [], length, map, Option, Some, None, All, slice_get, refl, ap, sym, subst, ◌∙◌, arith, length-append}
use Rattle.std.proofs.lemmas.List.Elements.{All-map, All-nil, All-push, All-weaker}
use Rattle.std.proofs.lemmas.Option.{slice_get-get_or}
use Rattle.std.specs.Prelude.{◌≢◌, AllPairs, slice_index_or}
use Rattle.bc_data.specs.SourceTree.{Sequence, Empty, More, Statements, Method, MethodOf, Param, ParamOf, Member, FlagMember, FieldMember, MethodMember, MakerMember, Item, TagTypeItem, ClassItem, TaskItem}
use Rattle.bc_data.specs.declared.tree.Base.{Base}
use Rattle.bc_data.specs.declared.tree.Base.TheVariants as base
use Rattle.bc_data.specs.declared.tree.Named.{Named}
use Rattle.bc_data.specs.declared.run.Place.{Place}
use Rattle.bc_data.specs.declared.program.Field.{Field}
use Rattle.bc_data.specs.declared.program.Shape.{Shape}
use Rattle.bc_data.specs.declared.program.Shape.TheVariants as shape
use Rattle.bc_data.specs.Names.{AreNames, IsIdentifier}
use Rattle.bc_data.specs.Shapes.{IsDeclared}
use Rattle.bc_data.specs.Startup.{startup_class}
use Rattle.bc_data.specs.Typed.{TypedMethod, TypedClass, TypedTask, TypedProgram}
use Rattle.bc_data.specs.WellTyped as facts
use Rattle.bc_types_rules.specs.Context.{Known, Names, base_type, class_type}
use Rattle.bc_types_rules.specs.Declared.{names_of}
use Rattle.bc_types_rules.specs.ExpressionRules.{Each}
use Rattle.bc_types_rules.specs.ProgramRules as rules
use Rattle.bc_types_rules.specs.ProgramRules.{TakesItem, TakesMember, TakesParam}
use Rattle.bc_types_rules.specs.Bodies.{Params, name_of, no_params}
use Rattle.bc_types_rules.specs.Walk.{empty_class, startup_program}
use Rattle.bc_types_rules.proofs.Numbered.{numbering_gives}
use Rattle.bc_types_rules.proofs.Programs.{program_back}
use Rattle.bc_law_accepted.specs.Laws.{AcceptedIsWellTyped}
use Rattle.bc_law_accepted.proofs.Agreement.{Agrees}
use Rattle.bc_law_accepted.proofs.Agreeing.{names_agree}
use Rattle.bc_law_accepted.proofs.SameNames.{are_few, class_name, few_named, field_name, method_name, same_names, task_name}
use Rattle.bc_law_accepted.proofs.Paired.{IsEvery, old_or_last, stays, walk_keeps}
use Rattle.bc_law_accepted.proofs.StartupNames.{initialstate, input, startup_object}
use Rattle.bc_law_accepted.proofs.Spelled.{HasNoResult, HasSome, IsWrittenBody, IsWrittenItem, IsWrittenMember, every_item_is_written}

-- what is shown of methods, constructors and tasks on their own
pub record Parts : Type 0 where
  pub method : (P : TypedProgram) (N : Names) (me : ℕ) (m : Method) (y : TypedMethod) → Agrees N P.classes (length P.tag_types) → rules.IsMethod N me m y → facts.IsMethod P me y
  pub maker :
      (P : TypedProgram) (N : Names) (me : ℕ) (name : List ℕ) (m : Method) (y : TypedMethod) → Agrees N P.classes (length P.tag_types)
      → rules.IsMaker N me name m y → HasNoResult m → facts.IsMaker P me y
  pub task :
      (P : TypedProgram) (N : Names) (at : Place) (x : Named) (params : Sequence Param) (body : Statements) (y : TypedTask) → Agrees N P.classes (length P.tag_types)
      → rules.IsTask N at x params body y → 0 < length y.params → IsWrittenBody body → facts.IsTask P y

method_named : (N : Names) (me : ℕ) (m : Method) (y : TypedMethod) → rules.IsMethod N me m y → y.name ≡ (name_of m).name
method_named N me (MethodOf result x formals body) y h = ap method_name h.8

-- a shape that is declared among any classes whose numbers the names stay below
abbrev IsNamed : Names → Shape → Type 0
IsNamed N sh = (classes : ℕ) → ((name : List ℕ) (c : ℕ) → N.class_of name ≡ Some c → c < classes) → IsDeclared classes sh

module _ (N : Names) where
  class_is_named : (many : Bool) (name : List ℕ) (o : Option ℕ) (sh : Shape) → N.class_of name ≡ o → class_type many name o ≡ Known sh → IsNamed N sh
  class_is_named true name (Some c) sh e h classes below = subst (IsDeclared classes) (let same : shape.Objects c ≡ sh = cc in same) (below name c e)
  class_is_named false name (Some c) sh e h classes below = subst (IsDeclared classes) (let same : shape.Class c ≡ sh = cc in same) (below name c e)
  class_is_named many name None sh e h classes below = cc

  base_is_named : (b : Base) (many : Bool) (sh : Shape) → base_type N.class_of b many ≡ Known sh → IsNamed N sh
  base_is_named base.Int true sh h classes below = subst (IsDeclared classes) (let same : shape.Ints ≡ sh = cc in same) tt
  base_is_named base.Int false sh h classes below = subst (IsDeclared classes) (let same : shape.Int ≡ sh = cc in same) tt
  base_is_named base.Bool true sh h classes below = subst (IsDeclared classes) (let same : shape.Bools ≡ sh = cc in same) tt
  base_is_named base.Bool false sh h classes below = subst (IsDeclared classes) (let same : shape.Bool ≡ sh = cc in same) tt
  base_is_named (base.Class name) many sh h classes below = class_is_named many name (N.class_of name) sh refl h classes below

  -- what a class is made of, whatever the program around it
  pub record ClassFrom (me : ℕ) (k : TypedClass) : Type 0 where
    pub name : IsIdentifier k.name
    pub flag_names : All IsIdentifier k.flags
    pub field_names : All (λ (x : Field). IsIdentifier x.name) k.fields
    pub method_names : All (λ (y : TypedMethod). IsIdentifier y.name) k.methods
    pub fields : All (λ (x : Field). IsNamed N x.shape) k.fields
    pub maker : (y : TypedMethod) → k.maker ≡ Some y → (m : Method) × rules.IsMaker N me k.name m y × HasNoResult m
    pub methods : All (λ (y : TypedMethod). (m : Method) × rules.IsMethod N me m y) k.methods

  member_step : (me : ℕ) (k : TypedClass) (x : Member) (l : TypedClass) → ClassFrom me k → IsWrittenMember x → TakesMember N me k x l → ClassFrom me l
  member_step me k (FlagMember x) l w q h = subst (ClassFrom me) (sym h)
      (record {
        name = w.name;
        flag_names = All-push IsIdentifier k.flags x.name w.flag_names q;
        field_names = w.field_names;
        method_names = w.method_names;
        fields = w.fields;
        maker = w.maker;
        methods = w.methods;
      })
  member_step me k (FieldMember x) l w q h =
      let field : Field = record { name = x.name.name; shape = h.0 } in
      subst (ClassFrom me) (sym h.2)
      (record {
        name = w.name;
        flag_names = w.flag_names;
        field_names = All-push (λ (x : Field). IsIdentifier x.name) k.fields field w.field_names q;
        method_names = w.method_names;
        fields = All-push (λ (x : Field). IsNamed N x.shape) k.fields field w.fields (base_is_named x.kind.base x.kind.many h.0 h.1);
        maker = w.maker;
        methods = w.methods;
      })
  member_step me k (MethodMember m) l w q h =
      subst (ClassFrom me) (sym h.2)
      (record {
        name = w.name;
        flag_names = w.flag_names;
        field_names = w.field_names;
        method_names = All-push (λ (y : TypedMethod). IsIdentifier y.name) k.methods h.0 w.method_names (subst IsIdentifier (sym (method_named N me m h.0 h.1)) q);
        fields = w.fields;
        maker = w.maker;
        methods = All-push (λ (y : TypedMethod). (m : Method) × rules.IsMethod N me m y) k.methods h.0 w.methods (m, h.1);
      })
  member_step me k (MakerMember m) l w q h =
      subst (ClassFrom me) (sym h.2)
      (record {
        name = w.name;
        flag_names = w.flag_names;
        field_names = w.field_names;
        method_names = w.method_names;
        fields = w.fields;
        maker = λ y e.
            let same : h.0 ≡ y = cc in
            (m, subst (rules.IsMaker N me k.name m) same h.1, q);
        methods = w.methods;
      })

  startup_from : ClassFrom 0 startup_class
  startup_from = record {
    name = startup_object;
    flag_names = All-push IsIdentifier [] (codes "initialstate") (All-nil IsIdentifier) initialstate;
    field_names = All-push (λ (x : Field). IsIdentifier x.name) [] (record { name = codes "input"; shape = shape.Ints }) (All-nil (λ (x : Field). IsIdentifier x.name)) input;
    method_names = All-nil (λ (y : TypedMethod). IsIdentifier y.name);
    fields = All-push (λ (x : Field). IsNamed N x.shape) [] (record { name = codes "input"; shape = shape.Ints }) (All-nil (λ (x : Field). IsNamed N x.shape)) (λ classes below. tt);
    maker = λ y e. cc;
    methods = All-nil (λ (y : TypedMethod). (m : Method) × rules.IsMethod N 0 m y);
  }

  -- a task that comes from a text, with a parameter at least
  abbrev TaskFrom : TypedTask → Type 0
  TaskFrom y =
      (at : Place) × (x : Named) × (params : Sequence Param) × (body : Statements) × rules.IsTask N at x params body y × (0 < length y.params)
      × IsWrittenBody body × IsIdentifier x.name

  pub record ProgramFrom (P : TypedProgram) : Type 0 where
    pub startup : slice_get P.classes 0 ≡ Some startup_class
    pub classes : (me : ℕ) (k : TypedClass) → slice_get P.classes me ≡ Some k → ClassFrom me k
    pub tasks : All TaskFrom P.tasks
    pub tag_types : All IsIdentifier P.tag_types

  param_counts : (ps : Params) (p : Param) (qs : Params) → TakesParam N ps p qs → 0 < length qs.each
  param_counts ps (ParamOf kind x guard binds) qs h =
      let more : length qs.each ≡ length ps.each + 1 = ap (λ (qs : Params). length qs.each) h.8 ∙ length-append ps.each _ in
      omega arith

  some_params : (params : Sequence Param) (ps : Params) → HasSome params → Each (TakesParam N) no_params params ps → 0 < length ps.each
  some_params Empty ps h e = absurd h
  some_params (More front last) ps h e = param_counts e.0 last ps e.2

  task_from : (at : Place) (x : Named) (params : Sequence Param) (body : Statements) (y : TypedTask) → IsIdentifier x.name × HasSome params × IsWrittenBody body → rules.IsTask N at x params body y → TaskFrom y
  task_from at x params body y h t = (at, x, params, body, t, subst (λ (y : TypedTask). 0 < length y.params) (sym t.5) (some_params params t.0 h.1 t.3), h.2, h.0)

  item_step : (p : TypedProgram) (i : Item) (q : TypedProgram) → ProgramFrom p → IsWrittenItem i → TakesItem N p i q → ProgramFrom q
  item_step p (TagTypeItem x) q w written h = subst ProgramFrom (sym h) (record { startup = w.startup; classes = w.classes; tasks = w.tasks; tag_types = All-push IsIdentifier p.tag_types x.name w.tag_types written })
  item_step p (ClassItem x members) q w written h =
      let me = length p.classes in
      let class : ClassFrom me h.0 =
      walk_keeps (ClassFrom me) IsWrittenMember (TakesMember N me) (member_step me) (empty_class x.name)
      (record {
        name = written.0;
        flag_names = All-nil IsIdentifier;
        field_names = All-nil (λ (x : Field). IsIdentifier x.name);
        method_names = All-nil (λ (y : TypedMethod). IsIdentifier y.name);
        fields = All-nil (λ (x : Field). IsNamed N x.shape);
        maker = λ y e. cc;
        methods = All-nil (λ (y : TypedMethod). (m : Method) × rules.IsMethod N me m y);
      })
      members h.0 written.1 h.1 in
      subst ProgramFrom (sym h.2)
      (record {
        startup = stays p.classes h.0 0 startup_class w.startup;
        classes = λ i k at. elim (old_or_last p.classes h.0 i k at) [
          | inl before ↦ w.classes i k before
          | inr last ↦ subst (λ i. ClassFrom i k) (sym last.0) (subst (ClassFrom me) (sym last.1) class)
        ];
        tasks = w.tasks;
        tag_types = w.tag_types;
      })
  item_step p (TaskItem at x params body) q w written h =
      subst ProgramFrom (sym h.2)
      (record { startup = w.startup; classes = w.classes; tasks = All-push TaskFrom p.tasks h.0 w.tasks (task_from at x params body h.0 written h.1); tag_types = w.tag_types })

  startup_program_from : ProgramFrom startup_program
  startup_program_from = record {
    startup = refl;
    classes = λ i k at. elim (old_or_last [] startup_class i k at) [
      | inl before ↦ absurd (none i k before)
      | inr last ↦ subst (λ i. ClassFrom i k) (sym last.0) (subst (ClassFrom 0) (sym last.1) startup_from)
    ];
    tasks = All-nil TaskFrom;
    tag_types = All-nil IsIdentifier;
  }
    where
      none : (i : ℕ) (k : TypedClass) → slice_get [] i ≡ Some k → ⊥
      none i k at = cc

  pub program_from : (items : Sequence Item) (P : TypedProgram) → IsEvery IsWrittenItem items → Each (TakesItem N) startup_program items P → ProgramFrom P
  program_from items P written h = walk_keeps ProgramFrom IsWrittenItem (TakesItem N) item_step startup_program startup_program_from items P written h

-- the names of elements
named_each : {A : Type 0} (name_of_ : A → List ℕ) (xs : List A) → All (λ x. IsIdentifier (name_of_ x)) xs → AllPairs (λ x y. x ≢ y) (map name_of_ xs) → AreNames (map name_of_ xs)
named_each name_of_ xs each once = record { each = All-map IsIdentifier name_of_ xs each; once = once }

maker_named : (N : Names) (me : ℕ) (name : List ℕ) (m : Method) (y : TypedMethod) → rules.IsMaker N me name m y → y.name ≡ name
maker_named N me name m y h = method_named N me m y h.1 ∙ h.0

pub accepted_with : Parts → AcceptedIsWellTyped
accepted_with parts items P text accepts =
    let p = program_back items P accepts in
    let N = names_of p.0 items in
    let A = names_agree items p.0 P p.1 p.2 in
    let F = are_few p.0 P (same_names N items p.0 P p.1 p.2) (numbering_gives items p.0 p.1) in
    let from = program_from N items P (every_item_is_written text.levels items text.tokens text.named text.tree) p.2 in
    record {
      startup = from.startup;
      few_classes = few_named 256 class_name P.classes F.classes;
      few_tag_types = F.tag_types.few;
      few_tasks = few_named 256 task_name P.tasks F.tasks;
      class_names =
          named_each class_name P.classes (λ i d within.
          let at = slice_get-get_or P.classes i d within in
          (from.classes i (slice_index_or P.classes i d) at).name) F.classes.once;
      tag_type_names = record { each = from.tag_types; once = F.tag_types.once };
      task_names =
          named_each task_name P.tasks
          (All-weaker (TaskFrom N) (λ (y : TypedTask). IsIdentifier y.name) (λ y t. subst IsIdentifier (sym (ap task_name t.4.5)) t.7) P.tasks from.tasks) F.tasks.once;
      classes = λ me k at.
          let class = from.classes me k at in
          let most = F.members me k at in
          record {
            few_flags = most.0.few;
            few_fields = few_named 256 field_name k.fields most.1;
            few_methods = few_named 256 method_name k.methods most.2;
            flag_names = record { each = class.flag_names; once = most.0.once };
            field_names = named_each field_name k.fields class.field_names most.1.once;
            method_names = named_each method_name k.methods class.method_names most.2.once;
            maker_name = λ y e.
                let m = class.maker y e in
                maker_named N me k.name m.0 y m.1;
            fields = All-weaker (λ (x : Field). IsNamed N x.shape) (λ (x : Field). IsDeclared (length P.classes) x.shape) (λ x named. named (length P.classes) A.class) k.fields class.fields;
            maker = λ y e.
                let m = class.maker y e in
                parts.maker P N me k.name m.0 y A m.1 m.2;
            methods = All-weaker (λ (y : TypedMethod). (m : Method) × rules.IsMethod N me m y) (facts.IsMethod P me) (λ y m. parts.method P N me m.0 y A m.1) k.methods class.methods;
          };
      tasks = All-weaker (TaskFrom N) (facts.IsTask P) (λ y t. parts.task P N t.0 t.1 t.2 t.3 y A t.4 t.5 t.6) P.tasks from.tasks;
    }
