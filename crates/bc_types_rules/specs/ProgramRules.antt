-- The rules of methods, constructors, tasks, classes and programs alone, as judgements. Faults and their order don't occur here.
use Rattle.std.specs.Prelude.{◌≡◌, ◌⊎◌, ◌<◌, ℕ, true, false, ◌==◌, length, List, [], ◌∷◌, ◌++◌, Option, Some, None}
use Rattle.std.specs.List.{list_any}
use Rattle.bc_data.specs.SourceTree.{Sequence, AndOp, OrOp, Guard, FlagIs, FlagTruth, FlagNot, FlagTwo, FlagGroup, Statements, Method, MethodOf, Param, ParamOf, Member, FlagMember, FieldMember, MethodMember, MakerMember, Item, TagTypeItem, ClassItem, TaskItem}
use Rattle.bc_data.specs.declared.tree.Named.{Named}
use Rattle.bc_data.specs.declared.tree.TypeText.{TypeText}
use Rattle.bc_data.specs.declared.tree.Formal.{Formal}
use Rattle.bc_data.specs.declared.tree.Bind.{Bind}
use Rattle.bc_data.specs.declared.run.Place.{Place}
use Rattle.bc_data.specs.declared.program.Shape.{Shape}
use Rattle.bc_types_rules.specs.Got.{Gives}
use Rattle.bc_types_rules.specs.Numbering.{Spaces, numbering}
use Rattle.bc_data.specs.Typed as typed
use Rattle.bc_data.specs.Typed.{TypedStatements, TypedGuard, TypedMethod, TypedClass, TypedTask, TypedProgram}
use Rattle.bc_types_rules.specs.Context.{Known, Names, TagIs, Scope, meaning_of, type_of}
use Rattle.bc_types_rules.specs.Declared.{names_of}
use Rattle.bc_types_rules.specs.Statements.{all_leave}
use Rattle.bc_types_rules.specs.Bodies.{Formals, no_formals, with_formal, in_class, in_task, method_of, name_of, Binds, with_new, with_old, Params, no_params, no_binds, with_param, task_of}
use Rattle.bc_types_rules.specs.Walk.{empty_class, startup_program}
use Rattle.bc_types_rules.specs.ExpressionRules.{Each}
use Rattle.bc_types_rules.specs.StatementRules.{DoAll}

abbrev pub IsShape : Names → TypeText → Shape → Type 0
IsShape N t sh = type_of N.class_of t ≡ Known sh

abbrev pub IsResult : Names → Option TypeText → Option Shape → Type 0
IsResult N None r = r ≡ None
IsResult N (Some t) r = (sh : Shape) × IsShape N t sh × (r ≡ Some sh)

-- A formal behind those before it, at most sixteen.
abbrev pub TakesFormal : Names → Formals → Formal → Formals → Type 0
TakesFormal N fs x gs =
    (sh : Shape) × IsShape N x.kind sh × (meaning_of fs.scope x.name ≡ None) × (fs.scope.count < 16) × (gs ≡ with_formal fs x.name sh)

-- A body surely leaves where a result is asked for.
abbrev pub Returns : Option Shape → Statements → Type 0
Returns None body = Unit {0}
Returns (Some sh) body = all_leave body ≡ true

abbrev pub IsMethod : Names → ℕ → Method → TypedMethod → Type 0
IsMethod N me (MethodOf result x formals body) y =
    (r : Option Shape) × (fs : Formals) × (ds : TypedStatements) × (t : Scope) × IsResult N result r × Each (TakesFormal N) no_formals formals fs
    × DoAll (in_class N me r) fs.scope body ds t × Returns r body × (y ≡ method_of x fs r (record { codes = ds; scope = t }))

abbrev pub IsMaker : Names → ℕ → List ℕ → Method → TypedMethod → Type 0
IsMaker N me class_name m y = ((name_of m).name ≡ class_name) × IsMethod N me m y

abbrev pub IsGuard : Names → ℕ → Guard → TypedGuard → Type 0
IsGuard N class (FlagIs x) y = (f : ℕ) × (N.flag_of class x.name ≡ Some f) × (y ≡ typed.FlagIs f)
IsGuard N class (FlagTruth b) y = y ≡ typed.FlagTruth b
IsGuard N class (FlagNot g) y = (h : TypedGuard) × IsGuard N class g h × (y ≡ typed.FlagNot h)
IsGuard N class (FlagTwo AndOp g h) y = (i j : TypedGuard) × IsGuard N class g i × IsGuard N class h j × (y ≡ typed.FlagAnd i j)
IsGuard N class (FlagTwo OrOp g h) y = (i j : TypedGuard) × IsGuard N class g i × IsGuard N class h j × (y ≡ typed.FlagOr i j)
IsGuard N class (FlagGroup g) y = IsGuard N class g y

-- A variable that is new, of at most four, or one of the same type that this parameter doesn't bind yet.
abbrev pub TakesVariable : Binds → Named → ℕ → Binds → Type 0
TakesVariable bs x k cs =
    ((meaning_of bs.scope x ≡ None) × (bs.scope.tags < 4) × (cs ≡ with_new bs x k))
    ⊎ ((v : ℕ) × (meaning_of bs.scope x ≡ Some (TagIs v k)) × (list_any (λ w. w == v) bs.variables ≡ false) × (cs ≡ with_old bs v))

abbrev pub TakesBind : Names → Binds → Bind → Binds → Type 0
TakesBind N bs b cs = (k : ℕ) × (N.tag_type_of b.tag_type.name ≡ Some k) × TakesVariable bs b.variable k cs

-- A parameter of a task behind those before it, at most four.
abbrev pub TakesParam : Names → Params → Param → Params → Type 0
TakesParam N ps (ParamOf kind x guard binds) qs =
    (c : ℕ) × (g : TypedGuard) × (bs : Binds) × (N.class_of kind.name ≡ Some c) × (meaning_of ps.scope x ≡ None) × (ps.scope.slots < 4)
    × IsGuard N c guard g × Each (TakesBind N) (no_binds ps x c) binds bs × (qs ≡ with_param ps c g bs)

abbrev pub IsTask : Names → Place → Named → Sequence Param → Statements → TypedTask → Type 0
IsTask N at x params body y =
    (ps : Params) × (ds : TypedStatements) × (t : Scope) × Each (TakesParam N) no_params params ps × DoAll (in_task N) ps.scope body ds t
    × (y ≡ task_of at x ps (record { codes = ds; scope = t }))

-- A member of the class with this number, behind those before it.
abbrev pub TakesMember : Names → ℕ → TypedClass → Member → TypedClass → Type 0
TakesMember N me c (FlagMember x) d = d ≡ record c { flags = c.flags ++ x.name ∷ [] }
TakesMember N me c (FieldMember x) d =
    (sh : Shape) × IsShape N x.kind sh × (d ≡ record c { fields = c.fields ++ record { name = x.name.name; shape = sh } ∷ [] })
TakesMember N me c (MethodMember m) d = (y : TypedMethod) × IsMethod N me m y × (d ≡ record c { methods = c.methods ++ y ∷ [] })
TakesMember N me c (MakerMember m) d = (y : TypedMethod) × IsMaker N me c.name m y × (d ≡ record c { maker = Some y })

abbrev pub TakesItem : Names → TypedProgram → Item → TypedProgram → Type 0
TakesItem N p (TagTypeItem x) q = q ≡ record p { tag_types = p.tag_types ++ x.name ∷ [] }
TakesItem N p (ClassItem x members) q =
    (c : TypedClass) × Each (TakesMember N (length p.classes)) (empty_class x.name) members c × (q ≡ record p { classes = p.classes ++ c ∷ [] })
TakesItem N p (TaskItem at x params body) q =
    (t : TypedTask) × IsTask N at x params body t × (q ≡ record p { tasks = p.tasks ++ t ∷ [] })

-- The items are this program: their names have a numbering, and each item is typed under it.
abbrev pub IsProgramOf : Sequence Item → TypedProgram → Type 0
IsProgramOf items p = (S : Spaces) × (numbering items ≡ Gives S) × Each (TakesItem (names_of S items)) startup_program items p
