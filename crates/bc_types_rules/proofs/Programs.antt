-- Methods, tasks and programs: the definition gives exactly what the rules allow.
use Rattle.std.proofs.Common.{◌≡◌, ◌⊎◌, ℕ, List, ◌==◌, ◌||◌, length, Option, Some, None, true, nat_eq, nat_lt, is_some, not, refl, ap, sym, ◌∙◌, inl, inr, Decides}
use Rattle.std.specs.List.{list_any}
use Rattle.std.specs.Cmp.Lexicographic.{pointwise}
use Rattle.std.proofs.lemmas.Bool.{ltb-true, lt-ltb, eqb-true, eq-eqb}
use Rattle.std.proofs.lemmas.Bool.Decides.{Decides-eqb}
use Rattle.std.proofs.lemmas.Slice.Eq.{slice_eq-Decides}
use Rattle.bc_data.specs.SourceTree.{Sequence, AndOp, OrOp, Guard, FlagIs, FlagTruth, FlagNot, FlagTwo, FlagGroup, Statements, Method, MethodOf, Param, ParamOf, Member, FlagMember, FieldMember, MethodMember, MakerMember, Item, TagTypeItem, ClassItem, TaskItem}
use Rattle.bc_data.specs.declared.tree.Named.{Named}
use Rattle.bc_data.specs.declared.tree.TypeText.{TypeText}
use Rattle.bc_data.specs.declared.tree.Formal.{Formal}
use Rattle.bc_data.specs.declared.tree.Bind.{Bind}
use Rattle.bc_data.specs.declared.run.Place.{Place}
use Rattle.bc_data.specs.declared.program.Shape.{Shape}
use Rattle.bc_types_rules.specs.Got.{Got, Gives, Fails, Kind, ◌>>=◌, ask, find, Twice, TooMany, Unknown, Mismatch, NoReturn}
use Rattle.bc_types_rules.specs.Numbering.{try_fold, numbering}
use Rattle.bc_data.specs.Typed.{TypedGuard, TypedMethod, TypedClass, TypedTask, TypedProgram}
use Rattle.bc_types_rules.specs.Context.{Names, Meaning, SlotIs, ParameterIs, TagIs, Scope, meaning_of, is_free, shape_at}
use Rattle.bc_types_rules.specs.Declared.{names_of}
use Rattle.bc_types_rules.specs.Statements.{state_all, all_leave}
use Rattle.bc_types_rules.specs.Bodies.{result_at, Formals, no_formals, check_formal, in_class, in_task, check_method, name_of, check_maker, check_guard, Binds, with_new, with_old, bind_variable, check_bind, Params, no_params, no_binds, check_param, check_task}
use Rattle.bc_types_rules.specs.Walk.{check_member, empty_class, check_item, walk, check, HasTypeFault}
use Rattle.bc_types_rules.specs.Laws.{ProgramOrFault}
use Rattle.bc_types_rules.specs.ProgramRules.{IsResult, TakesFormal, Returns, IsMethod, IsMaker, IsGuard, TakesVariable, TakesBind, TakesParam, IsTask, TakesMember, TakesItem, IsProgramOf}
use Rattle.bc_types_rules.proofs.Steps.{step_back, step_on, gives_eq, asked, ask_ok, was_found, find_ok, none_of, fold_back, fold_on}
use Rattle.bc_types_rules.proofs.Statements.{shape_back, shape_on, all_stated, do_of, all_on, false_of}

free_ok : (s : Scope) (x : Named) → meaning_of s x ≡ None → is_free s x ≡ true
free_ok s x h = ap (λ o. not (is_some o)) h

same_name : (a b : List ℕ) → Decides (pointwise nat_eq a b) (a ≡ b)
same_name a b = slice_eq-Decides Decides-eqb a b _ refl

-- methods and constructors
result_back : (N : Names) (t : Option TypeText) (r : Option Shape) → result_at N t ≡ Gives r → IsResult N t r
result_back N None r h = sym (gives_eq _ _ h)
result_back N (Some t) r h =
    let sh = step_back (shape_at N t) _ _ h in
    (sh.0, shape_back N t sh.0 sh.1, sym (gives_eq _ _ sh.2))

result_on : (N : Names) (t : Option TypeText) (r : Option Shape) → IsResult N t r → result_at N t ≡ Gives r
result_on N None r h = ap Gives (sym h)
result_on N (Some t) r h = step_on (shape_at N t) _ h.0 _ (shape_on N t h.0 h.1) (ap Gives (sym h.2))

formal_back : (N : Names) (fs : Formals) (x : Formal) (gs : Formals) → check_formal N fs x ≡ Gives gs → TakesFormal N fs x gs
formal_back N fs x gs h =
    let sh = step_back (shape_at N x.kind) _ _ h in
    let a = step_back (ask (is_free fs.scope x.name) Twice x.name.at) _ _ sh.2 in
    let b = step_back (ask (nat_lt fs.scope.count 16) TooMany x.name.at) _ _ a.2 in
    (sh.0, shape_back N x.kind sh.0 sh.1, none_of _ (asked _ _ _ _ a.1), ltb-true _ _ (asked _ _ _ _ b.1), sym (gives_eq _ _ b.2))

formal_on : (N : Names) (fs : Formals) (x : Formal) (gs : Formals) → TakesFormal N fs x gs → check_formal N fs x ≡ Gives gs
formal_on N fs x gs h =
    step_on (shape_at N x.kind) _ h.0 _ (shape_on N x.kind h.0 h.1)
    (step_on (ask (is_free fs.scope x.name) Twice x.name.at) _ tt _ (ask_ok _ _ _ (free_ok fs.scope x.name h.2))
    (step_on (ask (nat_lt fs.scope.count 16) TooMany x.name.at) _ tt _ (ask_ok _ _ _ (lt-ltb _ _ h.3)) (ap Gives (sym h.4))))

returns_back : (r : Option Shape) (body : Statements) → (not (is_some r) || all_leave body) ≡ true → Returns r body
returns_back None body h = tt
returns_back (Some sh) body h = h

returns_on : (r : Option Shape) (body : Statements) → Returns r body → (not (is_some r) || all_leave body) ≡ true
returns_on None body h = refl
returns_on (Some sh) body h = h

pub method_back : (N : Names) (me : ℕ) (m : Method) (y : TypedMethod) → check_method N me m ≡ Gives y → IsMethod N me m y
method_back N me (MethodOf result x formals body) y h =
    let r = step_back (result_at N result) _ _ h in
    let fs = step_back (try_fold (check_formal N) no_formals formals) _ _ r.2 in
    let b = step_back (state_all (in_class N me r.0) fs.0.scope body) _ _ fs.2 in
    let a = step_back (ask (not (is_some r.0) || all_leave body) NoReturn x.at) _ _ b.2 in (
      r.0,
      fs.0,
      b.0.codes,
      b.0.scope,
      result_back N result r.0 r.1,
      fold_back _ _ (formal_back N) _ formals _ fs.1,
      do_of (in_class N me r.0) fs.0.scope body b.0 b.1,
      returns_back r.0 body (asked _ _ _ _ a.1),
      sym (gives_eq _ _ a.2),
    )

pub method_on : (N : Names) (me : ℕ) (m : Method) (y : TypedMethod) → IsMethod N me m y → check_method N me m ≡ Gives y
method_on N me (MethodOf result x formals body) y h =
    step_on (result_at N result) _ h.0 _ (result_on N result h.0 h.4)
    (step_on (try_fold (check_formal N) no_formals formals) _ h.1 _ (fold_on _ _ (formal_on N) _ formals _ h.5)
    (step_on (state_all (in_class N me h.0) h.1.scope body) _ (all_stated h.2 h.3) _ (all_on (in_class N me h.0) h.1.scope body _ _ h.6)
    (step_on (ask (not (is_some h.0) || all_leave body) NoReturn x.at) _ tt _ (ask_ok _ _ _ (returns_on h.0 body h.7)) (ap Gives (sym h.8)))))

maker_back : (N : Names) (me : ℕ) (name : List ℕ) (m : Method) (y : TypedMethod) → check_maker N me name m ≡ Gives y → IsMaker N me name m y
maker_back N me name m y h =
    let a = step_back (ask (pointwise nat_eq (name_of m).name name) Unknown (name_of m).at) (λ _. check_method N me m) _ h in
    ((same_name _ _).0 (asked _ _ _ _ a.1), method_back N me m y a.2)

maker_on : (N : Names) (me : ℕ) (name : List ℕ) (m : Method) (y : TypedMethod) → IsMaker N me name m y → check_maker N me name m ≡ Gives y
maker_on N me name m y h =
    step_on (ask (pointwise nat_eq (name_of m).name name) Unknown (name_of m).at) (λ _. check_method N me m) tt _ (ask_ok _ _ _ ((same_name _ _).1 h.0)) (method_on N me m y h.1)

-- tasks
guard_back : (N : Names) (c : ℕ) (g : Guard) (y : TypedGuard) → check_guard N c g ≡ Gives y → IsGuard N c g y
guard_back N c (FlagIs x) y h =
    let f = step_back (find (N.flag_of c x.name) Unknown x.at) _ _ h in
    (f.0, was_found _ _ _ _ f.1, sym (gives_eq _ _ f.2))
guard_back N c (FlagTruth b) y h = sym (gives_eq _ _ h)
guard_back N c (FlagNot g) y h =
    let x = step_back (check_guard N c g) _ _ h in
    (x.0, guard_back N c g x.0 x.1, sym (gives_eq _ _ x.2))
guard_back N c (FlagTwo AndOp g i) y h =
    let x = step_back (check_guard N c g) _ _ h in
    let z = step_back (check_guard N c i) _ _ x.2 in
    (x.0, z.0, guard_back N c g x.0 x.1, guard_back N c i z.0 z.1, sym (gives_eq _ _ z.2))
guard_back N c (FlagTwo OrOp g i) y h =
    let x = step_back (check_guard N c g) _ _ h in
    let z = step_back (check_guard N c i) _ _ x.2 in
    (x.0, z.0, guard_back N c g x.0 x.1, guard_back N c i z.0 z.1, sym (gives_eq _ _ z.2))
guard_back N c (FlagGroup g) y h = guard_back N c g y h

guard_on : (N : Names) (c : ℕ) (g : Guard) (y : TypedGuard) → IsGuard N c g y → check_guard N c g ≡ Gives y
guard_on N c (FlagIs x) y h = step_on (find (N.flag_of c x.name) Unknown x.at) _ h.0 _ (find_ok _ _ _ _ h.1) (ap Gives (sym h.2))
guard_on N c (FlagTruth b) y h = ap Gives (sym h)
guard_on N c (FlagNot g) y h = step_on (check_guard N c g) _ h.0 _ (guard_on N c g h.0 h.1) (ap Gives (sym h.2))
guard_on N c (FlagTwo AndOp g i) y h =
    step_on (check_guard N c g) _ h.0 _ (guard_on N c g h.0 h.2) (step_on (check_guard N c i) _ h.1 _ (guard_on N c i h.1 h.3) (ap Gives (sym h.4)))
guard_on N c (FlagTwo OrOp g i) y h =
    step_on (check_guard N c g) _ h.0 _ (guard_on N c g h.0 h.2) (step_on (check_guard N c i) _ h.1 _ (guard_on N c i h.1 h.3) (ap Gives (sym h.4)))
guard_on N c (FlagGroup g) y h = guard_on N c g y h

-- what stands for a name's meaning
variable_back : (bs : Binds) (x : Named) (k : ℕ) (cs : Binds) (m : Option Meaning) → meaning_of bs.scope x ≡ m → bind_variable bs x k m ≡ Gives cs → TakesVariable bs x k cs
variable_back bs x k cs None e h =
    let a = step_back (ask (nat_lt bs.scope.tags 4) TooMany x.at) (λ _. Gives (with_new bs x k)) _ h in
    inl (e, ltb-true _ _ (asked _ _ _ _ a.1), sym (gives_eq _ _ a.2))
variable_back bs x k cs (Some (TagIs v before)) e h =
    let a = step_back (ask (not (list_any (λ w. w == v) bs.variables)) Twice x.at) _ _ h in
    let b = step_back (ask (before == k) Mismatch x.at) (λ _. Gives (with_old bs v)) _ a.2 in
    inr (v, e ∙ ap (λ k. Some (TagIs v k)) (eqb-true _ _ (asked _ _ _ _ b.1)), false_of _ (asked _ _ _ _ a.1), sym (gives_eq _ _ b.2))
variable_back bs x k cs (Some (SlotIs slot sh)) e h = cc
variable_back bs x k cs (Some (ParameterIs slot class)) e h = cc

variable_on : (bs : Binds) (x : Named) (k : ℕ) (cs : Binds) → TakesVariable bs x k cs → bind_variable bs x k (meaning_of bs.scope x) ≡ Gives cs
variable_on bs x k cs (inl h) =
    ap (bind_variable bs x k) h.0
    ∙ step_on (ask (nat_lt bs.scope.tags 4) TooMany x.at) (λ _. Gives (with_new bs x k)) tt _ (ask_ok _ _ _ (lt-ltb _ _ h.1)) (ap Gives (sym h.2))
variable_on bs x k cs (inr h) =
    ap (bind_variable bs x k) h.1
    ∙ step_on (ask (not (list_any (λ w. w == h.0) bs.variables)) Twice x.at) (λ _. ask (k == k) Mismatch x.at >>= λ _. Gives (with_old bs h.0)) tt _ (ask_ok _ _ _ (ap not h.2))
    (step_on (ask (k == k) Mismatch x.at) (λ _. Gives (with_old bs h.0)) tt _ (ask_ok _ _ _ (eq-eqb k k refl)) (ap Gives (sym h.3)))

bind_back : (N : Names) (bs : Binds) (b : Bind) (cs : Binds) → check_bind N bs b ≡ Gives cs → TakesBind N bs b cs
bind_back N bs b cs h =
    let k = step_back (find (N.tag_type_of b.tag_type.name) Unknown b.tag_type.at) _ _ h in
    (k.0, was_found _ _ _ _ k.1, variable_back bs b.variable k.0 cs _ refl k.2)

bind_on : (N : Names) (bs : Binds) (b : Bind) (cs : Binds) → TakesBind N bs b cs → check_bind N bs b ≡ Gives cs
bind_on N bs b cs h =
    step_on (find (N.tag_type_of b.tag_type.name) Unknown b.tag_type.at) (λ k. bind_variable bs b.variable k (meaning_of bs.scope b.variable)) h.0 _ (find_ok _ _ _ _ h.1)
    (variable_on bs b.variable h.0 cs h.2)

param_back : (N : Names) (ps : Params) (p : Param) (qs : Params) → check_param N ps p ≡ Gives qs → TakesParam N ps p qs
param_back N ps (ParamOf kind x guard binds) qs h =
    let c = step_back (find (N.class_of kind.name) Unknown kind.at) _ _ h in
    let a = step_back (ask (is_free ps.scope x) Twice x.at) _ _ c.2 in
    let b = step_back (ask (nat_lt ps.scope.slots 4) TooMany x.at) _ _ a.2 in
    let g = step_back (check_guard N c.0 guard) _ _ b.2 in
    let bs = step_back (try_fold (check_bind N) (no_binds ps x c.0) binds) _ _ g.2 in (
      c.0,
      g.0,
      bs.0,
      was_found _ _ _ _ c.1,
      none_of _ (asked _ _ _ _ a.1),
      ltb-true _ _ (asked _ _ _ _ b.1),
      guard_back N c.0 guard g.0 g.1,
      fold_back _ _ (bind_back N) _ binds _ bs.1,
      sym (gives_eq _ _ bs.2),
    )

param_on : (N : Names) (ps : Params) (p : Param) (qs : Params) → TakesParam N ps p qs → check_param N ps p ≡ Gives qs
param_on N ps (ParamOf kind x guard binds) qs h =
    step_on (find (N.class_of kind.name) Unknown kind.at) _ h.0 _ (find_ok _ _ _ _ h.3)
    (step_on (ask (is_free ps.scope x) Twice x.at) _ tt _ (ask_ok _ _ _ (free_ok ps.scope x h.4))
    (step_on (ask (nat_lt ps.scope.slots 4) TooMany x.at) _ tt _ (ask_ok _ _ _ (lt-ltb _ _ h.5))
    (step_on (check_guard N h.0 guard) _ h.1 _ (guard_on N h.0 guard h.1 h.6)
    (step_on (try_fold (check_bind N) (no_binds ps x h.0) binds) _ h.2 _ (fold_on _ _ (bind_on N) _ binds _ h.7) (ap Gives (sym h.8))))))

pub task_back : (N : Names) (at : Place) (x : Named) (params : Sequence Param) (body : Statements) (y : TypedTask) → check_task N at x params body ≡ Gives y → IsTask N at x params body y
task_back N at x params body y h =
    let ps = step_back (try_fold (check_param N) no_params params) _ _ h in
    let b = step_back (state_all (in_task N) ps.0.scope body) _ _ ps.2 in
    (ps.0, b.0.codes, b.0.scope, fold_back _ _ (param_back N) _ params _ ps.1, do_of (in_task N) ps.0.scope body b.0 b.1, sym (gives_eq _ _ b.2))

pub task_on : (N : Names) (at : Place) (x : Named) (params : Sequence Param) (body : Statements) (y : TypedTask) → IsTask N at x params body y → check_task N at x params body ≡ Gives y
task_on N at x params body y h =
    step_on (try_fold (check_param N) no_params params) _ h.0 _ (fold_on _ _ (param_on N) _ params _ h.3)
    (step_on (state_all (in_task N) h.0.scope body) _ (all_stated h.1 h.2) _ (all_on (in_task N) h.0.scope body _ _ h.4) (ap Gives (sym h.5)))

-- classes and programs
member_back : (N : Names) (me : ℕ) (c : TypedClass) (m : Member) (d : TypedClass) → check_member N me c m ≡ Gives d → TakesMember N me c m d
member_back N me c (FlagMember x) d h = sym (gives_eq _ _ h)
member_back N me c (FieldMember x) d h =
    let sh = step_back (shape_at N x.kind) _ _ h in
    (sh.0, shape_back N x.kind sh.0 sh.1, sym (gives_eq _ _ sh.2))
member_back N me c (MethodMember m) d h =
    let y = step_back (check_method N me m) _ _ h in
    (y.0, method_back N me m y.0 y.1, sym (gives_eq _ _ y.2))
member_back N me c (MakerMember m) d h =
    let y = step_back (check_maker N me c.name m) _ _ h in
    (y.0, maker_back N me c.name m y.0 y.1, sym (gives_eq _ _ y.2))

member_on : (N : Names) (me : ℕ) (c : TypedClass) (m : Member) (d : TypedClass) → TakesMember N me c m d → check_member N me c m ≡ Gives d
member_on N me c (FlagMember x) d h = ap Gives (sym h)
member_on N me c (FieldMember x) d h = step_on (shape_at N x.kind) _ h.0 _ (shape_on N x.kind h.0 h.1) (ap Gives (sym h.2))
member_on N me c (MethodMember m) d h = step_on (check_method N me m) _ h.0 _ (method_on N me m h.0 h.1) (ap Gives (sym h.2))
member_on N me c (MakerMember m) d h = step_on (check_maker N me c.name m) _ h.0 _ (maker_on N me c.name m h.0 h.1) (ap Gives (sym h.2))

item_back : (N : Names) (p : TypedProgram) (i : Item) (q : TypedProgram) → check_item N p i ≡ Gives q → TakesItem N p i q
item_back N p (TagTypeItem x) q h = sym (gives_eq _ _ h)
item_back N p (ClassItem x members) q h =
    let c = step_back (try_fold (check_member N (length p.classes)) (empty_class x.name) members) _ _ h in
    (c.0, fold_back _ _ (member_back N (length p.classes)) _ members _ c.1, sym (gives_eq _ _ c.2))
item_back N p (TaskItem at x params body) q h =
    let t = step_back (check_task N at x params body) _ _ h in
    (t.0, task_back N at x params body t.0 t.1, sym (gives_eq _ _ t.2))

item_on : (N : Names) (p : TypedProgram) (i : Item) (q : TypedProgram) → TakesItem N p i q → check_item N p i ≡ Gives q
item_on N p (TagTypeItem x) q h = ap Gives (sym h)
item_on N p (ClassItem x members) q h =
    step_on (try_fold (check_member N (length p.classes)) (empty_class x.name) members) _ h.0 _ (fold_on _ _ (member_on N (length p.classes)) _ members _ h.1) (ap Gives (sym h.2))
item_on N p (TaskItem at x params body) q h = step_on (check_task N at x params body) _ h.0 _ (task_on N at x params body h.0 h.1) (ap Gives (sym h.2))

pub program_back : (items : Sequence Item) (p : TypedProgram) → check items ≡ Gives p → IsProgramOf items p
program_back items p h =
    let S = step_back (numbering items) (λ S. walk (names_of S items) items) _ h in
    (S.0, S.1, fold_back _ _ (item_back (names_of S.0 items)) _ items _ S.2)

pub program_on : (items : Sequence Item) (p : TypedProgram) → IsProgramOf items p → check items ≡ Gives p
program_on items p h =
    step_on (numbering items) (λ S. walk (names_of S items) items) h.0 _ h.1 (fold_on _ _ (item_on (names_of h.0 items)) _ items _ h.2)

pub one_program : (items : Sequence Item) (p q : TypedProgram) → IsProgramOf items p → IsProgramOf items q → p ≡ q
one_program items p q h i = gives_eq _ _ (sym (program_on items p h) ∙ program_on items q i)

pub program_or_fault : ProgramOrFault
program_or_fault = record {
  one = λ items. which items (check items) refl;
  not_both = λ items p kind at h i. cc (program_on items p h, i);
  one_fault = λ items kind kind_2 at at_2 h i. same_fault (check items) kind kind_2 at at_2 h i;
}
  where
    which : (items : Sequence Item) (g : Got TypedProgram) → check items ≡ g → ((p : TypedProgram) × IsProgramOf items p) ⊎ ((kind : Kind) × (at : Place) × HasTypeFault items kind at)
    which items (Gives p) h = inl (p, program_back items p h)
    which items (Fails kind at) h = inr (kind, at, h)

    same_fault : (g : Got TypedProgram) (kind kind_2 : Kind) (at at_2 : Place) → g ≡ Fails kind at → g ≡ Fails kind_2 at_2 → (kind ≡ kind_2) × (at ≡ at_2)
    same_fault g kind kind_2 at at_2 h i = (cc, cc)
