-- How statements are appended, and the units that come of it.
use Rattle.std.proofs.Common.{◌≡◌, ℕ, ◌+◌, List, [], ◌∷◌, ◌++◌, length, Some, refl, sym, ◌∙◌, ap, subst}
use Rattle.bc_data.specs.declared.program.Change.{Change}
use Rattle.bc_data.specs.declared.program.Stat.{Stat}
use Rattle.bc_data.specs.declared.run.Place.{Place}
use Rattle.bc_data.specs.ProgramView.{program_stat_views, view_program_stat}
use Rattle.bc_data.specs.Typed as typed
use Rattle.bc_data.specs.Typed.{TypedExpression, TypedPart, TypedStatement, TypedStatements, TypedMethod, TypedTask, TypedClass}
use Rattle.bc_code.specs.declared.code.Instruction.{Instruction}
use Rattle.bc_code.specs.declared.code.Instruction.TheVariants as instruction
use Rattle.bc_code.specs.declared.code.Unit.{Unit as CodeUnit}
use Rattle.bc_code.specs.Instructions.{nowhere}
use Rattle.bc_code.specs.Translation.{Text, text_of, At, behind_each, behind_end, after, after_part, after_parts, past, past_all, HasExpression, HasPart, HasParts, IsChangeCode, AreChanges, HasStatement, HasStatements, IsEnd, IsTaskUnit, IsMethodUnit}
use Rattle.bc_code.specs.Emitted.{Emitted}
use Rattle.bc_gen_expr.specs.Written.{written}
use Rattle.bc_gen_expr.proofs.Arms.{EmitsOne}
use Rattle.bc_gen_expr.proofs.Growing.{kept_two, kept_at, Laid, laid, laid_at, then, told, retold, jumped}
use Rattle.bc_gen_expr.proofs.Rows.{each_append}
use Rattle.bc_gen_expr.proofs.Stays.{Emits, kept_expression, laid_expression}
use Rattle.bc_gen_stmt.proofs.Kept.{stays_part, stays_parts, stays_change, stays_changes, stays_statement, stays_statements, stays_end}
use Rattle.bc_gen_stmt.proofs.Rows.{views_push}

-- an expression and the instruction that takes its value
abbrev pub PutsValue : List TypedClass → TypedExpression → Instruction → Place → CodeUnit → CodeUnit → Type 0
PutsValue K e i at a b = Emitted (λ T p. HasExpression K T p e × At T (after K p e) i at) (λ p. after K p e + 1) a b

abbrev pub PutsParts : List TypedClass → Place → List TypedPart → CodeUnit → CodeUnit → Type 0
PutsParts K at xs a b = Emitted (λ T p. HasParts K T at p xs) (λ p. after_parts K p xs) a b

abbrev pub PutsChanges : List Change → CodeUnit → CodeUnit → Type 0
PutsChanges xs a b = Emitted (λ T p. AreChanges T p xs) (behind_each xs) a b

abbrev pub PutsStatement : List TypedClass → TypedStatement → CodeUnit → CodeUnit → Type 0
PutsStatement K s a b = Emitted (λ T p. HasStatement K T p s) (λ p. past K p s) a b

abbrev pub PutsStatements : List TypedClass → TypedStatements → CodeUnit → CodeUnit → Type 0
PutsStatements K ss a b = Emitted (λ T p. HasStatements K T p ss) (λ p. past_all K p ss) a b

-- the same instruction under another name
aimed : (T : Text) (p : ℕ) (i j : Instruction) (at : Place) → i ≡ j → At T p i at → At T p j at
aimed T p i j at e h = (h.0 ∙ ap Some e, h.1)

change_append : (T : Text) (xs : List Change) (x : Change) (p : ℕ) → AreChanges T p xs → IsChangeCode T (behind_each xs p) x → AreChanges T p (xs ++ x ∷ [])
change_append T [] x p h i = (i, tt)
change_append T (y ∷ xs) x p h i = (h.0, change_append T xs x (p + 1) h.1 i)

pub one_change : (xs : List Change) (x : Change) (a b c : CodeUnit) → PutsChanges xs a b → Emitted (λ T p. IsChangeCode T p x) (λ p. p + 1) b c → PutsChanges (xs ++ x ∷ []) a c
one_change xs x a b c l m =
    let p = length a.code in
    let both = (then (laid (stays_changes xs) l) (laid (stays_change x) m)).is in
    retold (sym (each_append xs x p)) (λ T h. change_append T xs x p h.0 h.1) both

module _ (K : List TypedClass) where
  laid_value : (e : TypedExpression) (i : Instruction) (at : Place) (a b : CodeUnit) → PutsValue K e i at a b → Laid (λ T p. HasExpression K T p e × At T (after K p e) i at) (λ p. after K p e + 1) a b
  laid_value e i at a b l = laid (record { kept = λ p. kept_two (kept_expression K e p) (kept_at _ i at) }) l

  pub field_emitted : (at : Place) (n : ℕ) (x y : TypedExpression) (a b c : CodeUnit) → Emits K x a b → PutsValue K y (instruction.SetField n) at b c → PutsStatement K (typed.SetField at x n y) a c
  field_emitted at n x y a b c l m =
      told (λ T h. (h.0, h.1.0, h.1.1)) (then (laid_expression K x l) (laid_value y (instruction.SetField n) at b c m)).is

  pub elem_emitted : (at : Place) (x i y : TypedExpression) (a b c d : CodeUnit) → Emits K x a b → Emits K i b c → PutsValue K y instruction.SetElem at c d → PutsStatement K (typed.SetElem at x i y) a d
  elem_emitted at x i y a b c d l m n =
      told
      (λ T h. (h.0, h.1.0, h.1.1.0, h.1.1.1))
      (then (laid_expression K x l) (then (laid_expression K i m) (laid_value y instruction.SetElem at c d n))).is

  part_append : (T : Text) (at : Place) (xs : List TypedPart) (x : TypedPart) (p : ℕ) → HasParts K T at p xs → HasPart K T at (after_parts K p xs) x → HasParts K T at p (xs ++ x ∷ [])
  part_append T at [] x p h i = (i, tt)
  part_append T at (y ∷ xs) x p h i = (h.0, part_append T at xs x (after_part K p y) h.1 i)

  part_behind : (xs : List TypedPart) (x : TypedPart) (p : ℕ) → after_parts K p (xs ++ x ∷ []) ≡ after_part K (after_parts K p xs) x
  part_behind [] x p = refl
  part_behind (y ∷ xs) x p = part_behind xs x (after_part K p y)

  pub one_part : (at : Place) (xs : List TypedPart) (x : TypedPart) (a b c : CodeUnit) → PutsParts K at xs a b → Emitted (λ T p. HasPart K T at p x) (λ p. after_part K p x) b c → PutsParts K at (xs ++ x ∷ []) a c
  one_part at xs x a b c l m =
      let p = length a.code in
      let both = (then (laid (stays_parts K at xs) l) (laid (stays_part K at x) m)).is in
      retold (sym (part_behind xs x p)) (λ T h. part_append T at xs x p h.0 h.1) both

  pub one_statement : (ss : List Stat) (s : Stat) (a b c : CodeUnit) → PutsStatements K (program_stat_views ss typed.Nothing) a b → PutsStatement K (view_program_stat s) b c → PutsStatements K (program_stat_views (ss ++ s ∷ []) typed.Nothing) a c
  one_statement ss s a b c l m =
      let front = program_stat_views ss typed.Nothing in
      let last = view_program_stat s in
      subst (λ all. PutsStatements K all a c) (sym (views_push ss s typed.Nothing)) (then (laid (stays_statements K front) l) (laid (stays_statement K last) m)).is

  pub exit_emitted : (xs : List Change) (a b c : CodeUnit) → PutsChanges xs a b → EmitsOne instruction.Exit nowhere b c → PutsStatement K (typed.Exit xs) a c
  exit_emitted xs a b c l m = (then (laid (stays_changes xs) l) (laid_at m)).is

  pub while_emitted : (at : Place) (test : TypedExpression) (body : TypedStatements) (a b c d e f g : CodeUnit) (start jump end : ℕ) → start ≡ length a.code → Emits K test a b → jump ≡ length b.code → EmitsOne (instruction.JumpIfNot 0) nowhere b c → EmitsOne instruction.Turn at c d → PutsStatements K body d e → EmitsOne (instruction.Jump start) nowhere e f → end ≡ length f.code → g ≡ written f jump (instruction.JumpIfNot end) → PutsStatement K (typed.While at test body) a g
  while_emitted at test body a b c d e f g start jump end from tested here hole turn round back to set =
      let x = laid_expression K test tested in
      let y = then (laid_at turn) (then (laid (stays_statements K body) round) (laid_at back)) in
      let behind = to ∙ (then x (then (laid_at hole) y)).is.long in
      told
      (λ T h. (
        h.0,
        aimed T _ _ _ nowhere (ap instruction.JumpIfNot behind) h.1.0,
        h.1.1.0,
        h.1.1.1.0,
        aimed T _ _ _ nowhere (ap instruction.Jump from) h.1.1.1.1,
      ))
      (jumped (instruction.JumpIfNot end) jump x hole y here set).is

  pub if_emitted : (test : TypedExpression) (body other : TypedStatements) (a b c d e f g h : CodeUnit) (jump leap second end : ℕ) → Emits K test a b → jump ≡ length b.code → EmitsOne (instruction.JumpIfNot 0) nowhere b c → PutsStatements K body c d → leap ≡ length d.code → EmitsOne (instruction.Jump 0) nowhere d e → second ≡ length e.code → PutsStatements K other e f → end ≡ length f.code → g ≡ written f leap (instruction.Jump end) → h ≡ written g jump (instruction.JumpIfNot second) → PutsStatement K (typed.If test body other) a h
  if_emitted test body other a b c d e f g h jump leap second end tested here hole first there gap from last to set again =
      let inner = jumped (instruction.Jump end) leap (laid (stays_statements K body) first) gap (laid (stays_statements K other) last) there set in
      let between : length e.code ≡ past_all K (after K (length a.code) test + 1) body + 1 =
      gap.long ∙ ap (λ z. z + 1) (first.long ∙ ap (λ z. past_all K z body) (hole.long ∙ ap (λ z. z + 1) tested.long)) in
      let behind = to ∙ last.long ∙ ap (λ z. past_all K z other) between in
      told
      (λ T k. (
        k.0,
        aimed T _ _ _ nowhere (ap instruction.JumpIfNot (from ∙ between)) k.1.0,
        k.1.1.0,
        aimed T _ _ _ nowhere (ap instruction.Jump behind) k.1.1.1.0,
        k.1.1.1.1,
      ))
      (jumped (instruction.JumpIfNot second) jump (laid_expression K test tested) hole inner here again).is

  -- a unit from its first instruction on
  pub task_laid : (t : TypedTask) (a b c : CodeUnit) → a.code ≡ [] → a.locals ≡ t.locals → a.tags ≡ t.tags → PutsStatements K t.body a b → EmitsOne instruction.Exit nowhere b c → IsTaskUnit K t c
  task_laid t a b c empty locals tags l m =
      let all = (then (laid (stays_statements K t.body) l) (laid_at m)).is in
      let first = ap length empty in
      record {
        body = subst (λ p. HasStatements K (text_of c) p t.body) first all.has.0;
        exit = subst (λ p. At (text_of c) (past_all K p t.body) instruction.Exit nowhere) first all.has.1;
        ends = all.long ∙ ap (λ p. past_all K p t.body + 1) first;
        places = all.grows.places;
        short = all.grows.short;
        locals = all.locals ∙ locals;
        tags = all.tags ∙ tags;
      }

  pub method_laid : (m : TypedMethod) (a b c : CodeUnit) → a.code ≡ [] → a.locals ≡ m.locals → a.tags ≡ 0 → PutsStatements K m.body a b → Emitted (λ T p. IsEnd T p m.result) (behind_end m.result) b c → IsMethodUnit K m c
  method_laid m a b c empty locals tags l n =
      let all = (then (laid (stays_statements K m.body) l) (laid (stays_end m.result) n)).is in
      let first = ap length empty in
      record {
        body = subst (λ p. HasStatements K (text_of c) p m.body) first all.has.0;
        end = subst (λ p. IsEnd (text_of c) (past_all K p m.body) m.result) first all.has.1;
        ends = all.long ∙ ap (λ p. behind_end m.result (past_all K p m.body)) first;
        places = all.grows.places;
        short = all.grows.short;
        locals = all.locals ∙ locals;
        tags = all.tags ∙ tags;
      }
