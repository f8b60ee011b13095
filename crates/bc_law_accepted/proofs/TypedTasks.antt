-- Tasks that the rules accept are well typed, as their bodies are.
use Rattle.std.proofs.Common.{◌≡◌, ◌⊎◌, inl, inr, ℕ, ◌==◌, true, false, zero, suc, ◌+◌, ◌<◌, ◌≤◌, List, [], ◌∷◌, ◌++◌, length, map, All, Some, None, slice_get, refl, ap, sym, ◌∙◌, subst, arith}
use Rattle.std.specs.Prelude.{◌≢◌, AllPairs, Contains}
use Rattle.std.specs.List.{AllByRecursion, filter_map, list_any, range_with_len}
use Rattle.std.proofs.lemmas.Bool.{cases_lt, eq-eqb}
use Rattle.std.proofs.lemmas.List.{length-append, length-map, map-append, map-id, append-nil}
use Rattle.std.proofs.lemmas.List.FromFn.{map-range_with_len_more}
use Rattle.std.proofs.lemmas.List.Elements.{All-get_or, All-push, All-weaker, Contains-append_left, Contains-push, filter_map-append}
use Rattle.std.proofs.lemmas.List.Folds.{list_any_at}
use Rattle.std.proofs.lemmas.List.Quantifiers.{all_pairs_push}
use Rattle.bc_data.specs.SourceTree.{Sequence, AndOp, OrOp, Guard, FlagIs, FlagTruth, FlagNot, FlagTwo, FlagGroup, Statements, Param, ParamOf}
use Rattle.bc_data.specs.declared.run.Place.{Place}
use Rattle.bc_data.specs.declared.tree.Named.{Named}
use Rattle.bc_data.specs.declared.tree.Bind.{Bind}
use Rattle.bc_data.specs.declared.program.Shape.{Shape}
use Rattle.bc_data.specs.declared.program.Shape.TheVariants as shape
use Rattle.bc_data.specs.Typed.{TypedStatements, TypedGuard, TypedClass, TypedParam, TypedTask, TypedProgram}
use Rattle.bc_data.specs.TypedBodies.{AreTyped}
use Rattle.bc_data.specs.WellTyped as facts
use Rattle.bc_data.specs.WellTyped.{slots_from, task_setting, task_start}
use Rattle.bc_types_rules.specs.Context.{Names, SlotIs, ParameterIs, TagIs, Meaning, InScope, Scope, task_scope, with_parameter, with_tag}
use Rattle.bc_types_rules.specs.Statements.{AllStated}
use Rattle.bc_types_rules.specs.Bodies.{in_task, Binds, with_new, with_old, Params, no_params, no_binds, with_param, type_of_tag, task_of}
use Rattle.bc_types_rules.specs.ExpressionRules.{Each}
use Rattle.bc_types_rules.specs.ProgramRules as rules
use Rattle.bc_types_rules.specs.ProgramRules.{TakesVariable, TakesBind, TakesParam}
use Rattle.bc_law_accepted.proofs.Agreement.{Agrees}
use Rattle.bc_law_accepted.proofs.Scopes.{IsScope, IsUsed, slot_in, variable_in, assigned_in}
use Rattle.bc_law_accepted.proofs.Bodies.{BodiesAreTyped}
use Rattle.bc_law_accepted.proofs.ScopeLemmas.{each_keeps, element_within, every_append, every_weaker, named_slots, parameter_scope, tag_scope, used_by}
use Rattle.bc_law_accepted.proofs.TypedMethods.{slots_push}
use Rattle.bc_law_accepted.proofs.Spelled.{IsWrittenBody}
use Rattle.bc_law_accepted.proofs.Exits.{AreBehind, IsBehind, name_once, set_behind}

-- a guard names flags of its class
pub guard_typed : (N : Names) (K : List TypedClass) (tag_types c : ℕ) (k : TypedClass) (g : Guard) (y : TypedGuard) → Agrees N K tag_types → slice_get K c ≡ Some k → rules.IsGuard N c g y → facts.IsGuard (length k.flags) y
guard_typed N K tag_types c k (FlagIs x) y agrees at h =
    let f = agrees.flag c x.name h.0 h.1 in
    let same : f.0 ≡ k = cc in
    subst (facts.IsGuard (length k.flags)) (sym h.2) (subst (λ (k : TypedClass). h.0 < length k.flags) same f.2)
guard_typed N K tag_types c k (FlagTruth b) y agrees at h = subst (facts.IsGuard (length k.flags)) (sym h) tt
guard_typed N K tag_types c k (FlagNot g) y agrees at h = subst (facts.IsGuard (length k.flags)) (sym h.2) (guard_typed N K tag_types c k g h.0 agrees at h.1)
guard_typed N K tag_types c k (FlagTwo AndOp g i) y agrees at h =
    subst (facts.IsGuard (length k.flags)) (sym h.4) (guard_typed N K tag_types c k g h.0 agrees at h.2, guard_typed N K tag_types c k i h.1 agrees at h.3)
guard_typed N K tag_types c k (FlagTwo OrOp g i) y agrees at h =
    subst (facts.IsGuard (length k.flags)) (sym h.4) (guard_typed N K tag_types c k g h.0 agrees at h.2, guard_typed N K tag_types c k i h.1 agrees at h.3)
guard_typed N K tag_types c k (FlagGroup g) y agrees at h = guard_typed N K tag_types c k g y agrees at h

-- lists
get_before : {X : Type 0} (xs ys : List X) (i : ℕ) (x : X) → slice_get xs i ≡ Some x → slice_get (xs ++ ys) i ≡ Some x
get_before [] ys i x h = cc
get_before (z ∷ zs) ys zero x h = h
get_before (z ∷ zs) ys (suc i) x h = get_before zs ys i x h

get_last : {X : Type 0} (xs : List X) (x : X) → slice_get (xs ++ x ∷ []) (length xs) ≡ Some x
get_last [] x = refl
get_last (y ∷ ys) x = get_last ys x

range_push : (n : ℕ) → range_with_len 0 (n + 1) ≡ range_with_len 0 n ++ n ∷ []
range_push n =
    sym (map-id (range_with_len 0 (n + 1)))
    ∙ map-range_with_len_more (λ k. k) 0 n n (omega arith)
    ∙ ap (λ ks. ks ++ n ∷ []) (map-id (range_with_len 0 n))

abbrev class_in : TypedParam → ℕ
class_in p = p.class

abbrev shape_in : ℕ → Shape
shape_in c = shape.Class c

shapes_in : (ps : List TypedParam) → map shape_in (map class_in ps) ≡ map (λ (p : TypedParam). shape.Class p.class) ps
shapes_in [] = refl
shapes_in (p ∷ ps) = ap (λ shs. shape.Class p.class ∷ shs) (shapes_in ps)

-- a scope with more parameters behind those that it knows
more_parameters : (params : List ℕ) (c : ℕ) (s : Scope) → IsScope None params s → IsScope None (params ++ c ∷ []) s
more_parameters params c s is = record {
  known = every_weaker (λ (l : InScope). IsUsed params s l.meaning) (λ (l : InScope). IsUsed (params ++ c ∷ []) s l.meaning) (λ l u. used l.meaning u) s.known is.known;
  above = is.above;
  apart = is.apart;
  count = is.count;
  this = is.this;
  few = is.few;
}
  where
    used : (m : Meaning) → IsUsed params s m → IsUsed (params ++ c ∷ []) s m
    used (SlotIs slot sh) u = u
    used (ParameterIs slot class) u = (u.0, get_before params (c ∷ []) slot class u.1)
    used (TagIs variable tag_type) u = u

-- The scope of a task's parameters, which are of these classes: their slots, and the tag variables that they bind.
record AreTaken (tag_types : ℕ) (classes : List ℕ) (s : Scope) : Type 0 where
  pub scope : IsScope None classes s
  pub size : length classes ≡ s.slots
  pub few : s.slots ≤ 4
  pub few_tags : s.tags ≤ 4
  pub slots : named_slots s ≡ slots_from 0 (map shape_in classes)
  pub variables : filter_map (λ (l : InScope). variable_in l.meaning) s.known ≡ range_with_len 0 s.tags
  pub types : All (λ k. k < tag_types) (filter_map type_of_tag s.known)
  pub each_type : length (filter_map type_of_tag s.known) ≡ s.tags
  -- no slot but those of the parameters
  pub behind : (n : ℕ) → AllByRecursion (λ l. IsBehind n l.meaning) s.known

none_taken : (tag_types : ℕ) → AreTaken tag_types [] task_scope
none_taken tag_types = record {
  scope = record { known = tt; above = tt; apart = tt; count = omega arith; this = omega arith; few = omega arith };
  size = refl;
  few = omega arith;
  few_tags = omega arith;
  slots = refl;
  variables = refl;
  types = λ k d h. absurd (omega arith);
  each_type = refl;
  behind = λ n. tt;
}

parameter_taken : (tag_types : ℕ) (classes : List ℕ) (s : Scope) (x : Named) (c : ℕ) → AreTaken tag_types classes s → s.slots < 4 → AreTaken tag_types (classes ++ c ∷ []) (with_parameter s x c)
parameter_taken tag_types classes s x c are room =
    let is : IsScope None classes s = are.scope in
    let l : InScope = record { name = x.name; meaning = ParameterIs s.slots c } in
    let place : slice_get (classes ++ c ∷ []) s.slots ≡ Some c = ap (slice_get (classes ++ c ∷ [])) (sym are.size) ∙ get_last classes c in
    let same : filter_map type_of_tag (s.known ++ l ∷ []) ≡ filter_map type_of_tag s.known = filter_map-append type_of_tag s.known (l ∷ []) ∙ append-nil (filter_map type_of_tag s.known) in record {
      scope = parameter_scope None (classes ++ c ∷ []) s (more_parameters classes c s is) (omega (arith, is.count)) x c place;
      size = omega (arith, length-append classes (c ∷ []), are.size);
      few = omega arith;
      few_tags = are.few_tags;
      slots =
          filter_map-append (λ (l : InScope). slot_in l.meaning) s.known (l ∷ [])
          ∙ ap (λ ss. ss ++ record { slot = s.slots; shape = shape.Class c } ∷ []) are.slots
          ∙ sym (slots_push 0 (map shape_in classes) (shape.Class c) s.slots (omega (arith, length-map classes shape_in, are.size)))
          ∙ sym (ap (slots_from 0) (map-append shape_in classes (c ∷ [])));
      variables =
          filter_map-append (λ (l : InScope). variable_in l.meaning) s.known (l ∷ [])
          ∙ append-nil (filter_map (λ (l : InScope). variable_in l.meaning) s.known)
          ∙ are.variables;
      types = subst (All (λ k. k < tag_types)) (sym same) are.types;
      each_type = ap length same ∙ are.each_type;
      behind = λ n. every_append (λ (l : InScope). IsBehind n l.meaning) s.known (l ∷ []) (are.behind n) (tt, tt);
    }

tag_taken : (tag_types : ℕ) (classes : List ℕ) (s : Scope) (x : Named) (k : ℕ) → AreTaken tag_types classes s → s.tags < 4 → k < tag_types → AreTaken tag_types classes (with_tag s x k)
tag_taken tag_types classes s x k are room below =
    let is : IsScope None classes s = are.scope in
    let l : InScope = record { name = x.name; meaning = TagIs s.tags k } in
    let more : filter_map type_of_tag (s.known ++ l ∷ []) ≡ filter_map type_of_tag s.known ++ k ∷ [] = filter_map-append type_of_tag s.known (l ∷ []) in record {
      scope = tag_scope None classes s is (omega (arith, is.count, are.few)) x k;
      size = are.size;
      few = are.few;
      few_tags = omega arith;
      slots =
          filter_map-append (λ (l : InScope). slot_in l.meaning) s.known (l ∷ [])
          ∙ append-nil (named_slots s)
          ∙ are.slots;
      variables =
          filter_map-append (λ (l : InScope). variable_in l.meaning) s.known (l ∷ [])
          ∙ ap (λ vs. vs ++ s.tags ∷ []) are.variables
          ∙ sym (range_push s.tags);
      types = subst (All (λ k. k < tag_types)) (sym more) (All-push (λ k. k < tag_types) (filter_map type_of_tag s.known) k are.types below);
      each_type = ap length more ∙ length-append (filter_map type_of_tag s.known) (k ∷ []) ∙ ap (λ n. n + 1) are.each_type;
      behind = λ n. every_append (λ (l : InScope). IsBehind n l.meaning) s.known (l ∷ []) (are.behind n) (tt, tt);
    }

-- what is known of a parameter where so many tag variables are bound
abbrev IsParamOf : List TypedClass → ℕ → TypedParam → Type 0
IsParamOf K variables p =
    (k : TypedClass) × (slice_get K p.class ≡ Some k) × facts.IsGuard (length k.flags) p.guard × All (λ v. v < variables) p.binds
    × AllPairs (λ v w. v ≢ w) p.binds

abbrev IsBoundBy : List TypedParam → ℕ → Type 0
IsBoundBy ps v = (p : TypedParam) × Contains ps p × Contains p.binds v

record AreParams (K : List TypedClass) (tag_types : ℕ) (ps : Params) : Type 0 where
  pub taken : AreTaken tag_types (map class_in ps.each) ps.scope
  pub each : All (IsParamOf K ps.scope.tags) ps.each
  pub bound : (v : ℕ) → v < ps.scope.tags → IsBoundBy ps.each v

-- the binds so far of a parameter of this class behind those before it
record AreBinds (tag_types : ℕ) (ps : Params) (c : ℕ) (bs : Binds) : Type 0 where
  pub taken : AreTaken tag_types (map class_in ps.each ++ c ∷ []) bs.scope
  pub more : ps.scope.tags ≤ bs.scope.tags
  pub below : All (λ v. v < bs.scope.tags) bs.variables
  pub once : AllPairs (λ v w. v ≢ w) bs.variables
  pub bound : (v : ℕ) → v < bs.scope.tags → IsBoundBy ps.each v ⊎ Contains bs.variables v

none_bound : (K : List TypedClass) (tag_types : ℕ) (ps : Params) (x : Named) (c : ℕ) → AreParams K tag_types ps → ps.scope.slots < 4 → AreBinds tag_types ps c (no_binds ps x c)
none_bound K tag_types ps x c are room = record {
  taken = parameter_taken tag_types (map class_in ps.each) ps.scope x c are.taken room;
  more = omega arith;
  below = λ k d h. absurd (omega arith);
  once = λ i j d a b. absurd (omega arith);
  bound = λ v h. inl (are.bound v h);
}

new_bound : (tag_types : ℕ) (ps : Params) (c : ℕ) (bs : Binds) (x : Named) (k : ℕ) → AreBinds tag_types ps c bs → bs.scope.tags < 4 → k < tag_types → AreBinds tag_types ps c (with_new bs x k)
new_bound tag_types ps c bs x k are room declared = record {
  taken = tag_taken tag_types (map class_in ps.each ++ c ∷ []) bs.scope x k are.taken room declared;
  more = omega (arith, are.more);
  below =
      All-push (λ v. v < bs.scope.tags + 1) bs.variables bs.scope.tags
      (All-weaker (λ v. v < bs.scope.tags) (λ v. v < bs.scope.tags + 1) (λ v h. omega arith) bs.variables are.below)
      (omega arith);
  once =
      all_pairs_push (λ v w. v ≢ w) bs.variables bs.scope.tags are.once (λ k d within same.
      let below = All-get_or (λ v. v < bs.scope.tags) bs.variables k d within are.below in
      omega arith);
  bound = λ v h. which v (cases_lt v bs.scope.tags) h;
}
  where
    earlier : (v : ℕ) → IsBoundBy ps.each v ⊎ Contains bs.variables v → IsBoundBy ps.each v ⊎ Contains (bs.variables ++ bs.scope.tags ∷ []) v
    earlier v (inl h) = inl h
    earlier v (inr h) = inr (Contains-append_left bs.variables (bs.scope.tags ∷ []) v h)

    which : (v : ℕ) → (v < bs.scope.tags) ⊎ (bs.scope.tags ≤ v) → v < bs.scope.tags + 1 → IsBoundBy ps.each v ⊎ Contains (bs.variables ++ bs.scope.tags ∷ []) v
    which v (inl before) h = earlier v (are.bound v before)
    which v (inr behind) h = inr (subst (Contains (bs.variables ++ bs.scope.tags ∷ [])) (omega arith) (Contains-push bs.variables bs.scope.tags))

old_bound :
    (tag_types : ℕ) (ps : Params) (c : ℕ) (bs : Binds) (v : ℕ) → AreBinds tag_types ps c bs → v < bs.scope.tags
    → list_any (λ w. w == v) bs.variables ≡ false → AreBinds tag_types ps c (with_old bs v)
old_bound tag_types ps c bs v are used new = record {
  taken = are.taken;
  more = are.more;
  below = All-push (λ w. w < bs.scope.tags) bs.variables v are.below used;
  once =
      all_pairs_push (λ v w. v ≢ w) bs.variables v are.once (λ k d within same.
      differ (sym (list_any_at (λ w. w == v) bs.variables k d within (eq-eqb _ v same)) ∙ new));
  bound = λ w h. earlier w (are.bound w h);
}
  where
    earlier : (w : ℕ) → IsBoundBy ps.each w ⊎ Contains bs.variables w → IsBoundBy ps.each w ⊎ Contains (bs.variables ++ v ∷ []) w
    earlier w (inl h) = inl h
    earlier w (inr h) = inr (Contains-append_left bs.variables (v ∷ []) w h)

    differ : true ≡ false → ⊥
    differ e = cc

variable_bound : (tag_types : ℕ) (ps : Params) (c : ℕ) (bs : Binds) (x : Named) (k : ℕ) (cs : Binds) → AreBinds tag_types ps c bs → k < tag_types → TakesVariable bs x k cs → AreBinds tag_types ps c cs
variable_bound tag_types ps c bs x k cs are declared (inl h) = subst (AreBinds tag_types ps c) (sym h.2) (new_bound tag_types ps c bs x k are h.1 declared)
variable_bound tag_types ps c bs x k cs are declared (inr h) =
    let used : h.0 < bs.scope.tags = used_by (map class_in ps.each ++ c ∷ []) bs.scope bs.scope.known x.name (TagIs h.0 k) are.taken.scope.known h.1 in
    subst (AreBinds tag_types ps c) (sym h.3) (old_bound tag_types ps c bs h.0 are used h.2)

-- one parameter more, with all its binds
param_more :
    (K : List TypedClass) (tag_types : ℕ) (ps : Params) (c : ℕ) (k : TypedClass) (g : TypedGuard) (bs : Binds)
    → AreParams K tag_types ps
    → slice_get K c ≡ Some k
    → facts.IsGuard (length k.flags) g
    → AreBinds tag_types ps c bs
    → AreParams K tag_types (with_param ps c g bs)
param_more K tag_types ps c k g bs are at guard binds =
    let p : TypedParam = record { class = c; guard = g; binds = bs.variables } in record {
      taken = subst (λ cs. AreTaken tag_types cs bs.scope) (sym (map-append class_in ps.each (p ∷ []))) binds.taken;
      each =
          All-push (IsParamOf K bs.scope.tags) ps.each p
          (All-weaker (IsParamOf K ps.scope.tags) (IsParamOf K bs.scope.tags) (λ q h. (h.0, h.1, h.2, All-weaker (λ v. v < ps.scope.tags) (λ v. v < bs.scope.tags) (λ v l. omega (arith, binds.more)) q.binds h.3, h.4)) ps.each are.each)
          (k, at, guard, binds.below, binds.once);
      bound = λ v h. by p v (binds.bound v h);
    }
  where
    by : (p : TypedParam) (v : ℕ) → IsBoundBy ps.each v ⊎ Contains p.binds v → IsBoundBy (ps.each ++ p ∷ []) v
    by p v (inl h) = (h.0, Contains-append_left ps.each (p ∷ []) h.0 h.1, h.2)
    by p v (inr h) = (p, Contains-push ps.each p, h)

params_are :
    (N : Names) (K : List TypedClass) (tag_types : ℕ) (params : Sequence Param) (ps : Params)
    → Agrees N K tag_types
    → Each (TakesParam N) no_params params ps
    → AreParams K tag_types ps
params_are N K tag_types params ps agrees h = each_keeps (AreParams K tag_types) (TakesParam N) one no_params params ps none h
  where
    none : AreParams K tag_types no_params
    none = record { taken = none_taken tag_types; each = λ k d l. absurd (omega arith); bound = λ v l. absurd (omega arith) }

    bind : (ps : Params) (c : ℕ) (bs : Binds) (b : Bind) (cs : Binds) → AreBinds tag_types ps c bs → TakesBind N bs b cs → AreBinds tag_types ps c cs
    bind ps c bs b cs are t = variable_bound tag_types ps c bs b.variable t.0 cs are (agrees.tag_type b.tag_type.name t.0 t.1) t.2

    one : (ps : Params) (p : Param) (qs : Params) → AreParams K tag_types ps → TakesParam N ps p qs → AreParams K tag_types qs
    one ps (ParamOf kind x guard binds) qs are t =
        let c : ℕ = t.0 in
        let k = element_within K c (agrees.class kind.name c t.3) in
        let g = guard_typed N K tag_types c k.0 guard t.1 agrees k.1 t.6 in
        let all = each_keeps (AreBinds tag_types ps c) (TakesBind N) (bind ps c) (no_binds ps x c) binds t.2 (none_bound K tag_types ps x c are t.5) t.7 in
        subst (AreParams K tag_types) (sym t.8) (param_more K tag_types ps c k.0 t.1 t.2 are k.1 g all)

param_typed : (P : TypedProgram) (t : TypedTask) (variables : ℕ) (p : TypedParam) → length t.variables ≡ variables → IsParamOf P.classes variables p → facts.IsParam P t p
param_typed P t variables p size h = record {
  class = h.0;
  declared = h.1;
  guard = h.2;
  binds = All-weaker (λ v. v < variables) (λ v. v < length t.variables) (λ v l. omega arith) p.binds h.3;
  binds_once = h.4;
}

starts_with : (K : List TypedClass) (tag_types : ℕ) (at : Place) (x : Named) (ps : Params) (b : AllStated) → AreParams K tag_types ps → assigned_in None ps.scope ≡ task_start (task_of at x ps b)
starts_with K tag_types at x ps b are =
    ap (λ ss. record { slots = ss; tags = filter_map (λ (l : InScope). variable_in l.meaning) ps.scope.known }) (are.taken.slots ∙ ap (slots_from 0) (shapes_in ps.each))
    ∙ ap (λ vs. record { slots = slots_from 0 (map (λ (p : TypedParam). shape.Class p.class) ps.each); tags = vs }) (are.taken.variables ∙ ap (range_with_len 0) (sym are.taken.each_type))

module _ (bodies : BodiesAreTyped) where
  pub task_typed :
      (P : TypedProgram) (N : Names) (at : Place) (x : Named) (params : Sequence Param) (body : Statements) (y : TypedTask)
      → Agrees N P.classes (length P.tag_types)
      → rules.IsTask N at x params body y
      → 0 < length y.params
      → IsWrittenBody body
      → facts.IsTask P y
  task_typed P N at x params body y agrees h some written =
      let ps : Params = h.0 in
      let ds : TypedStatements = h.1 in
      let t : Scope = h.2 in
      let b : AllStated = record { codes = ds; scope = t } in
      let task : TypedTask = task_of at x ps b in
      let are : AreParams P.classes (length P.tag_types) ps = params_are N P.classes (length P.tag_types) params ps agrees h.3 in
      let classes : List ℕ = map class_in ps.each in
      let start : IsScope None classes ps.scope = are.taken.scope in
      let behind = bodies.behind (in_task N) P.classes (length P.tag_types) classes ps.scope body ds t agrees start (λ e. refl) h.4 in
      let is : IsScope None classes t = behind.0 in
      let size : length ps.each ≡ ps.scope.slots = sym (length-map ps.each class_in) ∙ are.taken.size in
      let first : AreBehind (length ps.each) ps.scope = record { known = are.taken.behind (length ps.each); next = omega (arith, size) } in
      let typed = bodies.typed (in_task N) P.classes (length P.tag_types) classes t.slots t.tags ps.scope body ds t agrees start (λ e. refl) h.4 (omega arith) (omega arith) in
      subst (facts.IsTask P) (sym h.5) record {
        some_params = subst (λ (y : TypedTask). 0 < length y.params) h.5 some;
        few_params = omega (arith, are.taken.few);
        params = All-weaker (IsParamOf P.classes ps.scope.tags) (facts.IsParam P task) (λ p q. param_typed P task ps.scope.tags p are.taken.each_type q) ps.each are.each;
        few_variables = omega (arith, are.taken.each_type, are.taken.few_tags);
        variables = are.taken.types;
        bound = λ v l. are.bound v (omega (arith, are.taken.each_type));
        slots = omega (arith, behind.1);
        tags = omega (arith, behind.2, are.taken.each_type);
        few_names = omega (arith, is.count, is.few);
        behind = assigned_in None t;
        body = subst (λ a. AreTyped (task_setting P task) a ds (assigned_in None t)) (starts_with P.classes (length P.tag_types) at x ps b are) typed;
        fixed = set_behind (length ps.each) (in_task N) ps.scope body ds t first written h.4;
        exits = name_once (in_task N) ps.scope body ds t h.4;
      }
