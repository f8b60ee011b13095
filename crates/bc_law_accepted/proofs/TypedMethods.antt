-- Methods and constructors that the rules accept are well typed, as their bodies are.
use Rattle.std.proofs.Common.{◌≡◌, ℕ, ◌+◌, ◌<◌, ◌≤◌, Bool, true, false, List, [], ◌∷◌, ◌++◌, length, All, Option, Some, None, refl, ap, sym, ◌∙◌, subst, arith}
use Rattle.std.specs.List.{filter_map}
use Rattle.std.proofs.lemmas.List.{length-append}
use Rattle.std.proofs.lemmas.List.Elements.{All-push, filter_map-append}
use Rattle.bc_data.specs.SourceTree.{Sequence, Statement, Let, NewTag, Assign, Do, MakeDo, Block, If, IfElse, While, Return, ReturnValue, Print, Assert, Exit, Statements, Nothing, Then, Method, MethodOf}
use Rattle.bc_data.specs.declared.tree.Named.{Named}
use Rattle.bc_data.specs.declared.tree.TypeText.{TypeText}
use Rattle.bc_data.specs.declared.tree.Base.{Base}
use Rattle.bc_data.specs.declared.tree.Base.TheVariants as base
use Rattle.bc_data.specs.declared.tree.Formal.{Formal}
use Rattle.bc_data.specs.declared.program.Shape.{Shape}
use Rattle.bc_data.specs.declared.program.Shape.TheVariants as shape
use Rattle.bc_data.specs.Shapes.{IsDeclared}
use Rattle.bc_data.specs.Typed.{TypedStatement, TypedStatements, TypedClass, TypedMethod, TypedProgram}
use Rattle.bc_data.specs.TypedBodies.{AssignedSlot, AreTyped}
use Rattle.bc_data.specs.WellTyped as facts
use Rattle.bc_data.specs.WellTyped.{slots_from, method_setting, method_start}
use Rattle.bc_types_rules.specs.Context.{Known, Names, Context, SlotIs, InScope, Scope, method_scope, base_type, class_type}
use Rattle.bc_types_rules.specs.Statements.{AllStated, all_leave}
use Rattle.bc_types_rules.specs.Bodies.{Formals, no_formals, with_formal, in_class, method_of}
use Rattle.bc_types_rules.specs.ExpressionRules.{Each}
use Rattle.bc_types_rules.specs.StatementRules.{Does, DoAll}
use Rattle.bc_types_rules.specs.ProgramRules as rules
use Rattle.bc_types_rules.specs.ProgramRules.{IsShape, IsResult, Returns, TakesFormal}
use Rattle.bc_law_accepted.proofs.Agreement.{Agrees}
use Rattle.bc_law_accepted.proofs.Scopes.{IsScope, slot_in, variable_in, assigned_in}
use Rattle.bc_law_accepted.proofs.Bodies.{BodiesAreTyped}
use Rattle.bc_law_accepted.proofs.ScopeLemmas.{each_keeps, slot_scope}

-- what a text names is declared
class_declared : (n : ℕ) (many : Bool) (name : List ℕ) (o : Option ℕ) (sh : Shape) → ((c : ℕ) → o ≡ Some c → c < n) → class_type many name o ≡ Known sh → IsDeclared n sh
class_declared n true name (Some c) sh below h = let same : shape.Objects c ≡ sh = cc in subst (IsDeclared n) same (below c refl)
class_declared n false name (Some c) sh below h = let same : shape.Class c ≡ sh = cc in subst (IsDeclared n) same (below c refl)
class_declared n many name None sh below h = cc

base_declared : (n : ℕ) (class_of : List ℕ → Option ℕ) (b : Base) (many : Bool) (sh : Shape) → ((name : List ℕ) (c : ℕ) → class_of name ≡ Some c → c < n) → base_type class_of b many ≡ Known sh → IsDeclared n sh
base_declared n class_of base.Int true sh below h = let same : shape.Ints ≡ sh = cc in subst (IsDeclared n) same tt
base_declared n class_of base.Int false sh below h = let same : shape.Int ≡ sh = cc in subst (IsDeclared n) same tt
base_declared n class_of base.Bool true sh below h = let same : shape.Bools ≡ sh = cc in subst (IsDeclared n) same tt
base_declared n class_of base.Bool false sh below h = let same : shape.Bool ≡ sh = cc in subst (IsDeclared n) same tt
base_declared n class_of (base.Class name) many sh below h = class_declared n many name (class_of name) sh (below name) h

pub shape_declared : (N : Names) (K : List TypedClass) (tag_types : ℕ) (t : TypeText) (sh : Shape) → Agrees N K tag_types → IsShape N t sh → IsDeclared (length K) sh
shape_declared N K tag_types t sh agrees h = base_declared (length K) N.class_of t.base t.many sh agrees.class h

-- a method declares no tag variables
mutual
  no_tag : (G : Context) (me : ℕ) (s : Scope) (x : Statement) (d : TypedStatement) (t : Scope) → G.me ≡ Some me → Does G s x d t → t.tags ≡ s.tags
  no_tag G me s (Let x e) d t is h = ap (λ (t : Scope). t.tags) h.8
  no_tag G me s (NewTag at x kind) d t is h = cc
  no_tag G me s (Assign target e) d t is h = ap (λ (t : Scope). t.tags) h.9
  no_tag G me s (Do call) d t is h = ap (λ (t : Scope). t.tags) h.4
  no_tag G me s (MakeDo made) d t is h = ap (λ (t : Scope). t.tags) h.4
  no_tag G me s (Block at body) d t is h = ap (λ (t : Scope). t.tags) h.4 ∙ no_tags G me s body h.0 h.1 is h.2
  no_tag G me s (If at test body) d t is h = ap (λ (t : Scope). t.tags) h.6 ∙ no_tags G me s body h.1 h.2 is h.4
  no_tag G me s (IfElse at test body other) d t is h =
      ap (λ (t : Scope). t.tags) h.9 ∙ no_tags G me _ other h.2 h.4 is h.7 ∙ no_tags G me s body h.1 h.3 is h.6
  no_tag G me s (While at test body) d t is h = ap (λ (t : Scope). t.tags) h.6 ∙ no_tags G me s body h.1 h.2 is h.4
  no_tag G me s (Return at) d t is h = ap (λ (t : Scope). t.tags) h.4
  no_tag G me s (ReturnValue at e) d t is h = ap (λ (t : Scope). t.tags) h.7
  no_tag G me s (Print at items) d t is h = ap (λ (t : Scope). t.tags) h.3
  no_tag G me s (Assert at e) d t is h = ap (λ (t : Scope). t.tags) h.3
  no_tag G me s (Exit at changes) d t is h = ap (λ (t : Scope). t.tags) h.4

  no_tags : (G : Context) (me : ℕ) (s : Scope) (ss : Statements) (ds : TypedStatements) (t : Scope) → G.me ≡ Some me → DoAll G s ss ds t → t.tags ≡ s.tags
  no_tags G me s Nothing ds t is h = ap (λ (t : Scope). t.tags) h.1
  no_tags G me s (Then front last) ds t is h = no_tag G me h.1 last h.2 t is h.4 ∙ no_tags G me s front h.0 h.1 is h.3

-- the slots behind those of a list
pub slots_push : (n : ℕ) (shs : List Shape) (sh : Shape) (m : ℕ) → n + length shs ≡ m → slots_from n (shs ++ sh ∷ []) ≡ slots_from n shs ++ record { slot = m; shape = sh } ∷ []
slots_push n [] sh m e = ap (λ m. record { slot = m; shape = sh } ∷ []) (let same : n ≡ m = omega arith in same)
slots_push n (x ∷ xs) sh m e = ap (λ ss. record { slot = n; shape = x } ∷ ss) (slots_push (n + 1) xs sh m (omega arith))

-- the formals so far
record AreFormals (classes : ℕ) (me : ℕ) (fs : Formals) : Type 0 where
  pub scope : IsScope (Some me) [] fs.scope
  pub declared : All (IsDeclared classes) fs.shapes
  pub size : fs.scope.slots ≡ length fs.shapes + 1
  pub count : fs.scope.count ≡ length fs.shapes
  pub few : length fs.shapes ≤ 16
  pub no_tags : fs.scope.tags ≡ 0
  pub slots : filter_map (λ (l : InScope). slot_in l.meaning) fs.scope.known ≡ slots_from 1 fs.shapes
  pub no_variables : filter_map (λ (l : InScope). variable_in l.meaning) fs.scope.known ≡ []

first_scope : (me : ℕ) → IsScope (Some me) [] method_scope
first_scope me = record { known = tt; above = tt; apart = tt; count = omega arith; this = omega arith; few = omega arith }

none_so_far : (classes me : ℕ) → AreFormals classes me no_formals
none_so_far classes me = record {
  scope = first_scope me;
  declared = λ k d h. absurd (omega arith);
  size = refl;
  count = refl;
  few = omega arith;
  no_tags = refl;
  slots = refl;
  no_variables = refl;
}

formal_more : (classes me : ℕ) (fs : Formals) (x : Named) (sh : Shape) → AreFormals classes me fs → IsDeclared classes sh → fs.scope.count < 16 → AreFormals classes me (with_formal fs x sh)
formal_more classes me fs x sh are declared few =
    let size = length-append fs.shapes (sh ∷ []) in
    let l : InScope = record { name = x.name; meaning = SlotIs fs.scope.slots sh } in record {
      scope = slot_scope (Some me) [] fs.scope are.scope (omega arith) x sh;
      declared = All-push (IsDeclared classes) fs.shapes sh are.declared declared;
      size = omega arith;
      count = omega arith;
      few = omega arith;
      no_tags = are.no_tags;
      slots =
          filter_map-append (λ (l : InScope). slot_in l.meaning) fs.scope.known (l ∷ [])
          ∙ ap (λ ss. ss ++ record { slot = fs.scope.slots; shape = sh } ∷ []) are.slots
          ∙ sym (slots_push 1 fs.shapes sh fs.scope.slots (omega arith));
      no_variables =
          filter_map-append (λ (l : InScope). variable_in l.meaning) fs.scope.known (l ∷ [])
          ∙ ap (λ vs. vs ++ []) are.no_variables;
    }

formals_are :
    (N : Names) (K : List TypedClass) (tag_types me : ℕ) (formals : Sequence Formal) (fs : Formals)
    → Agrees N K tag_types
    → Each (TakesFormal N) no_formals formals fs
    → AreFormals (length K) me fs
formals_are N K tag_types me formals fs agrees h = each_keeps (AreFormals (length K) me) (TakesFormal N) one no_formals formals fs (none_so_far (length K) me) h
  where
    one : (fs : Formals) (x : Formal) (gs : Formals) → AreFormals (length K) me fs → TakesFormal N fs x gs → AreFormals (length K) me gs
    one fs x gs are h = subst (AreFormals (length K) me) (sym h.4) (formal_more (length K) me fs x.name h.0 are (shape_declared N K tag_types x.kind h.0 agrees h.1) h.3)

result_declared : (N : Names) (K : List TypedClass) (tag_types : ℕ) (t : Option TypeText) (r : Option Shape) → Agrees N K tag_types → IsResult N t r → (sh : Shape) → r ≡ Some sh → IsDeclared (length K) sh
result_declared N K tag_types None r agrees h sh e = cc
result_declared N K tag_types (Some t) r agrees h sh e =
    let same : h.0 ≡ sh = cc in
    subst (IsDeclared (length K)) same (shape_declared N K tag_types t h.0 agrees h.1)

must_leave : (r : Option Shape) (body : Statements) (sh : Shape) → Returns r body → r ≡ Some sh → all_leave body ≡ true
must_leave None body sh h e = cc
must_leave (Some other) body sh h e = h

starts_with : (classes me : ℕ) (x : Named) (fs : Formals) (r : Option Shape) (b : AllStated) → AreFormals classes me fs → assigned_in (Some me) fs.scope ≡ method_start me (method_of x fs r b)
starts_with classes me x fs r b are =
    let this : AssignedSlot = record { slot = 0; shape = shape.Class me } in
    ap (λ ss. record { slots = this ∷ ss; tags = filter_map (λ (l : InScope). variable_in l.meaning) fs.scope.known }) are.slots
    ∙ ap (λ vs. record { slots = this ∷ slots_from 1 fs.shapes; tags = vs }) are.no_variables

module _ (bodies : BodiesAreTyped) where
  pub method_typed : (P : TypedProgram) (N : Names) (me : ℕ) (m : Method) (y : TypedMethod) → Agrees N P.classes (length P.tag_types) → rules.IsMethod N me m y → facts.IsMethod P me y
  method_typed P N me (MethodOf result x formals body) y agrees h =
      let r : Option Shape = h.0 in
      let fs : Formals = h.1 in
      let ds : TypedStatements = h.2 in
      let t : Scope = h.3 in
      let b : AllStated = record { codes = ds; scope = t } in
      let are : AreFormals (length P.classes) me fs = formals_are N P.classes (length P.tag_types) me formals fs agrees h.5 in
      let G : Context = in_class N me r in
      let behind = bodies.behind G P.classes (length P.tag_types) [] fs.scope body ds t agrees are.scope (λ e. cc) h.6 in
      let is : IsScope (Some me) [] t = behind.0 in
      let none : t.tags ≡ 0 = no_tags G me fs.scope body ds t refl h.6 ∙ are.no_tags in
      let typed = bodies.typed G P.classes (length P.tag_types) [] t.slots 0 fs.scope body ds t agrees are.scope (λ e. cc) h.6 (omega arith) (omega arith) in
      subst (facts.IsMethod P me) (sym h.8) record {
        few_formals = are.few;
        formals = are.declared;
        result = result_declared N P.classes (length P.tag_types) result r agrees h.4;
        slots = omega (arith, behind.1, are.size);
        few_slots = omega (arith, is.count, is.few);
        behind = assigned_in (Some me) t;
        body = subst (λ a. AreTyped (method_setting P (method_of x fs r b)) a ds (assigned_in (Some me) t)) (starts_with (length P.classes) me x fs r b are) typed;
        leaves = λ sh e. bodies.leaves G fs.scope body ds t h.6 (must_leave r body sh h.7 e);
      }

  -- a constructor's text names no result
  pub maker_typed :
      (P : TypedProgram) (N : Names) (me : ℕ) (name : List ℕ) (result : Option TypeText) (x : Named) (formals : Sequence Formal) (body : Statements) (y : TypedMethod)
      → Agrees N P.classes (length P.tag_types)
      → result ≡ None
      → rules.IsMaker N me name (MethodOf result x formals body) y
      → facts.IsMaker P me y
  maker_typed P N me name (Some t) x formals body y agrees none h = cc
  maker_typed P N me name None x formals body y agrees none h = record {
    method = method_typed P N me (MethodOf None x formals body) y agrees h.1;
    result = ap (λ (y : TypedMethod). y.result) h.1.8 ∙ h.1.4;
  }
