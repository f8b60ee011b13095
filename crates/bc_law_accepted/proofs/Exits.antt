-- No statement of an accepted task sets a parameter, and a `taskexit` in it names each parameter once.
use Rattle.std.proofs.Common.{◌≡◌, ℕ, ◌==◌, ◌<◌, ◌≤◌, true, false, is_some, List, [], ◌∷◌, ◌++◌, length, map, All, Option, Some, None, refl, ap, sym, ◌∙◌, subst, arith}
use Rattle.std.specs.Prelude.{◌≢◌, slice_index_or}
use Rattle.std.specs.List.{AllByRecursion, flat_map, list_any}
use Rattle.std.proofs.lemmas.Bool.{eq-eqb}
use Rattle.std.proofs.lemmas.Grind.{flat_map-append}
use Rattle.std.proofs.lemmas.List.{append-nil, append_assoc, get_or-map, length-map, map-append}
use Rattle.std.proofs.lemmas.List.Elements.{All-nil, All-push}
use Rattle.std.proofs.lemmas.List.Folds.{list_any_at}
use Rattle.std.proofs.lemmas.List.Quantifiers.{all_pairs_push}
use Rattle.bc_data.specs.SourceTree.{Expression, Var, Field, Elem, Change, ChangeOf, Statement, Let, NewTag, Assign, Do, MakeDo, Block, If, IfElse, While, Return, ReturnValue, Print, Assert, Exit, Statements, Nothing, Then}
use Rattle.bc_data.specs.declared.tree.Named.{Named}
use Rattle.bc_data.specs.declared.tree.ActionText.{ActionText}
use Rattle.bc_data.specs.declared.tree.ActionText.TheVariants as action
use Rattle.bc_data.specs.declared.program.Change as program_change
use Rattle.bc_data.specs.Grammar.{IsTarget}
use Rattle.bc_data.specs.Typed as typed
use Rattle.bc_data.specs.Typed.{TypedExpression, TypedStatement, TypedStatements}
use Rattle.bc_data.specs.TypedExits.{AreParted, HoldsIn, HoldsInAll, IsOfOne, NamesOnce, OfOne, SetsBehind, param_of}
use Rattle.bc_types_rules.specs.Context.{ValueType, Names, Context, Meaning, SlotIs, ParameterIs, TagIs, InScope, Scope, ended, meaning_of, with_slot, with_tag}
use Rattle.bc_types_rules.specs.Statements.{Exiting, Parameter, assignment, is_parameter, none_named, parameter_of, performed}
use Rattle.bc_types_rules.specs.ExpressionRules.{Has, IsSlot}
use Rattle.bc_types_rules.specs.StatementRules.{Acts, Changes, Does, DoAll}
use Rattle.bc_law_accepted.proofs.ScopeLemmas.{each_keeps, every_append, every_found}
use Rattle.bc_law_accepted.proofs.Spelled.{IsWrittenBody, IsWrittenStatement}

-- a slot that is no parameter is behind so many
abbrev pub IsBehind : ℕ → Meaning → Type 0
IsBehind params (SlotIs slot sh) = params ≤ slot
IsBehind params (ParameterIs slot class) = Unit {0}
IsBehind params (TagIs variable tag_type) = Unit {0}

pub record AreBehind (params : ℕ) (s : Scope) : Type 0 where
  pub known : AllByRecursion (λ l. IsBehind params l.meaning) s.known
  pub next : params ≤ s.slots

some_eq : (d e : TypedStatement) → Some d ≡ Some e → d ≡ e
some_eq d e h = cc

-- by its equation, what a statement is
is_so : (Q : TypedStatement → Type 0) (d e : TypedStatement) → d ≡ e → HoldsIn Q e → HoldsIn Q d
is_so Q d e same h = subst (HoldsIn Q) (sym same) h

module _ (params : ℕ) where
  -- an assignment to what has this code
  sets : (u w v : TypedExpression) (d e : TypedStatement) → u ≡ w → assignment u v ≡ Some d → assignment w v ≡ Some e → HoldsIn (SetsBehind params) e → HoldsIn (SetsBehind params) d
  sets u w v d e same h k holds = is_so (SetsBehind params) d e (some_eq d e (sym h ∙ ap (λ u. assignment u v) same ∙ k)) holds

  slot_set : (s : Scope) (x : Named) (m : Meaning) (y : ValueType) (u v : TypedExpression) (d : TypedStatement) → AreBehind params s → meaning_of s x ≡ Some m → IsSlot m y u → is_parameter s (Var x) ≡ false → assignment u v ≡ Some d → HoldsIn (SetsBehind params) d
  slot_set s x (SlotIs slot sh) y u v d w e is other h =
      sets u (typed.Local slot) v d (typed.Set slot v) is.1 h refl (every_found (IsBehind params) s.known x.name (SlotIs slot sh) w.known e)
  slot_set s x (ParameterIs slot class) y u v d w e is other h =
      let parameter : is_parameter s (Var x) ≡ true = ap (λ o. is_some (parameter_of o)) e in
      absurd (differ (sym parameter ∙ other))
    where
      differ : true ≡ false → ⊥
      differ e = cc
  slot_set s x (TagIs variable tag_type) y u v d w e is other h = absurd is

  target_set : (G : Context) (s : Scope) (target : Expression) (y : ValueType) (u v : TypedExpression) (d : TypedStatement) → AreBehind params s → IsTarget target → Has G s target y u → is_parameter s target ≡ false → assignment u v ≡ Some d → HoldsIn (SetsBehind params) d
  target_set G s (Var x) y u v d w is h other e = slot_set s x h.0 y u v d w h.1 h.2 other e
  target_set G s (Field at a x) y u v d w is h other e = sets u (typed.FieldOf at h.2 h.1) v d (typed.SetField at h.2 h.1 v) h.5 e refl tt
  target_set G s (Elem at a i) y u v d w is h other e = sets u (typed.Elem at h.1 h.2) v d (typed.SetElem at h.1 h.2 v) h.6 e refl tt
  target_set G s target y u v d w is h other e = absurd is

  performed_sets : (r : Option ValueType) (c : TypedExpression) → HoldsIn (SetsBehind params) (performed r c)
  performed_sets (Some t) c = tt
  performed_sets None c = tt

  same_scope : (s t : Scope) → AreBehind params s → t ≡ s → AreBehind params t
  same_scope s t w e = subst (AreBehind params) (sym e) w

  block_ends : (s r t : Scope) → AreBehind params s → AreBehind params r → t ≡ ended s r → AreBehind params t
  block_ends s r t w v e = subst (AreBehind params) (sym e) (record { known = w.known; next = v.next })

  one_known : (s : Scope) (l : InScope) → AreBehind params s → IsBehind params l.meaning → AllByRecursion (λ l. IsBehind params l.meaning) (s.known ++ l ∷ [])
  one_known s l w h = every_append (λ (l : InScope). IsBehind params l.meaning) s.known (l ∷ []) w.known (h, tt)

  mutual
    scope_behind : (G : Context) (s : Scope) (x : Statement) (d : TypedStatement) (t : Scope) → AreBehind params s → Does G s x d t → AreBehind params t
    scope_behind G s (Let x e) d t w h =
        let more : AreBehind params (with_slot s x.name h.0) = record { known = one_known s _ w w.next; next = omega (arith, w.next) } in
        same_scope (with_slot s x.name h.0) t more h.8
    scope_behind G s (NewTag at x kind) d t w h =
        let more : AreBehind params (with_tag s x h.0) = record { known = one_known s _ w tt; next = w.next } in
        same_scope (with_tag s x h.0) t more h.5
    scope_behind G s (Assign target e) d t w h = same_scope s t w h.9
    scope_behind G s (Do call) d t w h = same_scope s t w h.4
    scope_behind G s (MakeDo made) d t w h = same_scope s t w h.4
    scope_behind G s (Block at body) d t w h = block_ends s h.1 t w (scopes_behind G s body h.0 h.1 w h.2) h.4
    scope_behind G s (If at test body) d t w h = block_ends s h.2 t w (scopes_behind G s body h.1 h.2 w h.4) h.6
    scope_behind G s (IfElse at test body other) d t w h =
        let first = block_ends s h.3 (ended s h.3) w (scopes_behind G s body h.1 h.3 w h.6) refl in
        block_ends s h.4 t w (scopes_behind G (ended s h.3) other h.2 h.4 first h.7) h.9
    scope_behind G s (While at test body) d t w h = block_ends s h.2 t w (scopes_behind G s body h.1 h.2 w h.4) h.6
    scope_behind G s (Return at) d t w h = same_scope s t w h.4
    scope_behind G s (ReturnValue at e) d t w h = same_scope s t w h.7
    scope_behind G s (Print at items) d t w h = same_scope s t w h.3
    scope_behind G s (Assert at e) d t w h = same_scope s t w h.3
    scope_behind G s (Exit at changes) d t w h = same_scope s t w h.4

    scopes_behind : (G : Context) (s : Scope) (ss : Statements) (ds : TypedStatements) (t : Scope) → AreBehind params s → DoAll G s ss ds t → AreBehind params t
    scopes_behind G s Nothing ds t w h = same_scope s t w h.1
    scopes_behind G s (Then front last) ds t w h = scope_behind G h.1 last h.2 t (scopes_behind G s front h.0 h.1 w h.3) h.4

  mutual
    sets_behind : (G : Context) (s : Scope) (x : Statement) (d : TypedStatement) (t : Scope) → AreBehind params s → IsWrittenStatement x → Does G s x d t → HoldsIn (SetsBehind params) d
    sets_behind G s (Let x e) d t w q h = is_so (SetsBehind params) d _ h.7 w.next
    sets_behind G s (NewTag at x kind) d t w q h = is_so (SetsBehind params) d _ h.4 tt
    sets_behind G s (Assign target e) d t w q h = target_set G s target h.0 h.2 h.3 d w q h.4 h.6 h.8
    sets_behind G s (Do call) d t w q h = is_so (SetsBehind params) d _ h.3 (performed_sets h.0 h.1)
    sets_behind G s (MakeDo made) d t w q h = is_so (SetsBehind params) d _ h.3 tt
    sets_behind G s (Block at body) d t w q h = is_so (SetsBehind params) d _ h.3 (set_behind G s body h.0 h.1 w q h.2)
    sets_behind G s (If at test body) d t w q h = is_so (SetsBehind params) d _ h.5 (set_behind G s body h.1 h.2 w q h.4, tt)
    sets_behind G s (IfElse at test body other) d t w q h =
        let first = block_ends s h.3 (ended s h.3) w (scopes_behind G s body h.1 h.3 w h.6) refl in
        is_so (SetsBehind params) d _ h.8 (set_behind G s body h.1 h.3 w q.0 h.6, set_behind G (ended s h.3) other h.2 h.4 first q.1 h.7)
    sets_behind G s (While at test body) d t w q h = is_so (SetsBehind params) d _ h.5 (set_behind G s body h.1 h.2 w q h.4)
    sets_behind G s (Return at) d t w q h = is_so (SetsBehind params) d _ h.3 tt
    sets_behind G s (ReturnValue at e) d t w q h = is_so (SetsBehind params) d _ h.6 tt
    sets_behind G s (Print at items) d t w q h = is_so (SetsBehind params) d _ h.2 tt
    sets_behind G s (Assert at e) d t w q h = is_so (SetsBehind params) d _ h.2 tt
    sets_behind G s (Exit at changes) d t w q h = is_so (SetsBehind params) d _ h.3 tt

    pub set_behind : (G : Context) (s : Scope) (ss : Statements) (ds : TypedStatements) (t : Scope) → AreBehind params s → IsWrittenBody ss → DoAll G s ss ds t → HoldsInAll (SetsBehind params) ds
    set_behind G s Nothing ds t w q h = subst (HoldsInAll (SetsBehind params)) (sym h.0) tt
    set_behind G s (Then front last) ds t w q h =
        subst (HoldsInAll (SetsBehind params)) (sym h.5)
        (set_behind G s front h.0 h.1 w q.0 h.3, sets_behind G h.1 last h.2 t (scopes_behind G s front h.0 h.1 w h.3) q.1 h.4)

-- the changes of a parameter behind others
record AreMore (param : ℕ) (before after : List program_change.Change) : Type 0 where
  pub more : List program_change.Change
  pub all : after ≡ before ++ more
  pub each : All (λ c. param_of c ≡ param) more

one_more : (param : ℕ) (first before after : List program_change.Change) (c : program_change.Change) → AreMore param first before → param_of c ≡ param → after ≡ before ++ c ∷ [] → AreMore param first after
one_more param first before after c w is e = record {
  more = w.more ++ c ∷ [];
  all = e ∙ ap (λ cs. cs ++ c ∷ []) w.all ∙ append_assoc first w.more (c ∷ []);
  each = All-push (λ c. param_of c ≡ param) w.more c w.each is;
}

action_more : (N : Names) (s : Scope) (p : Parameter) (first before : List program_change.Change) (x : ActionText) (after : List program_change.Change) → AreMore p.number first before → Acts N s p before x after → AreMore p.number first after
action_more N s p first before (action.Flag x b) after w h = one_more p.number first before after _ w refl h.2
action_more N s p first before (action.Add at x) after w h = one_more p.number first before after _ w refl h.2
action_more N s p first before (action.Clear at x) after w h = one_more p.number first before after _ w refl h.2

-- what a `taskexit` has so far
record AreSoFar (x : Exiting) : Type 0 where
  pub parts : List OfOne
  pub are : AreParted x.changes parts
  pub named : x.named ≡ map (λ (g : OfOne). g.param) parts

-- a parameter that isn't named is another than each that is
other_param : (parts : List OfOne) (n : ℕ) → list_any (λ m. m == n) (map (λ (g : OfOne). g.param) parts) ≡ false → (k : ℕ) (d : OfOne) → k < length parts → (slice_index_or parts k d).param ≢ n
other_param parts n none k d within same =
    let param = λ (g : OfOne). g.param in
    let here : slice_index_or (map param parts) k (param d) ≡ n = get_or-map param parts k d (param d) within ∙ same in
    let found = list_any_at (λ m. m == n) (map param parts) k (param d) (omega (arith, length-map parts param)) (eq-eqb _ n here) in
    differ (sym found ∙ none)
  where
    differ : true ≡ false → ⊥
    differ e = cc

change_parted : (N : Names) (s : Scope) (x : Exiting) (c : Change) (y : Exiting) → AreSoFar x → Changes N s x c y → AreSoFar y
change_parted N s x (ChangeOf param actions) y w h =
    let p : Parameter = h.0 in
    let none : AreMore p.number x.changes x.changes = record { more = []; all = sym (append-nil x.changes); each = All-nil (λ c. param_of c ≡ p.number) } in
    let m = each_keeps (AreMore p.number x.changes) (Acts N s p) (action_more N s p x.changes) x.changes actions h.1 none h.4 in
    let g : OfOne = record { param = p.number; changes = m.more } in
    let unnamed : list_any (λ n. n == p.number) (map (λ (g : OfOne). g.param) w.parts) ≡ false = ap (list_any (λ n. n == p.number)) (sym w.named) ∙ h.3 in
    subst AreSoFar (sym h.5) record {
      parts = w.parts ++ g ∷ [];
      are = record {
        all =
            m.all
            ∙ ap (λ cs. cs ++ m.more) w.are.all
            ∙ ap (λ cs. flat_map (λ (g : OfOne). g.changes) w.parts ++ cs) (sym (append-nil m.more))
            ∙ sym (flat_map-append (λ (g : OfOne). g.changes) w.parts (g ∷ []));
        each = All-push IsOfOne w.parts g w.are.each m.each;
        once = all_pairs_push (λ (g h : OfOne). g.param ≢ h.param) w.parts g w.are.once (other_param w.parts p.number unnamed);
      };
      named = ap (λ ns. ns ++ p.number ∷ []) w.named ∙ sym (map-append (λ (g : OfOne). g.param) w.parts (g ∷ []));
    }

none_parted : AreSoFar none_named
none_parted = record {
  parts = [];
  are = record { all = refl; each = All-nil IsOfOne; once = λ i j d a b. absurd (omega arith) };
  named = refl;
}

performed_names : (r : Option ValueType) (c : TypedExpression) → HoldsIn NamesOnce (performed r c)
performed_names (Some t) c = tt
performed_names None c = tt

assigned_names : (u v : TypedExpression) (d : TypedStatement) → assignment u v ≡ Some d → HoldsIn NamesOnce d
assigned_names (typed.Local slot) v d e = is_so NamesOnce d _ (sym (some_eq _ d e)) tt
assigned_names (typed.FieldOf at object field) v d e = is_so NamesOnce d _ (sym (some_eq _ d e)) tt
assigned_names (typed.Elem at array index) v d e = is_so NamesOnce d _ (sym (some_eq _ d e)) tt
assigned_names u v d e = cc

mutual
  names_once : (G : Context) (s : Scope) (x : Statement) (d : TypedStatement) (t : Scope) → Does G s x d t → HoldsIn NamesOnce d
  names_once G s (Let x e) d t h = is_so NamesOnce d _ h.7 tt
  names_once G s (NewTag at x kind) d t h = is_so NamesOnce d _ h.4 tt
  names_once G s (Assign target e) d t h = assigned_names h.2 h.3 d h.8
  names_once G s (Do call) d t h = is_so NamesOnce d _ h.3 (performed_names h.0 h.1)
  names_once G s (MakeDo made) d t h = is_so NamesOnce d _ h.3 tt
  names_once G s (Block at body) d t h = is_so NamesOnce d _ h.3 (name_once G s body h.0 h.1 h.2)
  names_once G s (If at test body) d t h = is_so NamesOnce d _ h.5 (name_once G s body h.1 h.2 h.4, tt)
  names_once G s (IfElse at test body other) d t h = is_so NamesOnce d _ h.8 (name_once G s body h.1 h.3 h.6, name_once G (ended s h.3) other h.2 h.4 h.7)
  names_once G s (While at test body) d t h = is_so NamesOnce d _ h.5 (name_once G s body h.1 h.2 h.4)
  names_once G s (Return at) d t h = is_so NamesOnce d _ h.3 tt
  names_once G s (ReturnValue at e) d t h = is_so NamesOnce d _ h.6 tt
  names_once G s (Print at items) d t h = is_so NamesOnce d _ h.2 tt
  names_once G s (Assert at e) d t h = is_so NamesOnce d _ h.2 tt
  names_once G s (Exit at changes) d t h =
      let w = each_keeps AreSoFar (Changes G.names s) (change_parted G.names s) none_named changes h.0 none_parted h.2 in
      is_so NamesOnce d (typed.Exit h.0.changes) h.3 (w.parts, w.are)

  pub name_once : (G : Context) (s : Scope) (ss : Statements) (ds : TypedStatements) (t : Scope) → DoAll G s ss ds t → HoldsInAll NamesOnce ds
  name_once G s Nothing ds t h = subst (HoldsInAll NamesOnce) (sym h.0) tt
  name_once G s (Then front last) ds t h = subst (HoldsInAll NamesOnce) (sym h.5) (name_once G s front h.0 h.1 h.3, names_once G h.1 last h.2 t h.4)
