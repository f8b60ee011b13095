-- Statements in order, and what scopes keep.
use Rattle.std.proofs.Common.{◌≡◌, ℕ, ◌+◌, ◌<◌, Some, None, List, [], ◌∷◌, ◌++◌, length, take, drop, get_or, Bool, true, false, not, is_some, refl, ap, sym, ◌∙◌, subst, append_assoc, arith}
use Rattle.std.specs.Prelude.{nat_lt}
use Rattle.std.proofs.lemmas.List.{take_more, take-append-drop, take-append-le, take_all, append-nil}
use Rattle.bc_data.specs.SourceTree.{Statement, Let, NewTag, Assign, Do, MakeDo, Block, If, IfElse, While, Return, ReturnValue, Print, Assert, Exit, Statements, Nothing, Then}
use Rattle.bc_data.specs.View.{view_stat, stat_views}
use Rattle.bc_data.specs.declared.run.Place.{Place}
use Rattle.bc_data.specs.declared.tree.StatText.{StatText}
use Rattle.bc_data.specs.declared.program.Stat.{Stat}
use Rattle.bc_types_rules.specs.Got.{Got, Gives, Fails, Kind, Twice, TooMany, Unknown, Mismatch, Fixed, Misplaced, ask, find, ◌>>=◌}
use Rattle.bc_data.specs.Typed as typed
use Rattle.bc_data.specs.Typed.{TypedStatements}
use Rattle.bc_types_rules.specs.Numbering.{try_fold}
use Rattle.bc_types_rules.specs.Expressions.{infer, place_of}
use Rattle.bc_types_rules.specs.Context.{Known, Context, InScope, Scope, is_free, with_slot, with_tag, declare_tag, ended, shape_at, fits, is_bool}
use Rattle.bc_types_rules.specs.Statements.{Stated, AllStated, is_parameter, assignment, infer_call, read_item, check_parts, none_named, check_change, state, state_all}
use Rattle.bc_data.specs.ProgramView.{view_program_stat, program_stat_views}
use Rattle.bc_names.specs.Answers.{Stops, kind_of}
use Rattle.bc_names.specs.declared.fault.TypeFault.{TypeFault}
use Rattle.bc_names.specs.declared.fault.TypeFault.TheVariants as fault
use Rattle.bc_types_expr.specs.Scopes.{with_first}
use Rattle.bc_types_stat.specs.Bodies.{stated, all_stated, block_of}
use Rattle.bc_types_stat.proofs.Chains.{goes_on, stops_then}

stat_views-append : (xs ys : List StatText) (front : Statements) → stat_views (xs ++ ys) front ≡ stat_views ys (stat_views xs front)
stat_views-append [] ys front = refl
stat_views-append (x ∷ xs) ys front = stat_views-append xs ys (Then front (view_stat x))

codes-push : (xs : List Stat) (x : Stat) (front : TypedStatements) → program_stat_views (xs ++ x ∷ []) front ≡ typed.Then (program_stat_views xs front) (view_program_stat x)
codes-push [] x front = refl
codes-push (y ∷ ys) x front = codes-push ys x (typed.Then front (view_program_stat y))

-- what is behind a fault isn't looked at
fails_on : (G : Context) (s : Scope) (xs : List StatText) (front : Statements) (kind : Kind) (at : Place) → state_all G s front ≡ Fails kind at → state_all G s (stat_views xs front) ≡ Fails kind at
fails_on G s [] front kind at e = e
fails_on G s (x ∷ xs) front kind at e = fails_on G s xs (Then front (view_stat x)) kind at (ap (λ g. g >>= λ ys. (state G ys.scope (view_stat x) >>= λ y. Gives (all_stated (typed.Then ys.codes y.code) y.scope))) e)

-- the statements of a list
abbrev pub all_of : Context → Scope → List StatText → Got AllStated
all_of G s xs = state_all G s (stat_views xs Nothing)

module _ (G : Context) (s t : Scope) (ds : TypedStatements) (xs : List StatText) (i : ℕ) (x : StatText) where
  more : i < length xs → x ≡ get_or xs i x → all_of G s (take i xs) ≡ Gives (all_stated ds t) → all_of G s (take (i + 1) xs) ≡ (state G t (view_stat x) >>= λ y. Gives (all_stated (typed.Then ds y.code) y.scope))
  more within is e =
      ap (all_of G s) (take_more xs i x within)
      ∙ ap (state_all G s) (stat_views-append (take i xs) (get_or xs i x ∷ []) Nothing)
      ∙ ap (λ v. state_all G s (Then (stat_views (take i xs) Nothing) (view_stat v))) (sym is)
      ∙ ap (λ g. g >>= λ ys. (state G ys.scope (view_stat x) >>= λ y. Gives (all_stated (typed.Then ys.codes y.code) y.scope))) e

  all_stops : (f : TypeFault) → i < length xs → x ≡ get_or xs i x → all_of G s (take i xs) ≡ Gives (all_stated ds t) → Stops f (state G t (view_stat x)) → Stops f (all_of G s xs)
  all_stops fault.Memory within is e stop = tt
  all_stops (fault.Refused kind at) within is e stop =
      ap (all_of G s) (sym (take-append-drop (i + 1) xs))
      ∙ ap (state_all G s) (stat_views-append (take (i + 1) xs) (drop (i + 1) xs) Nothing)
      ∙ fails_on G s (drop (i + 1) xs) (stat_views (take (i + 1) xs) Nothing) (kind_of kind) at (more within is e ∙ ap (λ g. g >>= λ y. Gives (all_stated (typed.Then ds y.code) y.scope)) stop)

-- one statement more
pub all_on : (G : Context) (s t u : Scope) (ds es : List Stat) (d : Stat) (xs : List StatText) (i : ℕ) (x : StatText) → i < length xs → x ≡ get_or xs i x → all_of G s (take i xs) ≡ Gives (all_stated (program_stat_views ds typed.Nothing) t) → state G t (view_stat x) ≡ Gives (stated (view_program_stat d) u) → es ≡ ds ++ d ∷ [] → all_of G s (take (i + 1) xs) ≡ Gives (all_stated (program_stat_views es typed.Nothing) u)
all_on G s t u ds es d xs i x within is e next p =
    more G s t (program_stat_views ds typed.Nothing) xs i x within is e
    ∙ ap (λ g. g >>= λ y. Gives (all_stated (typed.Then (program_stat_views ds typed.Nothing) y.code) y.scope)) next
    ∙ ap (λ c. Gives (all_stated c u)) (sym (codes-push ds d typed.Nothing) ∙ ap (λ l. program_stat_views l typed.Nothing) (sym p))

-- a fault of a statement is its block's
pub block_fails : (f : TypeFault) (G : Context) (s t : Scope) (ds : TypedStatements) (xs : List StatText) (i : ℕ) (x : StatText) → i < length xs → x ≡ get_or xs i x → all_of G s (take i xs) ≡ Gives (all_stated ds t) → Stops f (state G t (view_stat x)) → Stops f (block_of G s (stat_views xs Nothing))
block_fails f G s t ds xs i x within is e stop = stops_then f (all_of G s xs) (λ ys. Gives (all_stated ys.codes (ended s ys.scope))) (all_stops G s t ds xs i x f within is e stop)

-- what is in scope stays in scope
abbrev Extends : List InScope → List InScope → Type 0
Extends a b = (more : List InScope) × (b ≡ a ++ more)

same : (a : List InScope) → Extends a a
same a = ([], sym (append-nil a))

extends_on : (a b c : List InScope) → Extends a b → Extends b c → Extends a c
extends_on a b c h i = (h.0 ++ i.0, i.1 ∙ ap (λ l. l ++ i.0) h.1 ∙ append_assoc a h.0 i.0)

abbrev Keeps : Scope → Got Stated → Type 0
Keeps s (Gives x) = Extends s.known x.scope.known
Keeps s (Fails kind at) = Unit {0}

keep_then : {A : Type 0} (s : Scope) (g : Got A) (go : A → Got Stated) → ((x : A) → Keeps s (go x)) → Keeps s (g >>= go)
keep_then s (Gives x) go h = h x
keep_then s (Fails kind at) go h = tt

keep_declared : (s t : Scope) (a b : Bool) (kind kind_2 : Kind) (at : Place) (go : Scope → Got Stated) → Keeps s (go t) → Keeps s (((ask a kind at >>= λ _. ask b kind_2 at) >>= λ _. Gives t) >>= go)
keep_declared s t true true kind kind_2 at go h = h
keep_declared s t true false kind kind_2 at go h = tt
keep_declared s t false b kind kind_2 at go h = tt

one_more : (s : Scope) (l : InScope) → Extends s.known (s.known ++ l ∷ [])
one_more s l = (l ∷ [], refl)

keeps : (G : Context) (s : Scope) (c : Statement) → Keeps s (state G s c)
keeps G s (Let x e) =
    keep_then s (shape_at G.names x.kind) _ (λ sh. keep_then s (infer G s e) _ (λ v.
    keep_declared s (with_slot s x.name sh) (is_free s x.name) (nat_lt s.count 256) Twice TooMany x.name.at _
    (keep_then s (ask (fits v.type (Known sh)) Mismatch (place_of e)) (λ _. Gives (stated (typed.Set s.slots v.code) (with_slot s x.name sh))) (λ _. one_more s _))))
keeps G s (NewTag at x kind) =
    keep_then s (ask (not (is_some G.me)) Misplaced at) (λ _. (find (G.names.tag_type_of kind.name) Unknown kind.at >>= λ k. (declare_tag s x k >>= λ t. Gives (stated (typed.NewTag at s.tags k) t)))) (λ _.
    keep_then s (find (G.names.tag_type_of kind.name) Unknown kind.at) _ (λ k.
    keep_declared s (with_tag s x k) (is_free s x) (nat_lt s.count 256) Twice TooMany x.at _ (one_more s _)))
keeps G s (Assign target e) =
    keep_then s (infer G s target) _ (λ y. keep_then s (infer G s e) _ (λ v.
    keep_then s (ask (not (is_parameter s target)) Fixed (place_of target)) (λ _. (ask (fits v.type y.type) Mismatch (place_of e) >>= λ _. (find (assignment y.code v.code) Mismatch (place_of target) >>= λ d. Gives (stated d s)))) (λ _.
    keep_then s (ask (fits v.type y.type) Mismatch (place_of e)) (λ _. (find (assignment y.code v.code) Mismatch (place_of target) >>= λ d. Gives (stated d s))) (λ _.
    keep_then s (find (assignment y.code v.code) Mismatch (place_of target)) _ (λ d. same s.known)))))
keeps G s (Do call) = keep_then s (infer_call G s call) _ (λ z. same s.known)
keeps G s (MakeDo made) = keep_then s (infer G s made) _ (λ x. same s.known)
keeps G s (Block at body) = keep_then s (state_all G s body) _ (λ xs. same s.known)
keeps G s (If at test body) = keep_then s (infer G s test) _ (λ c. keep_then s (state_all G s body) _ (λ xs.
    keep_then s (ask (is_bool c.type) Mismatch (place_of test)) (λ _. Gives (stated (typed.If c.code xs.codes typed.Nothing) (ended s xs.scope))) (λ _. same s.known)))
keeps G s (IfElse at test body other) = keep_then s (infer G s test) _ (λ c. keep_then s (state_all G s body) _ (λ xs. keep_then s (state_all G (ended s xs.scope) other) _ (λ ys.
    keep_then s (ask (is_bool c.type) Mismatch (place_of test)) (λ _. Gives (stated (typed.If c.code xs.codes ys.codes) (ended s ys.scope))) (λ _. same s.known))))
keeps G s (While at test body) = keep_then s (infer G s test) _ (λ c. keep_then s (state_all G s body) _ (λ xs.
    keep_then s (ask (is_bool c.type) Mismatch (place_of test)) (λ _. Gives (stated (typed.While at c.code xs.codes) (ended s xs.scope))) (λ _. same s.known)))
keeps G s (Return at) =
    keep_then s (ask (is_some G.me) Misplaced at) (λ _. (ask (not (is_some G.result)) Mismatch at >>= λ _. Gives (stated (typed.Return None) s))) (λ _.
    keep_then s (ask (not (is_some G.result)) Mismatch at) (λ _. Gives (stated (typed.Return None) s)) (λ _. same s.known))
keeps G s (ReturnValue at e) = keep_then s (infer G s e) _ (λ v. keep_then s (find G.result Misplaced at) _ (λ sh.
    keep_then s (ask (fits v.type (Known sh)) Mismatch (place_of e)) (λ _. Gives (stated (typed.Return (Some v.code)) s)) (λ _. same s.known)))
keeps G s (Print at items) = keep_then s (try_fold (read_item G s) [] items) _ (λ xs. keep_then s (check_parts xs) _ (λ ps. same s.known))
keeps G s (Assert at e) = keep_then s (infer G s e) _ (λ x. keep_then s (ask (is_bool x.type) Mismatch (place_of e)) (λ _. Gives (stated (typed.Assert at x.code) s)) (λ _. same s.known))
keeps G s (Exit at changes) =
    keep_then s (ask (not (is_some G.me)) Misplaced at) (λ _. (try_fold (check_change G.names s) none_named changes >>= λ x. Gives (stated (typed.Exit x.changes) s))) (λ _.
    keep_then s (try_fold (check_change G.names s) none_named changes) _ (λ x. same s.known))

abbrev KeepsAll : Scope → Got AllStated → Type 0
KeepsAll s (Gives x) = Extends s.known x.scope.known
KeepsAll s (Fails kind at) = Unit {0}

keep_last : (s : Scope) (xs : AllStated) (g : Got Stated) → Extends s.known xs.scope.known → Keeps xs.scope g → KeepsAll s (g >>= λ x. Gives (all_stated (typed.Then xs.codes x.code) x.scope))
keep_last s xs (Gives x) h i = extends_on s.known xs.scope.known x.scope.known h i
keep_last s xs (Fails kind at) h i = tt

keep_front : (s : Scope) (g : Got AllStated) (go : AllStated → Got AllStated) → KeepsAll s g → ((xs : AllStated) → Extends s.known xs.scope.known → KeepsAll s (go xs)) → KeepsAll s (g >>= go)
keep_front s (Gives xs) go h i = i xs h
keep_front s (Fails kind at) go h i = tt

keeps_all : (G : Context) (s : Scope) (cs : Statements) → KeepsAll s (state_all G s cs)
keeps_all G s Nothing = same s.known
keeps_all G s (Then front last) = keep_front s (state_all G s front) _ (keeps_all G s front) (λ xs h. keep_last s xs (state G xs.scope last) h (keeps G xs.scope last))

take_front : (a more : List InScope) → take (length a) (a ++ more) ≡ a
take_front a more = take-append-le (length a) a more (omega arith) ∙ take_all (length a) a (omega arith)

-- behind its statements a block ends
pub block_ends : (G : Context) (s t : Scope) (cs : Statements) (ds : TypedStatements) (n : ℕ) → n ≡ length s.known → state_all G s cs ≡ Gives (all_stated ds t) → block_of G s cs ≡ Gives (all_stated ds (with_first n t))
block_ends G s t cs ds n long h =
    let k : Extends s.known t.known = subst (KeepsAll s) h (keeps_all G s cs) in
    goes_on _ _ _ h
    ∙ ap (λ ls. let u : Scope = record { known = ls; slots = t.slots; tags = t.tags; count = t.count } in Gives (all_stated ds u)) (sym (ap (take (length s.known)) k.1 ∙ take_front s.known k.0) ∙ ap (λ m. take m t.known) (sym long))
