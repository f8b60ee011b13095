-- Arguments from left to right.
use Rattle.std.proofs.Common.{◌≡◌, ℕ, ◌+◌, ◌<◌, List, [], ◌∷◌, ◌++◌, length, take, drop, get_or, refl, ap, sym, ◌∙◌, subst, Result}
use Rattle.std.specs.declared.vec.Vec.{Vec}
use Rattle.std.specs.declared.boxed.Box.{Box}
use Rattle.std.specs.declared.alloc.Global.{Global}
use Rattle.std.proofs.lemmas.List.{take_more, take-append-drop, map-append}
use Rattle.bc_data.specs.SourceTree as source
use Rattle.bc_data.specs.SourceTree.{Expression, Expressions, Empty}
use Rattle.bc_data.specs.View.{view, views, onto}
use Rattle.bc_data.specs.declared.run.Place.{Place}
use Rattle.bc_data.specs.declared.tree.Named.{Named}
use Rattle.bc_data.specs.declared.tree.ActionText.{ActionText}
use Rattle.bc_data.specs.declared.tree.ExprText.{ExprText}
use Rattle.bc_data.specs.declared.tree.ExprText.TheVariants as expr
use Rattle.bc_data.specs.declared.program.Expr.{Expr}
use Rattle.bc_types_rules.specs.Got.{Got, Gives, ◌>>=◌}
use Rattle.bc_data.specs.Typed.{TypedExpressions, NoArg, Arg}
use Rattle.bc_types_rules.specs.Context.{Context, Scope}
use Rattle.bc_types_rules.specs.Expressions as rules
use Rattle.bc_types_rules.specs.Expressions.{infer, infer_all, place_of, check_call}
use Rattle.bc_types_rules.specs.Statements.{infer_call}
use Rattle.bc_data.specs.ProgramView.{view_expr, expr_views}
use Rattle.bc_names.specs.Answers.{Answers, Stops}
use Rattle.bc_names.specs.declared.fault.TypeFault.{TypeFault}
use Rattle.bc_names.specs.declared.fault.TypeFault.TheVariants as fault
use Rattle.bc_types_expr.specs.Expressions.{typed_seen, each_seen, argument_seen}
use Rattle.bc_types_expr.specs.Tails.{call_value, made}
use Rattle.bc_types_expr.specs.declared.typed.Typed.{Typed}
use Rattle.bc_types_expr.specs.declared.typed.Argument.{Argument}
use Rattle.bc_types_expr.proofs.Rows.{view_call, view_make}

views-append : (xs ys : List ExprText) (front : Expressions) → views (xs ++ ys) front ≡ views ys (views xs front)
views-append [] ys front = refl
views-append (x ∷ xs) ys front = views-append xs ys (source.Arg front (view x))

expr_views-append : (xs ys : List Expr) (front : TypedExpressions) → expr_views (xs ++ ys) front ≡ expr_views ys (expr_views xs front)
expr_views-append [] ys front = refl
expr_views-append (x ∷ xs) ys front = expr_views-append xs ys (Arg front (view_expr x))

abbrev args_of : TypedExpressions → List rules.Argument → rules.Arguments
args_of codes each = record { codes = codes; each = each }

-- the arguments that were read so far
abbrev pub read : List Expr → List Argument → rules.Arguments
read codes each = args_of (expr_views codes NoArg) (each_seen each)

abbrev grown : rules.Arguments → Place → rules.Typed → rules.Arguments
grown xs at x = args_of (Arg xs.codes x.code) (xs.each ++ record { type = x.type; at = at } ∷ [])

-- what is behind a fault isn't looked at
fails_on : (G : Context) (s : Scope) (es : List ExprText) (front : Expressions) (g : Got rules.Arguments) → ((go : rules.Arguments → Got rules.Arguments) → (g >>= go) ≡ g) → infer_all G s front ≡ g → infer_all G s (views es front) ≡ g
fails_on G s [] front g stays e = e
fails_on G s (x ∷ es) front g stays e = fails_on G s es (source.Arg front (view x)) g stays (ap (λ h. h >>= λ xs. (infer G s (view x) >>= λ y. Gives (grown xs (place_of (view x)) y))) e ∙ stays (λ xs. infer G s (view x) >>= λ y. Gives (grown xs (place_of (view x)) y)))

args_more : (G : Context) (s : Scope) (es : List ExprText) (i : ℕ) (e : ExprText) (xs : rules.Arguments) → i < length es → e ≡ get_or es i e → infer_all G s (views (take i es) source.NoArg) ≡ Gives xs → infer_all G s (views (take (i + 1) es) source.NoArg) ≡ (infer G s (view e) >>= λ y. Gives (grown xs (place_of (view e)) y))
args_more G s es i e xs within is h =
    ap (λ l. infer_all G s (views l source.NoArg)) (take_more es i e within)
    ∙ ap (infer_all G s) (views-append (take i es) (get_or es i e ∷ []) source.NoArg)
    ∙ ap (λ g. g >>= λ xs. (infer G s (view (get_or es i e)) >>= λ y. Gives (grown xs (place_of (view (get_or es i e))) y))) h
    ∙ ap (λ x. infer G s (view x) >>= λ y. Gives (grown xs (place_of (view x)) y)) (sym is)

-- one argument more
pub args_on :
    (G : Context) (s : Scope) (es : List ExprText) (i : ℕ) (e : ExprText) (codes codes_2 : List Expr) (each each_2 : List Argument) (t : Typed) (x : Argument)
    → i < length es
    → e ≡ get_or es i e
    → infer_all G s (views (take i es) source.NoArg) ≡ Gives (read codes each)
    → infer G s (view e) ≡ Gives (typed_seen t)
    → codes_2 ≡ codes ++ t.code ∷ []
    → each_2 ≡ each ++ x ∷ []
    → x.value_type ≡ t.value_type
    → x.at ≡ place_of (view e)
    → infer_all G s (views (take (i + 1) es) source.NoArg) ≡ Gives (read codes_2 each_2)
args_on G s es i e codes codes_2 each each_2 t x within is h g p q r u =
    let a : argument_seen x ≡ record { type = (typed_seen t).type; at = place_of (view e) } = cc in
    let c : expr_views codes_2 NoArg ≡ Arg (expr_views codes NoArg) (view_expr t.code) = ap (λ l. expr_views l NoArg) p ∙ expr_views-append codes (t.code ∷ []) NoArg in
    let l : each_seen each_2 ≡ each_seen each ++ record { type = (typed_seen t).type; at = place_of (view e) } ∷ [] = ap each_seen q ∙ map-append argument_seen each (x ∷ []) ∙ ap (λ y. each_seen each ++ y ∷ []) a in
    args_more G s es i e (read codes each) within is h
    ∙ ap (λ g. g >>= λ y. Gives (grown (read codes each) (place_of (view e)) y)) g
    ∙ ap (λ z. Gives (args_of z (each_seen each ++ record { type = (typed_seen t).type; at = place_of (view e) } ∷ []))) (sym c)
    ∙ ap (λ z. Gives (args_of (expr_views codes_2 NoArg) z)) (sym l)

pub args_stop : (f : TypeFault) (G : Context) (s : Scope) (es : List ExprText) (i : ℕ) (e : ExprText) (xs : rules.Arguments) → i < length es → e ≡ get_or es i e → infer_all G s (views (take i es) source.NoArg) ≡ Gives xs → Stops f (infer G s (view e)) → Stops f (infer_all G s (views es source.NoArg))
args_stop fault.Memory G s es i e xs within is h stop = tt
args_stop (fault.Refused kind at) G s es i e xs within is h stop =
    ap (λ l. infer_all G s (views l source.NoArg)) (sym (take-append-drop (i + 1) es))
    ∙ ap (infer_all G s) (views-append (take (i + 1) es) (drop (i + 1) es) source.NoArg)
    ∙ fails_on G s (drop (i + 1) es) (views (take (i + 1) es) source.NoArg) _ (λ go. refl) (args_more G s es i e xs within is h ∙ ap (λ g. g >>= λ y. Gives (grown xs (place_of (view e)) y)) stop)

-- the first that stops
pub stops : {A B : Type 0} (f : TypeFault) (g : Got A) (go : A → Got B) (h : Got B) → h ≡ (g >>= go) → Stops f g → Stops f h
stops fault.Memory g go h e stop = tt
stops (fault.Refused kind at) g go h e stop = e ∙ ap (λ g. g >>= go) stop

-- and what is behind it where it doesn't
pub answers : {X A B : Type 0} (r : Result X TypeFault) (see : X → B) (g : Got A) (go : A → Got B) (h : Got B) (x : A) → h ≡ (g >>= go) → g ≡ Gives x → Answers r see (go x) → Answers r see h
answers r see g go h x e k rest = subst (Answers r see) (sym (e ∙ ap (λ g. g >>= go) k)) rest

-- a call, once its object is known
pub value_first : (G : Context) (s : Scope) (at : Place) (a : Box ExprText Global) (m : Named) (args : Vec ExprText Global) (e : ExprText) (o : rules.Typed) → e ≡ expr.Call at a m args → infer G s (view a.value) ≡ Gives o → infer G s (view e) ≡ (infer_all G s (views args.items source.NoArg) >>= λ ys. call_value G.names at o m ys)
value_first G s at a m args e o h i =
    ap (λ x. infer G s (view x)) h
    ∙ ap (infer G s) (view_call at a m args)
    ∙ ap (λ g. g >>= λ o. (infer_all G s (views args.items source.NoArg) >>= λ ys. call_value G.names at o m ys)) i

pub statement_first : (G : Context) (s : Scope) (at : Place) (a : Box ExprText Global) (m : Named) (args : Vec ExprText Global) (e : ExprText) (o : rules.Typed) → e ≡ expr.Call at a m args → infer G s (view a.value) ≡ Gives o → infer_call G s (view e) ≡ (infer_all G s (views args.items source.NoArg) >>= λ ys. check_call G.names at o m ys)
statement_first G s at a m args e o h i =
    ap (λ x. infer_call G s (view x)) h
    ∙ ap (infer_call G s) (view_call at a m args)
    ∙ ap (λ g. g >>= λ o. (infer_all G s (views args.items source.NoArg) >>= λ ys. check_call G.names at o m ys)) i

-- a `new` over its list of arguments
pub make_first : (G : Context) (s : Scope) (at : Place) (x : Named) (args : Vec ExprText Global) (tweaks : Vec ActionText Global) (e : ExprText) → e ≡ expr.Make at x args tweaks → infer G s (view e) ≡ (infer_all G s (views args.items source.NoArg) >>= λ ys. made G.names s at x ys (onto tweaks.items Empty))
make_first G s at x args tweaks e h = ap (λ x. infer G s (view x)) h ∙ ap (infer G s) (view_make at x args tweaks)
