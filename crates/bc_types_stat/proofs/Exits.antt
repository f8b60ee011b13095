-- Statements with blocks in them: what each of their parts gives.
use Rattle.std.proofs.Common.{◌≡◌, Option, Some, None, Result, Vec, Global, ap, sym, ◌∙◌, subst}
use Rattle.bc_data.specs.SourceTree as source
use Rattle.bc_data.specs.View.{view, view_stat, stat_views}
use Rattle.bc_data.specs.declared.run.Place.{Place}
use Rattle.bc_data.specs.declared.tree.ExprText.{ExprText}
use Rattle.bc_data.specs.declared.tree.StatText.{StatText}
use Rattle.bc_data.specs.declared.tree.StatText.TheVariants as stat
use Rattle.bc_data.specs.declared.program.Stat.{Stat}
use Rattle.bc_data.specs.declared.program.Stat as code
use Rattle.bc_types_rules.specs.Got.{Got, Gives, Mismatch, ask, ◌>>=◌}
use Rattle.bc_data.specs.Typed as typed
use Rattle.bc_data.specs.Typed.{TypedStatement}
use Rattle.bc_types_rules.specs.Context.{Context, Scope, ended, is_bool}
use Rattle.bc_types_rules.specs.Expressions.{Typed, infer, place_of}
use Rattle.bc_types_rules.specs.Statements.{Stated, AllStated, state, state_all}
use Rattle.bc_data.specs.ProgramView.{view_program_stat, program_stat_views}
use Rattle.bc_names.specs.Answers.{Answers, Stops}
use Rattle.bc_names.specs.declared.fault.TypeFault.{TypeFault}
use Rattle.bc_types_stat.specs.Bodies.{stated, all_stated, block_of, tested}
use Rattle.bc_types_stat.proofs.Chains.{assoc, ext, goes_on, stops_then, answers_stated}
use Rattle.bc_types_stat.proofs.Rows.{view_block, view_while, view_if, view_if_else, seen_block}

-- a block of the text, from a list
abbrev pub body_gives : Context → Scope → Vec StatText Global → Got AllStated
body_gives G s body = block_of G s (stat_views body.items source.Nothing)

block_then : {B : Type 0} (G : Context) (s : Scope) (body : source.Statements) (go : AllStated → Got B) → (state_all G s body >>= λ xs. go (all_stated xs.codes (ended s xs.scope))) ≡ (block_of G s body >>= go)
block_then G s body go = sym (assoc (state_all G s body) (λ xs. Gives (all_stated xs.codes (ended s xs.scope))) go)

-- a statement that is made once its condition has been asked for
abbrev made : Typed → Place → TypedStatement → Scope → Got Stated
made c at d t = tested c.type at d >>= λ d. Gives (stated d t)

made_then : (c : Typed) (at : Place) (d : TypedStatement) (t : Scope) → (ask (is_bool c.type) Mismatch at >>= λ _. Gives (stated d t)) ≡ made c at d t
made_then c at d t = sym (assoc (ask (is_bool c.type) Mismatch at) (λ _. Gives d) (λ d. Gives (stated d t)))

state_block : (G : Context) (s : Scope) (at : Place) (body : Vec StatText Global) → state G s (view_stat (stat.Block at body)) ≡ (body_gives G s body >>= λ xs. Gives (stated (typed.Block xs.codes) xs.scope))
state_block G s at body = ap (state G s) (view_block at body) ∙ block_then G s (stat_views body.items source.Nothing) (λ xs. Gives (stated (typed.Block xs.codes) xs.scope))

state_while : (G : Context) (s : Scope) (at : Place) (test : ExprText) (body : Vec StatText Global) → state G s (view_stat (stat.While at test body)) ≡ (infer G s (view test) >>= λ c. (body_gives G s body >>= λ xs. made c (place_of (view test)) (typed.While at c.code xs.codes) xs.scope))
state_while G s at test body =
    ap (state G s) (view_while at test body)
    ∙ ext (infer G s (view test)) _ _ (λ c.
    block_then G s (stat_views body.items source.Nothing) (λ xs. ask (is_bool c.type) Mismatch (place_of (view test)) >>= λ _. Gives (stated (typed.While at c.code xs.codes) xs.scope))
    ∙ ext (body_gives G s body) _ _ (λ xs. made_then c (place_of (view test)) (typed.While at c.code xs.codes) xs.scope))

-- what comes behind the first block of an `if`
abbrev other_gives : Context → Place → Typed → Option (Vec StatText Global) → AllStated → Got Stated
other_gives G at c None xs = made c at (typed.If c.code xs.codes typed.Nothing) xs.scope
other_gives G at c (Some other) xs = body_gives G xs.scope other >>= λ ys. made c at (typed.If c.code xs.codes ys.codes) ys.scope

state_if : (G : Context) (s : Scope) (at : Place) (test : ExprText) (body : Vec StatText Global) (other : Option (Vec StatText Global)) → state G s (view_stat (stat.If at test body other)) ≡ (infer G s (view test) >>= λ c. (body_gives G s body >>= other_gives G (place_of (view test)) c other))
state_if G s at test body None =
    ap (state G s) (view_if at test body)
    ∙ ext (infer G s (view test)) _ _ (λ c.
    block_then G s (stat_views body.items source.Nothing) (λ xs. ask (is_bool c.type) Mismatch (place_of (view test)) >>= λ _. Gives (stated (typed.If c.code xs.codes typed.Nothing) xs.scope))
    ∙ ext (body_gives G s body) _ _ (λ xs. made_then c (place_of (view test)) (typed.If c.code xs.codes typed.Nothing) xs.scope))
state_if G s at test body (Some other) =
    ap (state G s) (view_if_else at test body other)
    ∙ ext (infer G s (view test)) _ _ (λ c.
    block_then G s (stat_views body.items source.Nothing) (λ xs. state_all G xs.scope (stat_views other.items source.Nothing) >>= λ ys. (ask (is_bool c.type) Mismatch (place_of (view test)) >>= λ _. Gives (stated (typed.If c.code xs.codes ys.codes) (ended xs.scope ys.scope))))
    ∙ ext (body_gives G s body) _ _ (λ xs.
    block_then G xs.scope (stat_views other.items source.Nothing) (λ ys. ask (is_bool c.type) Mismatch (place_of (view test)) >>= λ _. Gives (stated (typed.If c.code xs.codes ys.codes) ys.scope))
    ∙ ext (body_gives G xs.scope other) _ _ (λ ys. made_then c (place_of (view test)) (typed.If c.code xs.codes ys.codes) ys.scope)))

module _ (G : Context) (s : Scope) (st : StatText) where
  pub block_stops : (f : TypeFault) (at : Place) (body : Vec StatText Global) → st ≡ stat.Block at body → Stops f (body_gives G s body) → Stops f (state G s (view_stat st))
  block_stops f at body is k = subst (Stops f) (sym (ap (λ v. state G s (view_stat v)) is ∙ state_block G s at body)) (stops_then f _ _ k)

  pub block_answers : (at : Place) (body : Vec StatText Global) (v : Vec Stat Global) (t : Scope) → st ≡ stat.Block at body → body_gives G s body ≡ Gives (all_stated (program_stat_views v.items typed.Nothing) t) → state G s (view_stat st) ≡ Gives (stated (view_program_stat (code.Block v)) t)
  block_answers at body v t is k =
      ap (λ v. state G s (view_stat v)) is ∙ state_block G s at body ∙ goes_on _ (λ xs. Gives (stated (typed.Block xs.codes) xs.scope)) _ k ∙ ap (λ d. Gives (stated d t)) (sym (seen_block v))

  pub while_stops : (f : TypeFault) (at : Place) (test : ExprText) (body : Vec StatText Global) (c : Typed) → st ≡ stat.While at test body → infer G s (view test) ≡ Gives c → Stops f (body_gives G s body) → Stops f (state G s (view_stat st))
  while_stops f at test body c is i k =
      subst (Stops f) (sym (ap (λ v. state G s (view_stat v)) is ∙ state_while G s at test body ∙ goes_on _ _ c i)) (stops_then f _ (λ xs. made c (place_of (view test)) (typed.While at c.code xs.codes) xs.scope) k)

  pub while_answers : (r : Result Stat TypeFault) (at : Place) (test : ExprText) (body : Vec StatText Global) (c : Typed) (xs : AllStated) (p : Place) → st ≡ stat.While at test body → infer G s (view test) ≡ Gives c → body_gives G s body ≡ Gives xs → p ≡ place_of (view test) → Answers r view_program_stat (tested c.type p (typed.While at c.code xs.codes)) → Answers r (λ d. stated (view_program_stat d) xs.scope) (state G s (view_stat st))
  while_answers r at test body c xs p is i k here h =
      let see : Stat → Stated = λ d. stated (view_program_stat d) xs.scope in
      subst (Answers r see) (ap (λ q. made c q (typed.While at c.code xs.codes) xs.scope) here ∙ sym (ap (λ v. state G s (view_stat v)) is ∙ state_while G s at test body ∙ goes_on _ _ c i ∙ goes_on _ (λ xs. made c (place_of (view test)) (typed.While at c.code xs.codes) xs.scope) xs k))
      (answers_stated r view_program_stat xs.scope _ h)

  pub if_stops : (f : TypeFault) (at : Place) (test : ExprText) (body : Vec StatText Global) (other : Option (Vec StatText Global)) (c : Typed) → st ≡ stat.If at test body other → infer G s (view test) ≡ Gives c → Stops f (body_gives G s body) → Stops f (state G s (view_stat st))
  if_stops f at test body other c is i k =
      subst (Stops f) (sym (ap (λ v. state G s (view_stat v)) is ∙ state_if G s at test body other ∙ goes_on _ _ c i)) (stops_then f _ (other_gives G (place_of (view test)) c other) k)

  behind_body : (at : Place) (test : ExprText) (body : Vec StatText Global) (option other : Option (Vec StatText Global)) (c : Typed) (xs : AllStated) → st ≡ stat.If at test body option → option ≡ other → infer G s (view test) ≡ Gives c → body_gives G s body ≡ Gives xs → state G s (view_stat st) ≡ other_gives G (place_of (view test)) c other xs
  behind_body at test body option other c xs is o i k =
      ap (λ v. state G s (view_stat v)) (is ∙ ap (stat.If at test body) o) ∙ state_if G s at test body other ∙ goes_on _ _ c i ∙ goes_on _ (other_gives G (place_of (view test)) c other) xs k

  pub else_stops : (f : TypeFault) (at : Place) (test : ExprText) (body : Vec StatText Global) (option : Option (Vec StatText Global)) (other : Vec StatText Global) (c : Typed) (xs : AllStated) → st ≡ stat.If at test body option → option ≡ Some other → infer G s (view test) ≡ Gives c → body_gives G s body ≡ Gives xs → Stops f (body_gives G xs.scope other) → Stops f (state G s (view_stat st))
  else_stops f at test body option other c xs is o i k l =
      subst (Stops f) (sym (behind_body at test body option (Some other) c xs is o i k)) (stops_then f _ (λ ys. made c (place_of (view test)) (typed.If c.code xs.codes ys.codes) ys.scope) l)

  pub if_answers : (r : Result Stat TypeFault) (at : Place) (test : ExprText) (body : Vec StatText Global) (option : Option (Vec StatText Global)) (c : Typed) (xs : AllStated) (p : Place) → st ≡ stat.If at test body option → option ≡ None → infer G s (view test) ≡ Gives c → body_gives G s body ≡ Gives xs → p ≡ place_of (view test) → Answers r view_program_stat (tested c.type p (typed.If c.code xs.codes typed.Nothing)) → Answers r (λ d. stated (view_program_stat d) xs.scope) (state G s (view_stat st))
  if_answers r at test body option c xs p is o i k here h =
      let see : Stat → Stated = λ d. stated (view_program_stat d) xs.scope in
      subst (Answers r see) (ap (λ q. made c q (typed.If c.code xs.codes typed.Nothing) xs.scope) here ∙ sym (behind_body at test body option None c xs is o i k))
      (answers_stated r view_program_stat xs.scope _ h)

  pub else_answers : (r : Result Stat TypeFault) (at : Place) (test : ExprText) (body : Vec StatText Global) (option : Option (Vec StatText Global)) (other : Vec StatText Global) (c : Typed) (xs ys : AllStated) (p : Place) → st ≡ stat.If at test body option → option ≡ Some other → infer G s (view test) ≡ Gives c → body_gives G s body ≡ Gives xs → body_gives G xs.scope other ≡ Gives ys → p ≡ place_of (view test) → Answers r view_program_stat (tested c.type p (typed.If c.code xs.codes ys.codes)) → Answers r (λ d. stated (view_program_stat d) ys.scope) (state G s (view_stat st))
  else_answers r at test body option other c xs ys p is o i k l here h =
      let see : Stat → Stated = λ d. stated (view_program_stat d) ys.scope in
      subst (Answers r see) (ap (λ q. made c q (typed.If c.code xs.codes ys.codes) ys.scope) here ∙ sym (behind_body at test body option (Some other) c xs is o i k ∙ goes_on _ (λ ys. made c (place_of (view test)) (typed.If c.code xs.codes ys.codes) ys.scope) ys l))
      (answers_stated r view_program_stat ys.scope _ h)
