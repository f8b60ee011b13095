use Rattle.std.proofs.Common.{◌≡◌, ◌∙◌, ◌∷◌, ◌<◌, ap, sym, subst, refl, arith}
use Rattle.std.proofs.lemmas.Result.{err_from_is_err_and}
use Rattle.bc_data.specs.Seen.{lexeme, seen}
use Rattle.bc_data.specs.SourceTree.{Sequence, Empty, More, Guard, Param, ParamOf}
use Rattle.bc_data.specs.Grammar.{token}
use Rattle.bc_data.specs.View.{view_guard}
use Rattle.bc_data.specs.declared.token.Word.TheVariants as word
use Rattle.bc_data.specs.declared.tree.Bind.{Bind}
use Rattle.bc_data.specs.declared.tree.Named.{Named}
use Rattle.bc_law_grammar.specs.Machine.{State, Never, OnWord, Guarded, WantFlag, Binding, Parameters, param_row, run}
use Rattle.bc_parse_expr.specs.Contract.{Stops}
use Rattle.bc_parse.specs.Guards.{flag_reach_of}
use Rattle.bc_parse.proofs.Flags.{guarded_end}
use Rattle.bc_parse.proofs.item.param.Goals as goal

abbrev many : Named → Named → Sequence Param → (Sequence Param → State) → Guard → Sequence Bind → State
many class x params onward g binds = Parameters (More params (ParamOf class x g binds)) onward

abbrev all : Named → Named → Sequence Param → (Sequence Param → State) → Guard → Sequence Bind → State
all class x params onward g binds = onward (More params (ParamOf class x g binds))

pub returns-clause-answers : goal.returns-clause-answers
returns-clause-answers c = λ params onward.
    let text = c.args.text.now in
    let t = c.in_ok-token.token in
    let behind = seen text c.in_ok-token.behind.now in
    let class = c.in_ok-class.class in
    let x = c.in_ok-name.name.name in
    let g = view_guard c.in_ok-condition.condition.tree in
    let rest = c.in_ok-condition.condition.rest.now in
    let ends : 3 < flag_reach_of rest = c.in_ok-condition.ensures.whole in
    ap (λ ts. run 64 (Parameters params onward) (seen text ts)) c.in_ok-token.ensures.ok
    ∙ ap (λ k. run 64 (Parameters params onward) (token (lexeme text t.start t.end k) t.at ∷ behind)) c.in-Name.is
    ∙ ap (λ y. run 64 (param_row y params onward) behind) (sym c.in_ok-class.ensures.ok)
    ∙ c.in_ok-name.ensures.answers (λ y. OnWord word.In (λ _. WantFlag (Guarded (λ h. Binding Empty (many class y params onward h) (all class y params onward h)) (λ h. many class y params onward h Empty) (λ h. all class y params onward h Empty))) Never)
    ∙ c.in_ok-within.ensures.answers text (λ _. WantFlag (Guarded (λ h. Binding Empty (many class x params onward h) (all class x params onward h)) (λ h. many class x params onward h Empty) (λ h. all class x params onward h Empty)))
    ∙ c.in_ok-condition.ensures.answers (Guarded (λ h. Binding Empty (many class x params onward h) (all class x params onward h)) (λ h. many class x params onward h Empty) (λ h. all class x params onward h Empty)) refl tt
    ∙ guarded_end text g (λ h. Binding Empty (many class x params onward h) (all class x params onward h)) (λ h. many class x params onward h Empty) (λ h. all class x params onward h Empty) rest ends
    ∙ c.in_ok-tags.ensures.answers (many class x params onward g) (all class x params onward g)

-- the fault of what follows the guard
pub returns-in_err-tags-clause-answers : goal.returns-in_err-tags-clause-answers
returns-in_err-tags-clause-answers c = λ params onward.
    let text = c.args.text.now in
    let t = c.in_ok-token.token in
    let behind = seen text c.in_ok-token.behind.now in
    let class = c.in_ok-class.class in
    let x = c.in_ok-name.name.name in
    let g = view_guard c.in_ok-condition.condition.tree in
    let rest = c.in_ok-condition.condition.rest.now in
    let ends : 3 < flag_reach_of rest = c.in_ok-condition.ensures.whole in
    let same =
    ap (λ ts. run 64 (Parameters params onward) (seen text ts)) c.in_ok-token.ensures.ok
    ∙ ap (λ k. run 64 (Parameters params onward) (token (lexeme text t.start t.end k) t.at ∷ behind)) c.in-Name.is
    ∙ ap (λ y. run 64 (param_row y params onward) behind) (sym c.in_ok-class.ensures.ok)
    ∙ c.in_ok-name.ensures.answers (λ y. OnWord word.In (λ _. WantFlag (Guarded (λ h. Binding Empty (many class y params onward h) (all class y params onward h)) (λ h. many class y params onward h Empty) (λ h. all class y params onward h Empty))) Never)
    ∙ c.in_ok-within.ensures.answers text (λ _. WantFlag (Guarded (λ h. Binding Empty (many class x params onward h) (all class x params onward h)) (λ h. many class x params onward h Empty) (λ h. all class x params onward h Empty)))
    ∙ c.in_ok-condition.ensures.answers (Guarded (λ h. Binding Empty (many class x params onward h) (all class x params onward h)) (λ h. many class x params onward h Empty) (λ h. all class x params onward h Empty)) refl tt
    ∙ guarded_end text g (λ h. Binding Empty (many class x params onward h) (all class x params onward h)) (λ h. many class x params onward h Empty) (λ h. all class x params onward h Empty) rest ends in
    let p = err_from_is_err_and c.from_residual-in_err-tags.result c.from_residual-in_err-tags.ensures.1 in
    rw (p.1, p.2) (subst (λ o. Stops c.in_err-tags.field-0.0 o) (sym same) (c.in_err-tags.ensures.answers (many class x params onward g) (all class x params onward g)))
