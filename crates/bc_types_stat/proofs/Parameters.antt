-- A parameter of a task, step by step.
use Rattle.std.proofs.Common.{◌≡◌, ℕ, [], ◌∷◌, ◌++◌, sym, ◌∙◌}
use Rattle.std.specs.Prelude.{nat_lt}
use Rattle.bc_data.specs.SourceTree.{Sequence, Guard, ParamOf}
use Rattle.bc_data.specs.declared.tree.Named.{Named}
use Rattle.bc_data.specs.declared.tree.Bind.{Bind}
use Rattle.bc_types_rules.specs.Got.{Got, Gives, Twice, TooMany, Unknown, ask, find, ◌>>=◌}
use Rattle.bc_types_rules.specs.Numbering.{try_fold}
use Rattle.bc_data.specs.Typed.{TypedGuard}
use Rattle.bc_types_rules.specs.Context.{Names, is_free, with_parameter}
use Rattle.bc_types_rules.specs.Bodies.{Params, Binds, check_bind, check_guard, check_param}
use Rattle.bc_types_expr.specs.Scopes.{may_be_parameter}
use Rattle.bc_types_stat.specs.Bodies.{unbound}
use Rattle.bc_types_stat.proofs.Chains.{assoc, goes_on}

module _ (N : Names) (ps : Params) (kind x : Named) (guard : Guard) (binds : Sequence Bind) where
  -- the parameters with this one behind them
  abbrev pub params_with : ℕ → TypedGuard → Binds → Got Params
  params_with c g bs = Gives (record { each = ps.each ++ record { class = c; guard = g; binds = bs.variables } ∷ []; scope = bs.scope })

  abbrev behind_guard : ℕ → TypedGuard → Got Params
  behind_guard c g = try_fold (check_bind N) (unbound (with_parameter ps.scope x c)) binds >>= params_with c g

  pub param_is : (c : ℕ) (g : TypedGuard) → find (N.class_of kind.name) Unknown kind.at ≡ Gives c → may_be_parameter ps.scope x ≡ Gives tt → check_guard N c guard ≡ Gives g → check_param N ps (ParamOf kind x guard binds) ≡ behind_guard c g
  param_is c g found room guarded =
      goes_on (find (N.class_of kind.name) Unknown kind.at) (λ d. ask (is_free ps.scope x) Twice x.at >>= λ _. (ask (nat_lt ps.scope.slots 4) TooMany x.at >>= λ _. (check_guard N d guard >>= behind_guard d))) c found
      ∙ sym (assoc (ask (is_free ps.scope x) Twice x.at) (λ _. ask (nat_lt ps.scope.slots 4) TooMany x.at) (λ _. check_guard N c guard >>= behind_guard c))
      ∙ goes_on (may_be_parameter ps.scope x) (λ _. check_guard N c guard >>= behind_guard c) tt room
      ∙ goes_on (check_guard N c guard) (behind_guard c) g guarded
