-- A task from its parameters and its block.
use Rattle.std.proofs.Common.{◌≡◌, ℕ, List, None, ap, sym, ◌∙◌, subst}
use Rattle.std.specs.List.{filter_map}
use Rattle.bc_data.specs.SourceTree.{Sequence, Param, Statements}
use Rattle.bc_data.specs.declared.run.Place.{Place}
use Rattle.bc_data.specs.declared.tree.Named.{Named}
use Rattle.bc_types_rules.specs.Got.{Got, Gives, ◌>>=◌}
use Rattle.bc_data.specs.Typed.{TypedStatements, TypedTask}
use Rattle.bc_types_rules.specs.Context.{Context, Names, Scope, ended}
use Rattle.bc_types_rules.specs.Statements.{AllStated, state_all}
use Rattle.bc_types_rules.specs.Bodies.{Params, check_task, type_of_tag}
use Rattle.bc_names.specs.Answers.{Stops}
use Rattle.bc_names.specs.declared.fault.TypeFault.{TypeFault}
use Rattle.bc_types_stat.specs.Bodies.{all_stated, block_of, check_params}
use Rattle.bc_types_stat.proofs.Chains.{assoc, goes_on, stops_then}

-- where a task's body stands
abbrev pub in_task : Names → Context
in_task N = record { names = N; me = None; result = None }

module _ (N : Names) (at : Place) (x : Named) (params : Sequence Param) (body : Statements) (ps : Params) where
  abbrev made : List ℕ → List ℕ → ℕ → ℕ → TypedStatements → Got TypedTask
  made name variables locals tags ds = Gives (record { name = name; at = at; params = ps.each; variables = variables; locals = locals; tags = tags; body = ds })

  abbrev behind : AllStated → Got TypedTask
  behind b = made x.name (filter_map type_of_tag ps.scope.known) b.scope.slots b.scope.tags b.codes

  task_is : check_params N params ≡ Gives ps → check_task N at x params body ≡ (block_of (in_task N) ps.scope body >>= behind)
  task_is given =
      goes_on (check_params N params) _ ps given
      ∙ sym (assoc (state_all (in_task N) ps.scope body) (λ b. Gives (all_stated b.codes (ended ps.scope b.scope))) behind)

  pub task_stops : (f : TypeFault) → check_params N params ≡ Gives ps → Stops f (block_of (in_task N) ps.scope body) → Stops f (check_task N at x params body)
  task_stops f given stop = subst (Stops f) (sym (task_is given)) (stops_then f (block_of (in_task N) ps.scope body) behind stop)

  pub task_gives : (name variables : List ℕ) (locals tags : ℕ) (ds : TypedStatements) (s : Scope) → check_params N params ≡ Gives ps → block_of (in_task N) ps.scope body ≡ Gives (all_stated ds s) → name ≡ x.name → variables ≡ filter_map type_of_tag ps.scope.known → locals ≡ s.slots → tags ≡ s.tags → check_task N at x params body ≡ made name variables locals tags ds
  task_gives name variables locals tags ds s given e n v l t =
      task_is given ∙ goes_on (block_of (in_task N) ps.scope body) behind (all_stated ds s) e
      ∙ ap (λ k. made k (filter_map type_of_tag ps.scope.known) s.slots s.tags ds) (sym n)
      ∙ ap (λ k. made name k s.slots s.tags ds) (sym v)
      ∙ ap (λ k. made name variables k s.tags ds) (sym l)
      ∙ ap (λ k. made name variables locals k ds) (sym t)
