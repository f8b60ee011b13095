-- A change of a `taskexit`, step by step.
use Rattle.std.proofs.Common.{◌≡◌, ◌==◌, not, [], ◌∷◌, ◌++◌, sym, ◌∙◌, subst}
use Rattle.std.specs.List.{list_any}
use Rattle.bc_data.specs.SourceTree.{Sequence, ChangeOf}
use Rattle.bc_data.specs.declared.tree.Named.{Named}
use Rattle.bc_data.specs.declared.tree.ActionText.{ActionText}
use Rattle.bc_types_rules.specs.Got.{Got, Gives, Twice, Unknown, ask, find, ◌>>=◌}
use Rattle.bc_types_rules.specs.Numbering.{try_fold}
use Rattle.bc_types_rules.specs.Context.{Names, Scope, meaning_of}
use Rattle.bc_types_rules.specs.Statements.{Exiting, Parameter, parameter_of, check_action, check_change}
use Rattle.bc_names.specs.Answers.{Stops}
use Rattle.bc_names.specs.declared.fault.TypeFault.{TypeFault}
use Rattle.bc_types_stat.proofs.Chains.{goes_on, stops_then}

module _ (N : Names) (s : Scope) (x : Exiting) (param : Named) (actions : Sequence ActionText) (p : Parameter) (f : TypeFault) where
  abbrev asks : Parameter → Got (Unit {0})
  asks q = ask (not (list_any (λ n. n == q.number) x.named)) Twice param.at

  abbrev acts : Parameter → Got Exiting
  acts q = try_fold (check_action N s q) x.changes actions >>= λ changes. Gives (record { named = x.named ++ q.number ∷ []; changes = changes })

  behind_name : find (parameter_of (meaning_of s param)) Unknown param.at ≡ Gives p → check_change N s x (ChangeOf param actions) ≡ (asks p >>= λ _. acts p)
  behind_name found = goes_on _ (λ q. asks q >>= λ _. acts q) p found

  -- the parameter has been named before
  pub named_before : find (parameter_of (meaning_of s param)) Unknown param.at ≡ Gives p → Stops f (asks p) → Stops f (check_change N s x (ChangeOf param actions))
  named_before found stop = subst (Stops f) (sym (behind_name found)) (stops_then f (asks p) (λ _. acts p) stop)

  -- an action that can't be
  pub action_stops : find (parameter_of (meaning_of s param)) Unknown param.at ≡ Gives p → asks p ≡ Gives tt → Stops f (try_fold (check_action N s p) x.changes actions) → Stops f (check_change N s x (ChangeOf param actions))
  action_stops found new stop = subst (Stops f) (sym (behind_name found ∙ goes_on (asks p) (λ _. acts p) tt new)) (stops_then f (try_fold (check_action N s p) x.changes actions) (λ changes. Gives (record { named = x.named ++ p.number ∷ []; changes = changes })) stop)
