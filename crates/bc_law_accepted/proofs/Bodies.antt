-- What methods and tasks need of their bodies.
use Rattle.std.proofs.Common.{◌≡◌, ℕ, ◌≤◌, List, None, true}
use Rattle.bc_data.specs.SourceTree.{Statements}
use Rattle.bc_data.specs.Typed.{TypedStatements, TypedClass}
use Rattle.bc_data.specs.TypedBodies.{AreTyped, surely_leave}
use Rattle.bc_types_rules.specs.Context.{Context, Scope}
use Rattle.bc_types_rules.specs.Statements.{all_leave}
use Rattle.bc_types_rules.specs.StatementRules.{DoAll}
use Rattle.bc_law_accepted.proofs.Agreement.{Agrees}
use Rattle.bc_law_accepted.proofs.Scopes.{IsScope, assigned_in, setting_in}

pub record BodiesAreTyped : Type 0 where
  -- with as many slots and tag variables as the body uses
  pub typed :
      (G : Context) (K : List TypedClass) (tag_types : ℕ) (params : List ℕ) (locals tags : ℕ)
      → (s : Scope) (ss : Statements) (ds : TypedStatements) (t : Scope)
      → Agrees G.names K tag_types
      → IsScope G.me params s
      → (G.me ≡ None → G.result ≡ None)
      → DoAll G s ss ds t
      → t.slots ≤ locals
      → t.tags ≤ tags
      → AreTyped (setting_in K tag_types G params locals tags) (assigned_in G.me s) ds (assigned_in G.me t)
  -- the scope behind a body, which uses no fewer slots and tag variables
  pub behind :
      (G : Context) (K : List TypedClass) (tag_types : ℕ) (params : List ℕ)
      → (s : Scope) (ss : Statements) (ds : TypedStatements) (t : Scope)
      → Agrees G.names K tag_types
      → IsScope G.me params s
      → (G.me ≡ None → G.result ≡ None)
      → DoAll G s ss ds t
      → IsScope G.me params t × (s.slots ≤ t.slots) × (s.tags ≤ t.tags)
  pub leaves :
      (G : Context) (s : Scope) (ss : Statements) (ds : TypedStatements) (t : Scope)
      → DoAll G s ss ds t
      → all_leave ss ≡ true
      → surely_leave ds ≡ true
