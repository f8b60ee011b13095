-- Behind statements the scope is in order, and no slot and no tag variable is given up.
use Rattle.std.proofs.Common.{◌≡◌, ℕ, ◌≤◌, List, Option, sym, subst, arith}
use Rattle.bc_data.specs.SourceTree.{Statement, Let, NewTag, Assign, Do, MakeDo, Block, If, IfElse, While, Return, ReturnValue, Print, Assert, Exit, Statements, Nothing, Then}
use Rattle.bc_data.specs.Typed.{TypedStatement, TypedStatements}
use Rattle.bc_types_rules.specs.Context.{Context, Scope, ended}
use Rattle.bc_types_rules.specs.StatementRules.{Does, DoAll}
use Rattle.bc_law_accepted.proofs.Scopes.{IsScope}
use Rattle.bc_law_accepted.proofs.ScopeLemmas.{slot_scope, tag_scope, ended_scope}

pub record Grown (me : Option ℕ) (params : List ℕ) (s t : Scope) : Type 0 where
  pub scope : IsScope me params t
  pub slots : s.slots ≤ t.slots
  pub tags : s.tags ≤ t.tags

module _ (me : Option ℕ) (params : List ℕ) where
  stays : (s t : Scope) → IsScope me params s → t ≡ s → Grown me params s t
  stays s t h e = subst (Grown me params s) (sym e) (record { scope = h; slots = omega arith; tags = omega arith })

  ends : (s r t : Scope) → IsScope me params s → Grown me params s r → t ≡ ended s r → Grown me params s t
  ends s r t h g e =
      subst (Grown me params s) (sym e) (record { scope = ended_scope me params s r h g.scope g.slots g.tags; slots = g.slots; tags = g.tags })

  -- one block, and then another
  both_end : (s q r t : Scope) → IsScope me params s → Grown me params s q → Grown me params (ended s q) r → t ≡ ended s r → Grown me params s t
  both_end s q r t h g k e =
      let slots : q.slots ≤ r.slots = k.slots in
      let tags : q.tags ≤ r.tags = k.tags in
      ends s r t h (record { scope = k.scope; slots = omega arith; tags = omega arith }) e

module _ (G : Context) (params : List ℕ) where
  mutual
    pub does_grow : (s : Scope) (x : Statement) (d : TypedStatement) (t : Scope) → IsScope G.me params s → Does G s x d t → Grown G.me params s t
    does_grow s (Let x e) d t h k =
        subst (Grown G.me params s) (sym k.8) (record { scope = slot_scope G.me params s h k.5.1 x.name k.0; slots = omega arith; tags = omega arith })
    does_grow s (NewTag at x kind) d t h k =
        subst (Grown G.me params s) (sym k.5) (record { scope = tag_scope G.me params s h k.3.1 x k.0; slots = omega arith; tags = omega arith })
    does_grow s (Assign target e) d t h k = stays G.me params s t h k.9
    does_grow s (Do call) d t h k = stays G.me params s t h k.4
    does_grow s (MakeDo made) d t h k = stays G.me params s t h k.4
    does_grow s (Block at body) d t h k = ends G.me params s k.1 t h (do_grow s body k.0 k.1 h k.2) k.4
    does_grow s (If at test body) d t h k = ends G.me params s k.2 t h (do_grow s body k.1 k.2 h k.4) k.6
    does_grow s (IfElse at test body other) d t h k =
        let g = do_grow s body k.1 k.3 h k.6 in
        both_end G.me params s k.3 k.4 t h g (do_grow (ended s k.3) other k.2 k.4 (ended_scope G.me params s k.3 h g.scope g.slots g.tags) k.7) k.9
    does_grow s (While at test body) d t h k = ends G.me params s k.2 t h (do_grow s body k.1 k.2 h k.4) k.6
    does_grow s (Return at) d t h k = stays G.me params s t h k.4
    does_grow s (ReturnValue at e) d t h k = stays G.me params s t h k.7
    does_grow s (Print at items) d t h k = stays G.me params s t h k.3
    does_grow s (Assert at e) d t h k = stays G.me params s t h k.3
    does_grow s (Exit at changes) d t h k = stays G.me params s t h k.4

    pub do_grow : (s : Scope) (ss : Statements) (ds : TypedStatements) (t : Scope) → IsScope G.me params s → DoAll G s ss ds t → Grown G.me params s t
    do_grow s Nothing ds t h k = stays G.me params s t h k.1
    do_grow s (Then front last) ds t h k =
        let g = do_grow s front k.0 k.1 h k.3 in
        let l = does_grow k.1 last k.2 t g.scope k.4 in
        record { scope = l.scope; slots = omega arith; tags = omega arith }
