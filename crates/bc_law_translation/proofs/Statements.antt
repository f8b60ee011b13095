-- The code of a statement is one, and so is that of a list of statements.
use Rattle.std.proofs.Common.{ℕ, ◌+◌, List, [], ◌∷◌}
use Rattle.std.specs.Prelude.{Option, Some, None}
use Rattle.bc_data.specs.declared.program.Change.{Change}
use Rattle.bc_data.specs.declared.program.Change.TheVariants as change
use Rattle.bc_data.specs.declared.program.Shape.{Shape}
use Rattle.bc_data.specs.declared.run.Place.{Place}
use Rattle.bc_data.specs.Typed.{TypedPart, TextPart, NumberPart, TruthPart, TypedStatement, Set, NewTag, SetField, SetElem, Drop, Perform, If, While, Return, Print, Assert, Exit, Block, TypedStatements, Nothing, Then, TypedClass}
use Rattle.bc_code.specs.Translation.{Text, behind_each, after, after_part, after_parts, past, past_all, behind_end, HasPart, HasParts, IsChangeCode, AreChanges, HasStatement, HasStatements, IsEnd}
use Rattle.bc_law_translation.proofs.Expressions.{expression_same}
use Rattle.bc_law_translation.proofs.Texts.{Same, join, none, one}

module _ {T V : Text} where
  change_same : (c : Change) (p : ℕ) → IsChangeCode T p c → IsChangeCode V p c → Same T V p (p + 1)
  change_same (change.Flag n flag b) p h g = one p h g
  change_same (change.Add at n variable) p h g = one p h g
  change_same (change.Clear n variable) p h g = one p h g

  changes_same : (cs : List Change) (p : ℕ) → AreChanges T p cs → AreChanges V p cs → Same T V p (behind_each cs p)
  changes_same [] p h g = none p
  changes_same (c ∷ cs) p h g = join (change_same c p h.0 g.0) (changes_same cs (p + 1) h.1 g.1)

  -- the end of a method
  pub end_same : (r : Option Shape) (p : ℕ) → IsEnd T p r → IsEnd V p r → Same T V p (behind_end r p)
  end_same None p h g = one p h g
  end_same (Some sh) p h g = join (one p h.0 g.0) (one (p + 1) h.1 g.1)

  module _ (K : List TypedClass) where
    part_same :
        (at : Place) (part : TypedPart) (p : ℕ)
        → HasPart K T at p part → HasPart K V at p part → Same T V p (after_part K p part)
    part_same at (TextPart bytes) p h g = one p h g
    part_same at (NumberPart e) p h g = join (expression_same K e p h.0 g.0) (one (after K p e) h.1 g.1)
    part_same at (TruthPart e) p h g = join (expression_same K e p h.0 g.0) (one (after K p e) h.1 g.1)

    parts_same :
        (at : Place) (parts : List TypedPart) (p : ℕ)
        → HasParts K T at p parts → HasParts K V at p parts → Same T V p (after_parts K p parts)
    parts_same at [] p h g = none p
    parts_same at (part ∷ parts) p h g =
        join (part_same at part p h.0 g.0) (parts_same at parts (after_part K p part) h.1 g.1)

    mutual
      statement_same :
          (s : TypedStatement) (p : ℕ) → HasStatement K T p s → HasStatement K V p s → Same T V p (past K p s)
      statement_same (Set slot e) p h g = join (expression_same K e p h.0 g.0) (one (after K p e) h.1 g.1)
      statement_same (NewTag at variable tag_type) p h g = one p h g
      statement_same (SetField at object field e) p h g =
          let q = after K p object in
          join (expression_same K object p h.0 g.0) (join (expression_same K e q h.1 g.1) (one (after K q e) h.2 g.2))
      statement_same (SetElem at array index e) p h g =
          let q = after K p array in
          let r = after K q index in
          join (expression_same K array p h.0 g.0)
          (join (expression_same K index q h.1 g.1) (join (expression_same K e r h.2 g.2) (one (after K r e) h.3 g.3)))
      statement_same (Drop e) p h g = join (expression_same K e p h.0 g.0) (one (after K p e) h.1 g.1)
      statement_same (Perform e) p h g = expression_same K e p h g
      statement_same (If test body other) p h g =
          let q = after K p test in
          let r = past_all K (q + 1) body in
          let first = statements_same body (q + 1) h.2 g.2 in
          let second = statements_same other (r + 1) h.4 g.4 in
          join (expression_same K test p h.0 g.0)
          (join (one q h.1 g.1) (join first (join (one r h.3 g.3) second)))
      statement_same (While at test body) p h g =
          let q = after K p test in
          let inner = statements_same body (q + 1 + 1) h.3 g.3 in
          join (expression_same K test p h.0 g.0)
          (join (one q h.1 g.1)
          (join (one (q + 1) h.2 g.2) (join inner (one (past_all K (q + 1 + 1) body) h.4 g.4))))
      statement_same (Return None) p h g = one p h g
      statement_same (Return (Some e)) p h g = join (expression_same K e p h.0 g.0) (one (after K p e) h.1 g.1)
      statement_same (Print at parts) p h g = parts_same at parts p h g
      statement_same (Assert at e) p h g = join (expression_same K e p h.0 g.0) (one (after K p e) h.1 g.1)
      statement_same (Exit changes) p h g =
          join (changes_same changes p h.0 g.0) (one (behind_each changes p) h.1 g.1)
      statement_same (Block body) p h g = statements_same body p h g

      pub statements_same :
          (s : TypedStatements) (p : ℕ) → HasStatements K T p s → HasStatements K V p s → Same T V p (past_all K p s)
      statements_same Nothing p h g = none p
      statements_same (Then front last) p h g =
          join (statements_same front p h.0 g.0) (statement_same last (past_all K p front) h.1 g.1)
