-- The code of a statement stays where its instructions stay.
use Rattle.std.proofs.Common.{ℕ, ◌+◌, List, [], ◌∷◌, Option, Some, None}
use Rattle.bc_data.specs.declared.program.Change.{Change}
use Rattle.bc_data.specs.declared.program.Change.TheVariants as change
use Rattle.bc_data.specs.declared.program.Shape.{Shape}
use Rattle.bc_data.specs.declared.run.Place.{Place}
use Rattle.bc_data.specs.Typed.{TypedPart, TextPart, NumberPart, TruthPart, TypedStatement, Set, NewTag, SetField, SetElem, Drop, Perform, If, While, Return, Print, Assert, Exit, Block, TypedStatements, Nothing, Then, TypedClass}
use Rattle.bc_code.specs.declared.code.Instruction.TheVariants as instruction
use Rattle.bc_code.specs.Instructions.{nowhere}
use Rattle.bc_code.specs.Translation.{behind_each, after, after_part, after_parts, past, past_all, HasPart, HasParts, IsChangeCode, AreChanges, HasStatement, HasStatements, IsEnd, behind_end}
use Rattle.bc_gen_expr.proofs.Growing.{Kept, Stays, kept_nothing, kept_at, kept_two, kept_three, kept_four, kept_five}
use Rattle.bc_gen_expr.proofs.Stays.{kept_expression}

kept_change : (x : Change) (p : ℕ) → Kept (λ T. IsChangeCode T p x) p (p + 1)
kept_change (change.Flag n flag b) p = kept_at p (instruction.ExitFlag n flag b) nowhere
kept_change (change.Add at n variable) p = kept_at p (instruction.ExitAdd n variable) at
kept_change (change.Clear n variable) p = kept_at p (instruction.ExitClear n variable) nowhere

kept_changes : (xs : List Change) (p : ℕ) → Kept (λ T. AreChanges T p xs) p (behind_each xs p)
kept_changes [] p = kept_nothing p
kept_changes (x ∷ xs) p = kept_two (kept_change x p) (kept_changes xs (p + 1))

module _ (K : List TypedClass) where
  kept_part : (at : Place) (x : TypedPart) (p : ℕ) → Kept (λ T. HasPart K T at p x) p (after_part K p x)
  kept_part at (TextPart bytes) p = kept_at p (instruction.PrintText bytes) at
  kept_part at (NumberPart e) p = kept_two (kept_expression K e p) (kept_at _ instruction.PrintInt at)
  kept_part at (TruthPart e) p = kept_two (kept_expression K e p) (kept_at _ instruction.PrintBool at)

  kept_parts : (at : Place) (xs : List TypedPart) (p : ℕ) → Kept (λ T. HasParts K T at p xs) p (after_parts K p xs)
  kept_parts at [] p = kept_nothing p
  kept_parts at (x ∷ xs) p = kept_two (kept_part at x p) (kept_parts at xs (after_part K p x))

  mutual
    kept_statement : (s : TypedStatement) (p : ℕ) → Kept (λ T. HasStatement K T p s) p (past K p s)
    kept_statement (Set slot e) p = kept_two (kept_expression K e p) (kept_at _ (instruction.Store slot) nowhere)
    kept_statement (NewTag at variable tag_type) p = kept_at p (instruction.NewTag variable tag_type) at
    kept_statement (SetField at object field e) p =
        kept_three (kept_expression K object p) (kept_expression K e (after K p object)) (kept_at _ (instruction.SetField field) at)
    kept_statement (SetElem at array index e) p =
        kept_four
        (kept_expression K array p)
        (kept_expression K index (after K p array))
        (kept_expression K e (after K (after K p array) index))
        (kept_at _ instruction.SetElem at)
    kept_statement (Drop e) p = kept_two (kept_expression K e p) (kept_at _ instruction.Pop nowhere)
    kept_statement (Perform e) p = kept_expression K e p
    kept_statement (If test body other) p =
        kept_five
        (kept_expression K test p)
        (kept_at (after K p test) (instruction.JumpIfNot (past_all K (after K p test + 1) body + 1)) nowhere)
        (kept_statements body (after K p test + 1))
        (kept_at _ (instruction.Jump (past_all K (past_all K (after K p test + 1) body + 1) other)) nowhere)
        (kept_statements other (past_all K (after K p test + 1) body + 1))
    kept_statement (While at test body) p =
        kept_five
        (kept_expression K test p)
        (kept_at (after K p test) (instruction.JumpIfNot (past_all K (after K p test + 1 + 1) body + 1)) nowhere)
        (kept_at (after K p test + 1) instruction.Turn at)
        (kept_statements body (after K p test + 1 + 1))
        (kept_at _ (instruction.Jump p) nowhere)
    kept_statement (Return None) p = kept_at p instruction.Return nowhere
    kept_statement (Return (Some e)) p = kept_two (kept_expression K e p) (kept_at _ instruction.ReturnValue nowhere)
    kept_statement (Print at parts) p = kept_parts at parts p
    kept_statement (Assert at e) p = kept_two (kept_expression K e p) (kept_at _ instruction.Assert at)
    kept_statement (Exit changes) p = kept_two (kept_changes changes p) (kept_at _ instruction.Exit nowhere)
    kept_statement (Block body) p = kept_statements body p

    kept_statements : (ss : TypedStatements) (p : ℕ) → Kept (λ T. HasStatements K T p ss) p (past_all K p ss)
    kept_statements Nothing p = kept_nothing p
    kept_statements (Then front last) p = kept_two (kept_statements front p) (kept_statement last (past_all K p front))

  pub stays_part : (at : Place) (x : TypedPart) → Stays (λ T p. HasPart K T at p x) (λ p. after_part K p x)
  stays_part at x = record { kept = kept_part at x }

  pub stays_parts : (at : Place) (xs : List TypedPart) → Stays (λ T p. HasParts K T at p xs) (λ p. after_parts K p xs)
  stays_parts at xs = record { kept = kept_parts at xs }

  pub stays_statement : (s : TypedStatement) → Stays (λ T p. HasStatement K T p s) (λ p. past K p s)
  stays_statement s = record { kept = kept_statement s }

  pub stays_statements : (ss : TypedStatements) → Stays (λ T p. HasStatements K T p ss) (λ p. past_all K p ss)
  stays_statements ss = record { kept = kept_statements ss }

pub stays_change : (x : Change) → Stays (λ T p. IsChangeCode T p x) (λ p. p + 1)
stays_change x = record { kept = kept_change x }

pub stays_changes : (xs : List Change) → Stays (λ T p. AreChanges T p xs) (behind_each xs)
stays_changes xs = record { kept = kept_changes xs }

kept_end : (r : Option Shape) (p : ℕ) → Kept (λ T. IsEnd T p r) p (behind_end r p)
kept_end None p = kept_at p instruction.Return nowhere
kept_end (Some sh) p = kept_two (kept_at p instruction.Null nowhere) (kept_at (p + 1) instruction.ReturnValue nowhere)

pub stays_end : (r : Option Shape) → Stays (λ T p. IsEnd T p r) (behind_end r)
stays_end r = record { kept = kept_end r }
