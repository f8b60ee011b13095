-- Laws of the rules, each kept by a function of `laws`.
use Rattle.std.specs.Prelude.{◌≡◌, ◌⊎◌, ◌↔◌}
use Rattle.bc_data.specs.SourceTree.{Sequence, Expression, Statement, Item}
use Rattle.bc_types_rules.specs.Got.{Gives, Kind}
use Rattle.bc_data.specs.Typed.{TypedExpression, TypedStatement, TypedProgram}
use Rattle.bc_types_rules.specs.Context.{ValueType, Context, Scope}
use Rattle.bc_types_rules.specs.Expressions.{infer}
use Rattle.bc_types_rules.specs.Statements.{state}
use Rattle.bc_types_rules.specs.ExpressionRules.{Has}
use Rattle.bc_types_rules.specs.StatementRules.{Does}
use Rattle.bc_types_rules.specs.ProgramRules.{IsProgramOf}
use Rattle.bc_types_rules.specs.Walk.{Accepts, HasTypeFault}
use Rattle.bc_data.specs.declared.run.Place.{Place}

-- The definition gives of an expression exactly what the rules allow.
abbrev pub InferIsHas : Type 0
InferIsHas =
    (G : Context) (s : Scope) (e : Expression) (t : ValueType) (c : TypedExpression)
    → (infer G s e ≡ Gives (record { code = c; type = t })) ↔ Has G s e t c

-- An expression has at most one type and one code.
abbrev pub HasOne : Type 0
HasOne =
    (G : Context) (s : Scope) (e : Expression) (t u : ValueType) (c d : TypedExpression)
    → Has G s e t c → Has G s e u d → (t ≡ u) × (c ≡ d)

-- The definition gives of a statement exactly what the rules allow.
abbrev pub StateIsDoes : Type 0
StateIsDoes =
    (G : Context) (s : Scope) (x : Statement) (d : TypedStatement) (t : Scope)
    → (state G s x ≡ Gives (record { code = d; scope = t })) ↔ Does G s x d t

-- A statement has at most one code and one scope behind it.
abbrev pub DoesOne : Type 0
DoesOne =
    (G : Context) (s : Scope) (x : Statement) (d e : TypedStatement) (t u : Scope)
    → Does G s x d t → Does G s x e u → (d ≡ e) × (t ≡ u)

-- The definition accepts of a text exactly what the rules allow.
abbrev pub AcceptsIsProgram : Type 0
AcceptsIsProgram = (items : Sequence Item) (p : TypedProgram) → Accepts items p ↔ IsProgramOf items p

-- Items are at most one program.
abbrev pub OneProgram : Type 0
OneProgram = (items : Sequence Item) (p q : TypedProgram) → IsProgramOf items p → IsProgramOf items q → p ≡ q

-- Items that are no program have one first fault, and others have none.
pub record ProgramOrFault : Type 0 where
  pub one : (items : Sequence Item) → ((p : TypedProgram) × IsProgramOf items p) ⊎ ((kind : Kind) × (at : Place) × HasTypeFault items kind at)
  pub not_both : (items : Sequence Item) (p : TypedProgram) (kind : Kind) (at : Place) → IsProgramOf items p → HasTypeFault items kind at → ⊥
  pub one_fault :
      (items : Sequence Item) (kind kind_2 : Kind) (at at_2 : Place)
      → HasTypeFault items kind at → HasTypeFault items kind_2 at_2 → (kind ≡ kind_2) × (at ≡ at_2)
