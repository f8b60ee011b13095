-- The tag variables that a task's parameters bind.
use Rattle.std.proofs.Common.{◌≡◌, ℕ, ◌<◌, List, [], ◌∷◌, ◌++◌, ap, sym, ◌∙◌}
use Rattle.std.specs.Prelude.{nat_lt}
use Rattle.std.specs.List.{filter_map}
use Rattle.std.proofs.lemmas.Bool.{ltb-true}
use Rattle.std.proofs.lemmas.List.Elements.{filter_map-append}
use Rattle.bc_data.specs.declared.tree.Named.{Named}
use Rattle.bc_types_rules.specs.Got.{Gives, TooMany, ask}
use Rattle.bc_types_rules.specs.Bodies.{type_of_tag}
use Rattle.bc_types_rules.specs.Context.{ParameterIs, Scope, TagIs, with_parameter, with_tag}
use Rattle.bc_types_rules.proofs.Steps.{asked, gives_eq, step_back}
use Rattle.bc_types_expr.specs.Scopes.{declare_variable}
use Rattle.std.proofs.lemmas.List.{append-nil}

-- a variable that is declared, and that there was room for it
pub variable_declared : (s t : Scope) (x : Named) (tag_type : ℕ) → declare_variable s x tag_type ≡ Gives t → (t ≡ with_tag s x tag_type) × (s.tags < 4)
variable_declared s t x tag_type h =
    let b = step_back (ask (nat_lt s.tags 4) TooMany x.at) _ t h in
    (sym (gives_eq _ _ b.2), ltb-true s.tags 4 (asked (nat_lt s.tags 4) TooMany x.at b.0 b.1))

-- the types of tag variables with one more
pub types_with_variable : (types more : List ℕ) (s t : Scope) (x : Named) (tag_type : ℕ) → types ≡ filter_map type_of_tag s.known → more ≡ types ++ tag_type ∷ [] → t ≡ with_tag s x tag_type → more ≡ filter_map type_of_tag t.known
types_with_variable types more s t x tag_type known p e =
    p ∙ ap (λ l. l ++ tag_type ∷ []) known
    ∙ sym (filter_map-append type_of_tag s.known (record { name = x.name; meaning = TagIs s.tags tag_type } ∷ []))
    ∙ ap (λ u. filter_map type_of_tag u.known) (sym e)

-- a parameter is no tag variable
pub types_with_parameter : (types : List ℕ) (s t : Scope) (x : Named) (class : ℕ) → types ≡ filter_map type_of_tag s.known → t ≡ with_parameter s x class → types ≡ filter_map type_of_tag t.known
types_with_parameter types s t x class known e =
    known ∙ sym (append-nil (filter_map type_of_tag s.known))
    ∙ sym (filter_map-append type_of_tag s.known (record { name = x.name; meaning = ParameterIs s.slots class } ∷ []))
    ∙ ap (λ u. filter_map type_of_tag u.known) (sym e)
