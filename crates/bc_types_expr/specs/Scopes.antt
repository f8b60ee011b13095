-- Scopes as contracts see them.
use Rattle.std.specs.Prelude.{ℕ, List, map, nat_lt, take}
use Rattle.bc_data.specs.declared.program.Shape.{Shape}
use Rattle.bc_types_rules.specs.Got.{Got, Gives, Twice, TooMany, ask, ◌>>◌}
use Rattle.bc_types_rules.specs.Context as rules
use Rattle.bc_data.specs.declared.tree.Named.{Named}
use Rattle.bc_types_expr.specs.declared.scope.Meaning.{Meaning}
use Rattle.bc_types_expr.specs.declared.scope.Meaning.TheVariants as meaning
use Rattle.bc_types_expr.specs.declared.scope.InScope.{InScope}

abbrev pub meaning_seen : Meaning → rules.Meaning
meaning_seen (meaning.Slot slot sh) = rules.SlotIs slot sh
meaning_seen (meaning.Parameter slot class) = rules.ParameterIs slot class
meaning_seen (meaning.Tag variable tag_type) = rules.TagIs variable tag_type

abbrev pub in_scope_seen : InScope → rules.InScope
in_scope_seen l = record { name = l.name; meaning = meaning_seen l.meaning }

abbrev pub known_seen : List InScope → List rules.InScope
known_seen ls = map in_scope_seen ls

-- the scope with so many of its names alone
abbrev pub with_first : ℕ → rules.Scope → rules.Scope
with_first n s = record { known = take n s.known; slots = s.slots; tags = s.tags; count = s.count }

abbrev pub named_as : Named → rules.Meaning → rules.InScope
named_as x m = record { name = x.name; meaning = m }

-- a formal of a method, of which there are at most 16
abbrev pub declare_formal : rules.Scope → Named → Shape → Got rules.Scope
declare_formal s x sh = do
  ask (rules.is_free s x) Twice x.at
  ask (nat_lt s.count 16) TooMany x.at
  Gives (rules.with_slot s x sh)

-- a parameter of a task, of which there are at most 4
abbrev pub may_be_parameter : rules.Scope → Named → Got (Unit {0})
may_be_parameter s x = do
  ask (rules.is_free s x) Twice x.at
  ask (nat_lt s.slots 4) TooMany x.at

-- a tag variable that a task's parameters bind, of which there are at most 4
abbrev pub declare_variable : rules.Scope → Named → ℕ → Got rules.Scope
declare_variable s x tag_type = do
  ask (nat_lt s.tags 4) TooMany x.at
  Gives (rules.with_tag s x tag_type)
