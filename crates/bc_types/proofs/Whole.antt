-- A class that the walk adds, and the whole check.
use Rattle.std.proofs.Common.{◌≡◌, ℕ, [], ◌∷◌, ◌++◌, length, ap, sym, ◌∙◌}
use Rattle.bc_data.specs.SourceTree as source
use Rattle.bc_data.specs.SourceTree.{Sequence, ClassItem}
use Rattle.bc_data.specs.declared.tree.Named.{Named}
use Rattle.bc_types_rules.specs.Got.{Gives, ◌>>=◌}
use Rattle.bc_types_rules.specs.Numbering.{Spaces, number_of, numbering, try_fold}
use Rattle.bc_data.specs.Typed.{TypedClass, TypedProgram}
use Rattle.bc_types_rules.specs.Context.{Names}
use Rattle.bc_types_rules.specs.Declared.{names_by, names_of, types_of}
use Rattle.bc_types_rules.specs.Walk.{check, check_item, check_member, empty_class, walk}
use Rattle.bc_names.specs.Answers.{Stops}
use Rattle.bc_names.specs.declared.fault.TypeFault.{TypeFault}
use Rattle.bc_names.specs.declared.fault.TypeFault.TheVariants as fault
use Rattle.bc_types_expr.specs.Looks.{all_types_seen, looks}
use Rattle.bc_types_expr.specs.declared.table.Table.{Table}

-- a class whose number is that of those before it
module _ (N : Names) (p : TypedProgram) (me : ℕ) (x : Named) (members : Sequence source.Member) (next : me ≡ length p.classes) where
  abbrev with_class : TypedClass → TypedProgram
  with_class c = record p { classes = p.classes ++ c ∷ [] }

  class_item : check_item N p (ClassItem x members) ≡ (try_fold (check_member N me) (empty_class x.name) members >>= λ c. Gives (with_class c))
  class_item = ap (λ n. try_fold (check_member N n) (empty_class x.name) members >>= λ c. Gives (with_class c)) (sym next)

  pub class_stops : (z : TypeFault) → Stops z (try_fold (check_member N me) (empty_class x.name) members) → Stops z (check_item N p (ClassItem x members))
  class_stops fault.Memory h = tt
  class_stops (fault.Refused kind at) h = class_item ∙ ap (λ g. g >>= λ c. Gives (with_class c)) h

  pub class_joins : (c : TypedClass) (q : TypedProgram) → try_fold (check_member N me) (empty_class x.name) members ≡ Gives c → q ≡ record p { classes = p.classes ++ c ∷ [] } → check_item N p (ClassItem x members) ≡ Gives q
  class_joins c q h r = class_item ∙ ap (λ g. g >>= λ c. Gives (with_class c)) h ∙ ap Gives (sym r)

-- what the table makes known is what the names of the items mean
pub looks_right : (t : Table) (items : Sequence source.Item) → all_types_seen t.types.items ≡ types_of (number_of t.names.classes) items → looks t ≡ names_of t.names items
looks_right t items e = ap (names_by t.names) e

-- behind the numbering the check is the walk
pub check_walks : (t : Table) (items : Sequence source.Item) → numbering items ≡ Gives t.names → all_types_seen t.types.items ≡ types_of (number_of t.names.classes) items → check items ≡ walk (looks t) items
check_walks t items h e =
    ap (λ g. g >>= λ (S : Spaces). walk (names_of S items) items) h
    ∙ ap (λ N. walk N items) (sym (looks_right t items e))
