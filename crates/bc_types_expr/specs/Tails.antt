-- Leaves, and what is behind the children of a node.
use Rattle.std.specs.Prelude.{ℕ, [], Option, is_some}
use Rattle.bc_data.specs.SourceTree.{Sequence}
use Rattle.bc_data.specs.declared.tree.ActionText.{ActionText}
use Rattle.bc_data.specs.declared.tree.Named.{Named}
use Rattle.bc_data.specs.declared.tree.TypeText.{TypeText}
use Rattle.bc_data.specs.declared.run.Place.{Place}
use Rattle.bc_data.specs.declared.program.Op.{Op}
use Rattle.bc_data.specs.declared.program.Shape.TheVariants as shape
use Rattle.bc_data.specs.Shapes.{result_shape, shape_of_kind}
use Rattle.bc_types_rules.specs.Got.{Got, Gives, Unknown, Mismatch, Misplaced, ask, find, ◌>>=◌, ◌>>◌}
use Rattle.bc_types_rules.specs.Numbering.{try_fold}
use Rattle.bc_data.specs.Typed as typed
use Rattle.bc_types_rules.specs.Context.{Known, Names, Scope, field_at, meaning_of, is_int, is_bool, element_of}
use Rattle.bc_types_rules.specs.Expressions.{Typed, Arguments, Called, array_at, check_arguments, check_call, check_tweak, slot_value, takes}

abbrev pub this_object : Option ℕ → Place → Got Typed
this_object me at = do
  c ← find me Misplaced at
  Gives (record { code = typed.Local 0; type = Known (shape.Class c) })

abbrev pub named : Scope → Named → Got Typed
named s x = do
  m ← find (meaning_of s x) Unknown x.at
  find (slot_value m) Mismatch x.at

abbrev pub negated : Place → Typed → Got Typed
negated at x = do
  ask (is_int x.type) Mismatch at
  Gives (record { code = typed.Neg x.code; type = Known shape.Int })

abbrev pub denied : Place → Typed → Got Typed
denied at x = do
  ask (is_bool x.type) Mismatch at
  Gives (record { code = typed.Not x.code; type = Known shape.Bool })

abbrev pub operated : Place → Op → Typed → Typed → Got Typed
operated at op x y = do
  ask (takes op x.type y.type) Mismatch at
  Gives (record { code = typed.Two at op x.code y.code; type = Known (result_shape op) })

abbrev pub field_of : Names → Place → Typed → Named → Got Typed
field_of N at o x = do
  r ← field_at N o.type at x
  Gives (record { code = typed.FieldOf at o.code r.field; type = r.type })

abbrev pub length_of : Place → Typed → Got Typed
length_of at x = do
  ask (is_some (element_of x.type)) Mismatch at
  Gives (record { code = typed.Length at x.code; type = Known shape.Int })

abbrev pub element_at : Place → Typed → Typed → Got Typed
element_at at x y = do
  t ← find (element_of x.type) Mismatch at
  ask (is_int y.type) Mismatch at
  Gives (record { code = typed.Elem at x.code y.code; type = t })

abbrev pub called_value : Place → Called → Got Typed
called_value at z = do
  t ← find z.result Mismatch at
  Gives (record { code = z.code; type = t })

abbrev pub call_value : Names → Place → Typed → Named → Arguments → Got Typed
call_value N at o x ys = do
  z ← check_call N at o x ys
  called_value at z

abbrev pub made : Names → Scope → Place → Named → Arguments → Sequence ActionText → Got Typed
made N s at x ys tweaks = do
  c ← find (N.class_of x.name) Unknown x.at
  check_arguments at ys.each (N.maker_formals c)
  ts ← try_fold (check_tweak N s c) [] tweaks
  Gives (record { code = typed.Make at c ys.codes ts; type = Known (shape.Class c) })

abbrev pub array_of : Names → Place → TypeText → Typed → Got Typed
array_of N at t x = do
  k ← array_at N t.base t.at
  ask (is_int x.type) Mismatch at
  Gives (record { code = typed.Array at k x.code; type = Known (shape_of_kind k) })
