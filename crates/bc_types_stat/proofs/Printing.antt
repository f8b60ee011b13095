-- The items of a `print`, read and asked for their types one by one.
use Rattle.std.proofs.Common.{◌≡◌, List, [], ◌∷◌, ◌++◌, refl, ap, sym, ◌∙◌, subst}
use Rattle.bc_data.specs.SourceTree.{Sequence, Empty, More, PrintItem, TextItem, ValueItem, Print}
use Rattle.bc_data.specs.declared.run.Place.{Place}
use Rattle.bc_types_rules.specs.Got.{Got, Gives, Fails, ◌>>=◌}
use Rattle.bc_types_rules.specs.Numbering.{try_fold}
use Rattle.bc_data.specs.Typed as typed
use Rattle.bc_data.specs.Typed.{TypedPart}
use Rattle.bc_types_rules.specs.Context.{Context, Scope}
use Rattle.bc_types_rules.specs.Expressions.{Typed, infer, place_of}
use Rattle.bc_types_rules.specs.Statements.{Stated, ReadItem, ReadText, ReadValue, read_item, check_part, check_parts, state}
use Rattle.bc_names.specs.Answers.{Stops}
use Rattle.bc_names.specs.declared.fault.TypeFault.{TypeFault}
use Rattle.bc_types_stat.specs.Bodies.{read_next, stated, with_part}
use Rattle.bc_types_stat.proofs.Chains.{assoc, stops_then}

with_part-front : (g : Got TypedPart) (h : Got (List TypedPart)) (k : Got TypedPart) → (g >>= λ p. (with_part h k >>= λ ps. Gives (p ∷ ps))) ≡ with_part (g >>= λ p. (h >>= λ ps. Gives (p ∷ ps))) k
with_part-front (Fails kind at) h k = refl
with_part-front (Gives p) (Fails kind at) k = refl
with_part-front (Gives p) (Gives ps) (Fails kind at) = refl
with_part-front (Gives p) (Gives ps) (Gives q) = refl

check_parts-push : (xs : List ReadItem) (x : ReadItem) → check_parts (xs ++ x ∷ []) ≡ with_part (check_parts xs) (check_part x)
check_parts-push [] x = refl
check_parts-push (y ∷ ys) x = ap (λ g. check_part y >>= λ p. (g >>= λ ps. Gives (p ∷ ps))) (check_parts-push ys x) ∙ with_part-front (check_part y) (check_parts ys) (check_part x)

value_next : (xs : List ReadItem) (g : Got Typed) (at : Place) → ((g >>= λ x. Gives (xs ++ ReadValue x at ∷ [])) >>= λ ys. Gives (check_parts ys)) ≡ ((g >>= λ x. Gives (check_part (ReadValue x at))) >>= λ p. Gives (with_part (check_parts xs) p))
value_next xs (Gives x) at = ap Gives (check_parts-push xs (ReadValue x at))
value_next xs (Fails kind place) at = refl

item_next : (G : Context) (s : Scope) (xs : List ReadItem) (item : PrintItem) → (read_item G s xs item >>= λ ys. Gives (check_parts ys)) ≡ read_next G s (check_parts xs) item
item_next G s xs (TextItem meaning) = ap Gives (check_parts-push xs (ReadText meaning))
item_next G s xs (ValueItem e) = value_next xs (infer G s e) (place_of e)

one_more : (G : Context) (s : Scope) (g : Got (List ReadItem)) (item : PrintItem) → ((g >>= λ xs. read_item G s xs item) >>= λ ys. Gives (check_parts ys)) ≡ ((g >>= λ xs. Gives (check_parts xs)) >>= λ ps. read_next G s ps item)
one_more G s (Gives xs) item = item_next G s xs item
one_more G s (Fails kind at) item = refl

items_read : (G : Context) (s : Scope) (items : Sequence PrintItem) → (try_fold (read_item G s) [] items >>= λ xs. Gives (check_parts xs)) ≡ try_fold (read_next G s) (Gives []) items
items_read G s Empty = refl
items_read G s (More front item) = one_more G s (try_fold (read_item G s) [] front) item ∙ ap (λ g. g >>= λ ps. read_next G s ps item) (items_read G s front)

-- a `print` from its items as they are read
pub print_is : (G : Context) (s : Scope) (at : Place) (items : Sequence PrintItem) → state G s (Print at items) ≡ (try_fold (read_next G s) (Gives []) items >>= λ g. (g >>= λ ps. Gives (stated (typed.Print at ps) s)))
print_is G s at items =
    let last : Got (List TypedPart) → Got Stated = λ g. (g >>= λ ps. Gives (stated (typed.Print at ps) s)) in
    sym (assoc (try_fold (read_item G s) [] items) (λ xs. Gives (check_parts xs)) last) ∙ ap (λ h. h >>= last) (items_read G s items)

module _ (G : Context) (s : Scope) (at : Place) (items : Sequence PrintItem) (g : Got (List TypedPart)) where
  behind : try_fold (read_next G s) (Gives []) items ≡ Gives g → state G s (Print at items) ≡ (g >>= λ ps. Gives (stated (typed.Print at ps) s))
  behind read = print_is G s at items ∙ ap (λ h. h >>= λ g. (g >>= λ ps. Gives (stated (typed.Print at ps) s))) read

  -- an item that can't be printed
  pub print_misfit : (f : TypeFault) → try_fold (read_next G s) (Gives []) items ≡ Gives g → Stops f g → Stops f (state G s (Print at items))
  print_misfit f read stop = subst (Stops f) (sym (behind read)) (stops_then f g (λ ps. Gives (stated (typed.Print at ps) s)) stop)

  pub print_gives : (ps : List TypedPart) → try_fold (read_next G s) (Gives []) items ≡ Gives g → g ≡ Gives ps → state G s (Print at items) ≡ Gives (stated (typed.Print at ps) s)
  print_gives ps read e = behind read ∙ ap (λ g. g >>= λ ps. Gives (stated (typed.Print at ps) s)) e
