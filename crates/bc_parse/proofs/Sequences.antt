-- One more at the end of a list.
use Rattle.std.proofs.Common.{◌≡◌, List, [], ◌∷◌, ◌++◌, refl}
use Rattle.bc_data.specs.SourceTree.{Sequence, More, Param}
use Rattle.bc_data.specs.SourceTree as source
use Rattle.bc_data.specs.View.{view_member, view_param, view_text_item, onto_by}
use Rattle.bc_data.specs.declared.tree.Member.{Member}
use Rattle.bc_data.specs.declared.tree.ParamText.{ParamText}
use Rattle.bc_data.specs.declared.tree.Item.{Item}

pub members_push : (xs : List Member) (x : Member) (front : Sequence source.Member) → onto_by view_member (xs ++ x ∷ []) front ≡ More (onto_by view_member xs front) (view_member x)
members_push [] x front = refl
members_push (y ∷ xs) x front = members_push xs x (More front (view_member y))

pub params_push : (xs : List ParamText) (x : ParamText) (front : Sequence Param) → onto_by view_param (xs ++ x ∷ []) front ≡ More (onto_by view_param xs front) (view_param x)
params_push [] x front = refl
params_push (y ∷ xs) x front = params_push xs x (More front (view_param y))

pub items_push : (xs : List Item) (x : Item) (front : Sequence source.Item) → onto_by view_text_item (xs ++ x ∷ []) front ≡ More (onto_by view_text_item xs front) (view_text_item x)
items_push [] x front = refl
items_push (y ∷ xs) x front = items_push xs x (More front (view_text_item y))
