-- Bodies that are the same but for their cells.
use Rattle.std.proofs.Common.{◌≡◌, ℕ, Bool, true, ◌&&◌, ◌==◌, List, [], ◌∷◌, Option, Some, None, refl, sym, ap, ◌∙◌}
use Rattle.std.specs.Prelude.{option_map, slice_get}
use Rattle.std.specs.List.{list_any}
use Rattle.std.specs.Cmp.Lexicographic.{pointwise}
use Rattle.std.proofs.lemmas.Bool.{and_parts, eqb-true, false≢true}
use Rattle.bc_data.specs.Typed.{TypedParam, TypedTask}
use Rattle.bc_data.specs.declared.run.Body.{Body}
use Rattle.bc_data.specs.declared.run.Kind.{Kind}
use Rattle.bc_data.specs.declared.run.Kind.TheVariants as kind
use Rattle.bc_data.specs.declared.run.TagRef.{TagRef}
use Rattle.bc_data.specs.declared.run.TagRef.TheVariants as tag
use Rattle.bc_mean.specs.Changes.{same_kind}
use Rattle.bc_mean.specs.Enabled.{is_some_and, is_instance}
use Rattle.bc_mean.specs.Values.{same_tag}
use Rattle.bc_params_sets.specs.declared.tag_index.Binding.{Binding}
use Rattle.bc_params_sets.specs.declared.place.Place.{Place}
use Rattle.bc_params_sets.specs.declared.place.TaskSets.{TaskSets}
use Rattle.bc_params_sets.specs.Kept.{ArePlaces, AreTasks, fits}
use Rattle.bc_book_events.specs.Reshaped.{bare}
use Rattle.bc_book_reshaped.specs.Reshaped.{same_shape}
use Rattle.bc_book_reshaped.specs.Laws.{SameShape}

tag_same : (s t : TagRef) → same_tag s t ≡ true → s ≡ t
tag_same (tag.Old m) (tag.Old n) h = ap tag.Old (eqb-true m n h)
tag_same (tag.New m) (tag.New n) h = ap tag.New (eqb-true m n h)
tag_same _ _ h = absurd (false≢true h)

tags_same : (s t : List TagRef) → pointwise same_tag s t ≡ true → s ≡ t
tags_same [] [] h = refl
tags_same [] (y ∷ ys) h = absurd (false≢true h)
tags_same (x ∷ xs) [] h = absurd (false≢true h)
tags_same (x ∷ xs) (y ∷ ys) h = let q = and_parts (same_tag x y) (pointwise same_tag xs ys) h in λ i. tag_same x y q.0 i ∷ tags_same xs ys q.1 i

kind_same : (k l : Kind) → same_kind k l ≡ true → k ≡ l
kind_same (kind.Class c) (kind.Class d) h = ap kind.Class (eqb-true c d h)
kind_same kind.Ints kind.Ints h = refl
kind_same kind.Bools kind.Bools h = refl
kind_same (kind.Objects c) (kind.Objects d) h = ap kind.Objects (eqb-true c d h)
kind_same _ _ h = absurd (false≢true h)

pub shape_bare : (a b : Body) → same_shape a b ≡ true → bare a ≡ bare b
shape_bare a b h =
    let q = and_parts (same_kind a.kind b.kind && (a.flags == b.flags)) (pointwise same_tag a.tags b.tags) h in
    let r = and_parts (same_kind a.kind b.kind) (a.flags == b.flags) q.0 in
    let k : a.kind ≡ b.kind = kind_same a.kind b.kind r.0 in
    let f : a.flags ≡ b.flags = eqb-true a.flags b.flags r.1 in
    let t : a.tags ≡ b.tags = tags_same a.tags b.tags q.1 in
    λ i. record { kind = k i; cells = []; flags = f i; tags = t i }

-- a test that reads no cells
read_bare : (test : Body → Bool) → ((b : Body) → test b ≡ test (bare b)) → (o p : Option Body) → option_map bare o ≡ option_map bare p → is_some_and o test ≡ is_some_and p test
read_bare test h o p e = at o ∙ ap (λ (q : Option Body). is_some_and q test) e ∙ sym (at p)
  where
    at : (q : Option Body) → is_some_and q test ≡ is_some_and (option_map bare q) test
    at None = refl
    at (Some b) = h b

module _ (look other : ℕ → Option Body) (e : (x : ℕ) → option_map bare (other x) ≡ option_map bare (look x)) where
  fits_alike : (p : TypedParam) (x : ℕ) → fits p (look x) ≡ fits p (other x)
  fits_alike p x = read_bare (λ b. is_some_and (Some b) (λ a. fits p (Some a))) (λ b. refl) (look x) (other x) (sym (e x))

  places_alike : (ps : List TypedParam) (qs : List Place) → ArePlaces look ps qs → ArePlaces other ps qs
  places_alike [] [] a = tt
  places_alike [] (q ∷ qs) a = absurd a
  places_alike (p ∷ ps) [] a = absurd a
  places_alike (p ∷ ps) (q ∷ qs) a = (record { class = a.0.class; guard = a.0.guard; binds = a.0.binds; objects = λ x. a.0.objects x ∙ fits_alike p x }, places_alike ps qs a.1)

  tasks_alike : (ts : List TypedTask) (ss : List TaskSets) → AreTasks look ts ss → AreTasks other ts ss
  tasks_alike [] [] a = tt
  tasks_alike [] (s ∷ ss) a = absurd a
  tasks_alike (t ∷ ts) [] a = absurd a
  tasks_alike (t ∷ ts) (s ∷ ss) a = (record { places = places_alike t.params s.places a.0.places; variables = a.0.variables }, tasks_alike ts ss a.1)

-- a body carries the instance of a binding, of its type
carries_it : List ℕ → Binding → Body → Bool
carries_it types c b = list_any (is_instance c.instance) b.tags && is_some_and (slice_get types c.instance) (λ own. own == c.tag_type)

pub sets_alike : SameShape
unfolding carries_it
sets_alike P look other types k e a = record {
  tasks = tasks_alike look other e P.tasks k.tasks a.tasks;
  bound = λ c. a.bound c ∙ read_bare (carries_it types c) (λ b. refl) (look c.object) (other c.object) (sym (e c.object));
}
