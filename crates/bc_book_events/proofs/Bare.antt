-- Whether an invocation is enabled doesn't depend on cells.
use Rattle.std.proofs.Common.{◌≡◌, ℕ, Bool, ◌&&◌, ◌==◌, List, [], ◌∷◌, map, length, Option, Some, None, refl, ap, ap₂, ◌∙◌, sym}
use Rattle.std.specs.Prelude.{All, nat_lt, option_map, slice_get}
use Rattle.std.specs.List.{list_all}
use Rattle.std.proofs.lemmas.Option.{none-some, same_Some, slice_get-map}
use Rattle.bc_data.specs.Guard.{guard_truth}
use Rattle.bc_data.specs.Typed.{TypedParam, TypedProgram, TypedTask}
use Rattle.bc_data.specs.declared.run.Body.{Body}
use Rattle.bc_data.specs.declared.run.Invocation.{Invocation}
use Rattle.bc_mean.specs.declared.plain.Plain.{Plain}
use Rattle.bc_mean.specs.Enabled.{are_different, carries, is_class, is_enabled, is_some_and, take_all, takes}
use Rattle.bc_mean.proofs.Enabled.{named_alone}
use Rattle.bc_book_events.specs.Reshaped.{bare, bare_at}

-- the store without cells
abbrev bare_store : Plain → Plain
bare_store S = record { bodies = map bare S.bodies; tags = S.tags; output = S.output }

bare_takes : (S : Plain) (t : TypedTask) (tags : List ℕ) (p : TypedParam) (id : ℕ) → takes S t tags p id ≡ takes (bare_store S) t tags p id
bare_takes S t tags p id = at (slice_get S.bodies id) ∙ ap (λ (o : Option Body). is_some_and o test) (sym (slice_get-map bare S.bodies id))
  where
    test : Body → Bool
    test b = is_class p.class b.kind && guard_truth p.guard b.flags && list_all (carries S t tags b) p.binds

    at : (o : Option Body) → is_some_and o test ≡ is_some_and (option_map bare o) test
    at None = refl
    at (Some b) = refl

bare_take_all : (S : Plain) (t : TypedTask) (tags : List ℕ) (ps : List TypedParam) (ids : List ℕ) → take_all S t tags ps ids ≡ take_all (bare_store S) t tags ps ids
bare_take_all S t tags [] [] = refl
bare_take_all S t tags [] (id ∷ ids) = refl
bare_take_all S t tags (p ∷ ps) [] = refl
bare_take_all S t tags (p ∷ ps) (id ∷ ids) = ap₂ (λ (a b : Bool). a && b) (bare_takes S t tags p id) (bare_take_all S t tags ps ids)

bare_enabled : (P : TypedProgram) (S : Plain) (v : Invocation) → is_enabled P S v ≡ is_enabled P (bare_store S) v
bare_enabled P S v = at (slice_get P.tasks v.task)
  where
    with_taken : TypedTask → Bool → Bool
    with_taken t taken = (length v.tags == length t.variables) && taken && are_different v.objects && list_all (λ n. nat_lt n (length S.tags)) v.tags

    at : (o : Option TypedTask) → is_some_and o (λ t. with_taken t (take_all S t v.tags t.params v.objects)) ≡ is_some_and o (λ t. with_taken t (take_all (bare_store S) t v.tags t.params v.objects))
    at None = refl
    at (Some t) = ap (with_taken t) (bare_take_all S t v.tags t.params v.objects)

bare_get : (S T : Plain) (ids : List ℕ) → All (λ id. bare_at S id ≡ bare_at T id) ids → All (λ id. slice_get (map bare S.bodies) id ≡ slice_get (map bare T.bodies) id) ids
bare_get S T ids a k d l = slice_get-map bare S.bodies _ ∙ (a k d l ∙ sym (slice_get-map bare T.bodies _))

-- It depends on the kinds, flags and tags of the objects and on the types of the instances that it names alone.
pub bare_alone :
    (P : TypedProgram) (S T : Plain) (v : Invocation)
    → All (λ id. bare_at S id ≡ bare_at T id) v.objects
    → All (λ n. slice_get S.tags n ≡ slice_get T.tags n) v.tags
    → is_enabled P S v ≡ is_enabled P T v
bare_alone P S T v a h = bare_enabled P S v ∙ (named_alone P (bare_store S) (bare_store T) v (bare_get S T v.objects a) h ∙ sym (bare_enabled P T v))

-- a body with the same kind, flags and tags
pub bare_there : (o : Option Body) (body : Body) → option_map bare o ≡ Some (bare body) → (b : Body) × (o ≡ Some b) × (bare b ≡ bare body)
bare_there None body e = absurd (none-some (bare body) e)
bare_there (Some b) body e = (b, refl, same_Some (bare b) (bare body) e)
