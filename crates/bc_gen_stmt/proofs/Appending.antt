-- How the units of a program are put behind one another.
use Rattle.std.proofs.Common.{◌≡◌, ℕ, zero, suc, ◌+◌, List, [], ◌∷◌, ◌++◌, length, map, take, Option, Some, None, ◌⊎◌, inl, inr, refl, sym, ◌∙◌, ap, subst, arith, length-append}
use Rattle.std.specs.Prelude.{slice_get}
use Rattle.std.proofs.lemmas.List.{take-append-le, take_all}
use Rattle.std.proofs.lemmas.Option.{none-some, same_Some, slice_get_within}
use Rattle.bc_data.specs.declared.program.Field.{Field}
use Rattle.bc_data.specs.Typed.{TypedMethod, TypedClass, TypedProgram}
use Rattle.bc_mean.specs.Values.{zero_of}
use Rattle.bc_code.specs.declared.code.Unit.{Unit as CodeUnit}
use Rattle.bc_code.specs.declared.code.ClassCode.{ClassCode}
use Rattle.bc_code.specs.Translation.{IsTaskUnit, IsMethodUnit, HasMethodUnit, IsMakerCode, IsClassCode, makers, units_in, Translates}
use Rattle.bc_gen_stmt.specs.Units.{StillThere, Appended, HasMaker, HasClass, HasClasses}

-- what is in a list with one more at its end
get_push : {A : Type 0} (xs : List A) (x : A) (n : ℕ) (y : A) → slice_get (xs ++ x ∷ []) n ≡ Some y → (slice_get xs n ≡ Some y) ⊎ ((n ≡ length xs) × (x ≡ y))
get_push [] x zero y e = inr (refl, same_Some x y e)
get_push [] x (suc n) y e = absurd (none-some y e)
get_push (z ∷ xs) x zero y e = inl e
get_push (z ∷ xs) x (suc n) y e = elim (get_push xs x n y e) [ inl h ↦ inl h | inr h ↦ inr (ap suc h.0, h.1) ]

still_there : (us : List CodeUnit) (u : CodeUnit) → StillThere us (us ++ u ∷ [])
still_there [] u n x e = absurd (none-some x e)
still_there (z ∷ us) u zero x e = e
still_there (z ∷ us) u (suc n) x e = still_there us u n x e

get_last : (us : List CodeUnit) (u : CodeUnit) → slice_get (us ++ u ∷ []) (length us) ≡ Some u
get_last [] u = refl
get_last (z ∷ us) u = get_last us u

module _ {A : Type 0} (R : A → CodeUnit → Type 0) where
  pub none_appended : (us : List CodeUnit) → Appended R [] us us
  none_appended us = record { long = omega arith; same = λ n u e. e; each = λ n x e. absurd (none-some x e) }

  pub one_appended : (xs : List A) (x : A) (old mid new : List CodeUnit) (u : CodeUnit) → Appended R xs old mid → R x u → new ≡ mid ++ u ∷ [] → Appended R (xs ++ x ∷ []) old new
  one_appended xs x old mid new u h r is =
      let more : Appended R (xs ++ x ∷ []) old (mid ++ u ∷ []) = record {
        long = omega (arith, h.long, length-append mid (u ∷ []), length-append xs (x ∷ []));
        same = λ n v e. still_there mid u n v (h.same n v e);
        each = λ n y e.
            elim (get_push xs x n y e) [
              | inl k ↦ let one = h.each n y k in (one.0, still_there mid u _ one.0 one.1, one.2)
              | inr k ↦ let there : length mid ≡ length old + n = omega (arith, h.long, k.0) in (
                u,
                subst (λ i. slice_get (mid ++ u ∷ []) i ≡ Some u) there (get_last mid u),
                subst (λ z. R z u) k.1 r,
              )
            ];
      } in
      subst (Appended R (xs ++ x ∷ []) old) (sym is) more

module _ (K : List TypedClass) where
  unit_stays : (old new : List CodeUnit) (n : ℕ) (m : TypedMethod) → StillThere old new → HasMethodUnit K old n m → HasMethodUnit K new n m
  unit_stays old new n m same h = record { unit = h.unit; there = same n h.unit h.there; is = h.is }

  maker_stays : (old new : List CodeUnit) (n : ℕ) (m : Option TypedMethod) (number : Option ℕ) → StillThere old new → IsMakerCode K old n m number → IsMakerCode K new n m number
  maker_stays old new n None None same h = tt
  maker_stays old new n None (Some u) same h = h
  maker_stays old new n (Some m) None same h = h
  maker_stays old new n (Some m) (Some u) same h = (h.0, unit_stays old new n m same h.1)

  class_stays : (old new : List CodeUnit) (n : ℕ) (k : TypedClass) (d : ClassCode) → StillThere old new → IsClassCode K old n k d → IsClassCode K new n k d
  class_stays old new n k d same h = record {
    cells = h.cells;
    maker = maker_stays old new n k.maker d.maker same h.maker;
    methods = h.methods;
    bodies = λ i m e. unit_stays old new (d.methods + i) m same (h.bodies i m e);
  }

  pub no_maker : (us : List CodeUnit) → HasMaker K None us us None
  no_maker us = record { long = omega arith; same = λ n u e. e; is = tt }

  pub one_maker : (m : TypedMethod) (old new : List CodeUnit) (u : CodeUnit) (number : ℕ) → number ≡ length old → IsMethodUnit K m u → new ≡ old ++ u ∷ [] → HasMaker K (Some m) old new (Some number)
  one_maker m old new u number there h is =
      let more : HasMaker K (Some m) old (old ++ u ∷ []) (Some number) = record {
        long = length-append old (u ∷ []);
        same = still_there old u;
        is = (there, record { unit = u; there = get_last old u; is = h });
      } in
      subst (λ us. HasMaker K (Some m) old us (Some number)) (sym is) more

  pub class_appended : (k : TypedClass) (old mid new : List CodeUnit) (d : ClassCode) → d.cells ≡ map (λ (x : Field). zero_of x.shape) k.fields → HasMaker K k.maker old mid d.maker → d.methods ≡ length mid → Appended (IsMethodUnit K) k.methods mid new → HasClass K k old new d
  class_appended k old mid new d cells maker there methods = record {
    long = omega (arith, maker.long, methods.long);
    same = λ n u e. methods.same n u (maker.same n u e);
    is = record {
      cells = cells;
      maker = maker_stays mid new (length old) k.maker d.maker methods.same maker.is;
      methods = there ∙ maker.long;
      bodies = λ i m e.
          let one = methods.each i m e in
          record { unit = one.0; there = subst (λ n. slice_get new (n + i) ≡ Some one.0) (sym there) one.1; is = one.2 };
    };
  }

  units_push : (ks : List TypedClass) (k : TypedClass) → units_in (ks ++ k ∷ []) ≡ units_in ks + (makers k.maker + length k.methods)
  units_push [] k = omega arith
  units_push (x ∷ ks) k = omega (arith, units_push ks k)

  pub no_classes : (us : List CodeUnit) → HasClasses K [] us us []
  no_classes us = record { long = omega arith; same = λ n u e. e; codes = refl; each = λ c k d e f. absurd (none-some k e) }

  -- the code of a class among those of the classes before it and its own
  one_each : (ks : List TypedClass) (k : TypedClass) (old mid new : List CodeUnit) (ds : List ClassCode) (d : ClassCode) → HasClasses K ks old mid ds → HasClass K k mid new d → (c : ℕ) (j : TypedClass) (b : ClassCode) → (slice_get ks c ≡ Some j) ⊎ ((c ≡ length ks) × (k ≡ j)) → (slice_get ds c ≡ Some b) ⊎ ((c ≡ length ds) × (d ≡ b)) → IsClassCode K new (length old + units_in (take c (ks ++ k ∷ []))) j b
  one_each ks k old mid new ds d h one c j b (inl e) (inl f) =
      let before : take c (ks ++ k ∷ []) ≡ take c ks = take-append-le c ks (k ∷ []) (omega (arith, slice_get_within ks c j e)) in
      subst (λ l. IsClassCode K new (length old + units_in l) j b) (sym before) (class_stays mid new _ j b one.same (h.each c j b e f))
  one_each ks k old mid new ds d h one c j b (inl e) (inr f) = absurd (omega (arith, slice_get_within ks c j e, f.0, h.codes))
  one_each ks k old mid new ds d h one c j b (inr e) (inl f) = absurd (omega (arith, slice_get_within ds c b f, e.0, h.codes))
  one_each ks k old mid new ds d h one c j b (inr e) (inr f) =
      let all : take c (ks ++ k ∷ []) ≡ ks = take-append-le c ks (k ∷ []) (omega (arith, e.0)) ∙ take_all c ks (omega (arith, e.0)) in
      let there : length mid ≡ length old + units_in (take c (ks ++ k ∷ [])) = h.long ∙ ap (λ l. length old + units_in l) (sym all) in
      subst (λ n. IsClassCode K new n j b) there (subst (λ x. IsClassCode K new (length mid) j x) f.1 (subst (λ x. IsClassCode K new (length mid) x d) e.1 one.is))

  pub one_class : (ks : List TypedClass) (k : TypedClass) (old mid new : List CodeUnit) (ds : List ClassCode) (d : ClassCode) → HasClasses K ks old mid ds → HasClass K k mid new d → HasClasses K (ks ++ k ∷ []) old new (ds ++ d ∷ [])
  one_class ks k old mid new ds d h one = record {
    long = omega (arith, h.long, one.long, units_push ks k);
    same = λ n u e. one.same n u (h.same n u e);
    codes = omega (arith, h.codes, length-append ds (d ∷ []), length-append ks (k ∷ []));
    each = λ c j b e f. one_each ks k old mid new ds d h one c j b (get_push ks k c j e) (get_push ds d c b f);
  }

pub all_translated : (P : TypedProgram) (mid new : List CodeUnit) (ds : List ClassCode) → Appended (IsTaskUnit P.classes) P.tasks [] mid → HasClasses P.classes P.classes mid new ds → Translates P (record { units = new; classes = ds })
all_translated P mid new ds tasks classes =
    let tasks_long : length mid ≡ length P.tasks = omega (arith, tasks.long) in
    record {
      units = classes.long ∙ ap (λ n. n + units_in P.classes) tasks_long;
      tasks = λ n t e.
          let one = tasks.each n t e in
          let there : length {A = CodeUnit} [] + n ≡ n = omega arith in
          (one.0, classes.same n one.0 (subst (λ i. slice_get mid i ≡ Some one.0) there one.1), one.2);
      same_classes = classes.codes;
      classes = λ c k d e f.
          subst (λ n. IsClassCode P.classes new (n + units_in (take c P.classes)) k d) tasks_long (classes.each c k d e f);
    }
