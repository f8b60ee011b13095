-- Each unit of a code is that of one task, method or constructor, so the code of a program is one.
use Rattle.std.proofs.Common.{◌≡◌, ◌⊎◌, inl, inr, ℕ, zero, suc, ◌+◌, ◌-◌, ◌<◌, ◌≤◌, List, [], ◌∷◌, ◌++◌, length, take, refl, sym, ap, ◌∙◌, subst, arith}
use Rattle.std.proofs.lemmas.Bool.{cases_lt}
use Rattle.std.proofs.lemmas.Option.{slice_get_within}
use Rattle.std.specs.Prelude.{slice_get, Option, Some, None}
use Rattle.bc_data.specs.Typed.{TypedMethod, TypedClass, TypedProgram}
use Rattle.bc_code.specs.declared.code.ClassCode.{ClassCode}
use Rattle.bc_code.specs.declared.code.Code.{Code}
use Rattle.bc_code.specs.declared.code.Unit.{Unit as CodeUnit}
use Rattle.bc_code.specs.Translation.{Translates, first_unit, makers, units_in}
use Rattle.bc_law_translation.specs.Laws.{OneTranslation}
use Rattle.bc_law_translation.proofs.Texts.{same_lists}
use Rattle.bc_law_translation.proofs.Units.{class_same, class_unit, listed, members, same_unit, task_unit_same}

element : {A : Type 0} (xs : List A) (i : ℕ) → i < length xs → (x : A) × (slice_get xs i ≡ Some x)
element [] i h = absurd (omega arith)
element (x ∷ xs) zero h = (x, refl)
element (x ∷ xs) (suc i) h = element xs i (omega arith)

how_many : (o : Option TypedMethod) (ms : List TypedMethod) → length (listed o ++ ms) ≡ makers o + length ms
how_many None ms = omega arith
how_many (Some m) ms = omega arith

-- the member of a class to which a unit of the classes belongs
record Member (ks : List TypedClass) (j : ℕ) : Type 0 where
  number : ℕ
  class : TypedClass
  there : slice_get ks number ≡ Some class
  index : ℕ
  method : TypedMethod
  is : slice_get (members class) index ≡ Some method
  stands : j ≡ units_in (take number ks) + index

member : (ks : List TypedClass) (j : ℕ) → j < units_in ks → Member ks j
member [] j h = absurd (omega arith)
member (k ∷ ks) j h = which (λ i below. member ks i below) (cases_lt j many)
  where
    many : ℕ
    many = length (members k)

    own : j < many → Member (k ∷ ks) j
    own before =
        let m = element (members k) j before in
        record { number = 0; class = k; there = refl; index = j; method = m.0; is = m.1; stands = omega arith }

    later : Member ks (j - many) → many ≤ j → many ≡ makers k.maker + length k.methods → Member (k ∷ ks) j
    later f behind e = record {
      number = suc f.number;
      class = f.class;
      there = f.there;
      index = f.index;
      method = f.method;
      is = f.is;
      stands = omega (arith, f.stands, behind, e);
    }

    which : ((i : ℕ) → i < units_in ks → Member ks i) → (j < many) ⊎ (many ≤ j) → Member (k ∷ ks) j
    which more (inl before) = own before
    which more (inr behind) =
        let e = how_many k.maker k.methods in
        later (more (j - many) (omega (arith, h, behind, e))) behind e

module _ (P : TypedProgram) (c d : Code) (tc : Translates P c) (td : Translates P d) where
  task_at : (j : ℕ) → j < length P.tasks → slice_get c.units j ≡ slice_get d.units j
  task_at j h =
      let t = element P.tasks j h in
      let u = tc.tasks j t.0 t.1 in
      let w = td.tasks j t.0 t.1 in
      u.1 ∙ ap (λ (unit : CodeUnit). Some unit) (task_unit_same P.classes t.0 u.0 w.0 u.2 w.2) ∙ sym w.1

  member_at :
      (i : ℕ) → Member P.classes i
      → slice_get c.units (length P.tasks + i) ≡ slice_get d.units (length P.tasks + i)
  member_at i f =
      let n = f.number in
      let inside = slice_get_within P.classes n f.class f.there in
      let x = element c.classes n (omega (arith, inside, tc.same_classes)) in
      let y = element d.classes n (omega (arith, inside, td.same_classes)) in
      let h = class_unit P.classes c.units (first_unit P n) f.class x.0 (tc.classes n f.class x.0 f.there x.1) f.index
      f.method f.is in
      let g = class_unit P.classes d.units (first_unit P n) f.class y.0 (td.classes n f.class y.0 f.there y.1) f.index
      f.method f.is in
      let e : first_unit P n + f.index ≡ length P.tasks + i = omega (arith, f.stands) in
      subst (λ (j : ℕ). slice_get c.units j ≡ slice_get d.units j) e
      (same_unit P.classes c.units d.units (first_unit P n + f.index) f.method h g)

  unit_at : (j : ℕ) → j < length c.units → slice_get c.units j ≡ slice_get d.units j
  unit_at j h = which (cases_lt j (length P.tasks))
    where
      which : (j < length P.tasks) ⊎ (length P.tasks ≤ j) → slice_get c.units j ≡ slice_get d.units j
      which (inl before) = task_at j before
      which (inr behind) =
          let i : j - length P.tasks < units_in P.classes = omega (arith, h, behind, tc.units) in
          let e : length P.tasks + (j - length P.tasks) ≡ j = omega (arith, behind) in
          subst (λ (n : ℕ). slice_get c.units n ≡ slice_get d.units n) e
          (member_at (j - length P.tasks) (member P.classes (j - length P.tasks) i))

  class_at : (i : ℕ) → i < length c.classes → slice_get c.classes i ≡ slice_get d.classes i
  class_at i h =
      let k = element P.classes i (omega (arith, h, tc.same_classes)) in
      let x = element c.classes i h in
      let y = element d.classes i (omega (arith, h, tc.same_classes, td.same_classes)) in
      let e = class_same P.classes c.units d.units (first_unit P i) k.0 x.0 y.0 (tc.classes i k.0 x.0 k.1 x.1)
      (td.classes i k.0 y.0 k.1 y.1) in
      x.1 ∙ ap (λ (z : ClassCode). Some z) e ∙ sym y.1

pub one_translation : OneTranslation
one_translation P c d tc td =
    let units : c.units ≡ d.units =
    same_lists c.units d.units (tc.units ∙ sym td.units) (unit_at P c d tc td) in
    let classes : c.classes ≡ d.classes =
    same_lists c.classes d.classes (tc.same_classes ∙ sym td.same_classes) (class_at P c d tc td) in
    ap (λ (us : List CodeUnit). record { units = us; classes = c.classes }) units
    ∙ ap (λ (ks : List ClassCode). record { units = d.units; classes = ks }) classes
