-- The unit of a task is one, and so are that of a method and what is kept of a class.
use Rattle.std.proofs.Common.{◌≡◌, ℕ, zero, suc, ◌+◌, ◌<◌, List, [], ◌∷◌, ◌++◌, length, refl, sym, ap, ◌∙◌, subst, arith}
use Rattle.std.specs.Prelude.{slice_get, Option, Some, None}
use Rattle.bc_data.specs.Typed.{TypedMethod, TypedClass, TypedTask}
use Rattle.bc_data.specs.declared.run.Place.{Place}
use Rattle.bc_data.specs.declared.run.Value.{Value}
use Rattle.bc_code.specs.declared.code.ClassCode.{ClassCode}
use Rattle.bc_code.specs.declared.code.Instruction.{Instruction}
use Rattle.bc_code.specs.declared.code.Unit.{Unit as CodeUnit}
use Rattle.bc_code.specs.Instructions.{place_or}
use Rattle.bc_code.specs.Translation.{text_of, past_all, makers, IsTaskUnit, IsMethodUnit, HasMethodUnit, IsMakerCode, IsClassCode}
use Rattle.bc_law_translation.proofs.Statements.{end_same, statements_same}
use Rattle.bc_law_translation.proofs.Texts.{Same, join, one, same_lists}

same_places :
    (xs ys : List Place) → length xs ≡ length ys
    → ((j : ℕ) → j < length xs → place_or (slice_get xs j) ≡ place_or (slice_get ys j)) → xs ≡ ys
same_places [] [] long same = refl
same_places [] (y ∷ ys) long same = absurd (omega (arith, long))
same_places (x ∷ xs) [] long same = absurd (omega (arith, long))
same_places (x ∷ xs) (y ∷ ys) long same =
    let first : x ≡ y = same 0 (omega arith) in
    let rest = same_places xs ys (omega (arith, long)) (λ j h. same (suc j) (omega (arith, h))) in
    ap (λ (z : Place). z ∷ xs) first ∙ ap (λ (zs : List Place). y ∷ zs) rest

-- units whose texts are the same from the first instruction to the end
unit_same :
    (u w : CodeUnit) (n : ℕ) → Same (text_of u) (text_of w) 0 n
    → length u.code ≡ n → length w.code ≡ n → length u.places ≡ length u.code → length w.places ≡ length w.code
    → u.locals ≡ w.locals → u.tags ≡ w.tags → u ≡ w
unit_same u w n s ul wl up wp locals tags =
    let code : u.code ≡ w.code =
    same_lists u.code w.code (omega (arith, ul, wl)) (λ j h. sym (s.all j (omega arith) (omega (arith, h, ul))).0) in
    let places : u.places ≡ w.places =
    same_places u.places w.places (omega (arith, ul, wl, up, wp))
    (λ j h. sym (s.all j (omega arith) (omega (arith, h, ul, up))).1) in
    ap (λ (is : List Instruction). record { code = is; places = u.places; locals = u.locals; tags = u.tags }) code
    ∙ ap (λ (ps : List Place). record { code = w.code; places = ps; locals = u.locals; tags = u.tags }) places
    ∙ ap (λ (k : ℕ). record { code = w.code; places = w.places; locals = k; tags = u.tags }) locals
    ∙ ap (λ (k : ℕ). record { code = w.code; places = w.places; locals = w.locals; tags = k }) tags

-- the constructor of a class, if it has one, and then its methods
abbrev pub listed : Option TypedMethod → List TypedMethod
listed None = []
listed (Some m) = m ∷ []

abbrev pub members : TypedClass → List TypedMethod
members k = listed k.maker ++ k.methods

module _ (K : List TypedClass) where
  pub task_unit_same : (t : TypedTask) (u w : CodeUnit) → IsTaskUnit K t u → IsTaskUnit K t w → u ≡ w
  task_unit_same t u w h g =
      let n = past_all K 0 t.body in
      let body = statements_same K t.body 0 h.body g.body in
      unit_same u w (n + 1) (join body (one n h.exit g.exit)) h.ends g.ends h.places g.places (h.locals ∙ sym g.locals)
      (h.tags ∙ sym g.tags)

  method_unit_same : (m : TypedMethod) (u w : CodeUnit) → IsMethodUnit K m u → IsMethodUnit K m w → u ≡ w
  method_unit_same m u w h g =
      let n = past_all K 0 m.body in
      let body = statements_same K m.body 0 h.body g.body in
      unit_same u w _ (join body (end_same m.result n h.end g.end)) h.ends g.ends h.places g.places
      (h.locals ∙ sym g.locals) (h.tags ∙ sym g.tags)

  pub same_unit :
      (us vs : List CodeUnit) (n : ℕ) (m : TypedMethod) → HasMethodUnit K us n m → HasMethodUnit K vs n m
      → slice_get us n ≡ slice_get vs n
  same_unit us vs n m h g =
      let e = method_unit_same m h.unit g.unit h.is g.is in
      h.there ∙ ap (λ (u : CodeUnit). Some u) e ∙ sym g.there

  maker_same :
      (us vs : List CodeUnit) (n : ℕ) (m : Option TypedMethod) (r s : Option ℕ)
      → IsMakerCode K us n m r → IsMakerCode K vs n m s → r ≡ s
  maker_same us vs n None None None h g = refl
  maker_same us vs n None None (Some w) h g = absurd g
  maker_same us vs n None (Some u) s h g = absurd h
  maker_same us vs n (Some m) None s h g = absurd h
  maker_same us vs n (Some m) (Some u) None h g = absurd g
  maker_same us vs n (Some m) (Some u) (Some w) h g = ap (λ (k : ℕ). Some k) (h.0 ∙ sym g.0)

  -- what is kept of a class whose units begin at n
  pub class_same :
      (us vs : List CodeUnit) (n : ℕ) (k : TypedClass) (x y : ClassCode)
      → IsClassCode K us n k x → IsClassCode K vs n k y → x ≡ y
  class_same us vs n k x y h g =
      let maker = maker_same us vs n k.maker x.maker y.maker h.maker g.maker in
      ap (λ (c : List Value). record { cells = c; maker = x.maker; methods = x.methods }) (h.cells ∙ sym g.cells)
      ∙ ap (λ (m : Option ℕ). record { cells = y.cells; maker = m; methods = x.methods }) maker
      ∙ ap (λ (i : ℕ). record { cells = y.cells; maker = y.maker; methods = i }) (h.methods ∙ sym g.methods)

  member_unit :
      (us : List CodeUnit) (n first : ℕ) (o : Option TypedMethod) (r : Option ℕ) (ms : List TypedMethod)
      → IsMakerCode K us n o r → first ≡ n + makers o
      → ((i : ℕ) (m : TypedMethod) → slice_get ms i ≡ Some m → HasMethodUnit K us (first + i) m)
      → (i : ℕ) (m : TypedMethod) → slice_get (listed o ++ ms) i ≡ Some m → HasMethodUnit K us (n + i) m
  member_unit us n first None r ms h e rest i m is =
      let same : first + i ≡ n + i = omega (arith, e) in
      subst (λ (u : ℕ). HasMethodUnit K us u m) same (rest i m is)
  member_unit us n first (Some k) None ms h e rest i m is = absurd h
  member_unit us n first (Some k) (Some u) ms h e rest zero m is =
      let own : k ≡ m = cc in
      let same : n ≡ n + 0 = omega arith in
      subst (λ (j : ℕ). HasMethodUnit K us j m) same (subst (HasMethodUnit K us n) own h.1)
  member_unit us n first (Some k) (Some u) ms h e rest (suc i) m is =
      let same : first + i ≡ n + suc i = omega (arith, e) in
      subst (λ (u : ℕ). HasMethodUnit K us u m) same (rest i m is)

  -- the constructor of a class and its methods stand one behind the other
  pub class_unit :
      (us : List CodeUnit) (n : ℕ) (k : TypedClass) (x : ClassCode) → IsClassCode K us n k x
      → (i : ℕ) (m : TypedMethod) → slice_get (members k) i ≡ Some m → HasMethodUnit K us (n + i) m
  class_unit us n k x h i m is = member_unit us n x.methods k.maker x.maker k.methods h.maker h.methods h.bodies i m is
