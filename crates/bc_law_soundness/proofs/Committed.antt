-- What fits a work fits the store that its changes give, where new objects and instances have the next numbers.
use Rattle.std.proofs.Common.{◌≡◌, ◌≢◌, ℕ, ◌+◌, ◌^◌, ◌<◌, ◌≤◌, List, [], ◌∷◌, length, map, Option, Some, None, All, get_or, slice_get, refl, ap, sym, subst, ◌∙◌, arith}
use Rattle.std.specs.Prelude.{AllPairs, option_map}
use Rattle.std.proofs.lemmas.List.{length-map, get_or-map}
use Rattle.std.proofs.lemmas.List.Elements.{All-get_or, All-map, All-weaker}
use Rattle.std.proofs.lemmas.Option.{slice_get-map}
use Rattle.bc_data.specs.declared.program.Field.{Field}
use Rattle.bc_data.specs.declared.program.Shape.{Shape}
use Rattle.bc_data.specs.declared.program.Shape.TheVariants as shape
use Rattle.bc_data.specs.declared.run.Body.{Body}
use Rattle.bc_data.specs.declared.run.Kind.{Kind}
use Rattle.bc_data.specs.declared.run.Kind.TheVariants as kind
use Rattle.bc_data.specs.declared.run.TagRef.{TagRef}
use Rattle.bc_data.specs.declared.run.TagRef.TheVariants as tag
use Rattle.bc_data.specs.declared.run.Value.{Value}
use Rattle.bc_data.specs.declared.run.Value.TheVariants as value
use Rattle.bc_data.specs.Typed.{TypedClass, TypedProgram}
use Rattle.bc_mean.specs.declared.plain.Plain.{Plain}
use Rattle.bc_mean.specs.Changes.{value_in, tag_in, body_in}
use Rattle.bc_mean.specs.Store.{IsBool, IsInt, IsReference, HasShape, HaveShapes, IsPresentTag, IsObject, IsArray, FitsAs}
use Rattle.bc_mean.specs.Work.{Work}
use Rattle.bc_law_soundness.specs.Fitting.{IsKindAt, Refers, Shaped, Fill, IsPresent, FitsObject, FitsArray, FitsBody}

-- what stands behind a function's value at a place
pub map_back : {A B : Type 0} (g : A → B) (xs : List A) (i : ℕ) (y : B) → slice_get (map g xs) i ≡ Some y → (x : A) × (slice_get xs i ≡ Some x) × (g x ≡ y)
map_back {A} {B} g xs i y h = found (slice_get xs i) refl
  where
    found : (o : Option A) → slice_get xs i ≡ o → (x : A) × (o ≡ Some x) × (g x ≡ y)
    found (Some x) e =
        let there : Some (g x) ≡ Some y = sym (slice_get-map g xs i ∙ ap (option_map g) e) ∙ h in
        (x, refl, cc)
    found None e =
        let there : None ≡ Some y = sym (slice_get-map g xs i ∙ ap (option_map g) e) ∙ h in
        cc

pub pairs_map : {A : Type 0} (P : A → Type 0) (g : A → A) → ((s t : A) → P s → P t → s ≢ t → g s ≢ g t) → (xs : List A) → All P xs → AllPairs (λ s t. s ≢ t) xs → AllPairs (λ s t. s ≢ t) (map g xs)
pairs_map {A} P g apart xs all pairs i j d before within =
    let size = length-map xs g in
    let first : i < length xs = omega arith in
    let second : j < length xs = omega arith in
    subst (λ (u : A). u ≢ get_or (map g xs) j d) (sym (get_or-map g xs i d d first))
    (subst (λ (u : A). g (get_or xs i d) ≢ u) (sym (get_or-map g xs j d d second))
    (apart (get_or xs i d) (get_or xs j d) (All-get_or P xs i d first all) (All-get_or P xs j d second all) (pairs i j d before second)))

-- where what the work and the store before have is in the store behind
pub record Reaches (S : Plain) (w : Work) (T : Plain) : Type 0 where
  pub old : (k : Kind) (n : ℕ) → IsKindAt S.bodies k n → IsKindAt T.bodies k n
  pub new : (k : Kind) (n : ℕ) → IsKindAt w.made k n → IsKindAt T.bodies k (length S.bodies + n)
  pub instances : length T.tags ≡ length S.tags + length w.instances

module _ (S : Plain) (w : Work) (T : Plain) (r : Reaches S w T) where
  refers_on : (k : Kind) (x : Value) → Refers S w k x → IsReference T k (value_in S x)
  refers_on k value.Null h = tt
  refers_on k (value.Old id) h = r.old k id h
  refers_on k (value.New n) h = r.new k n h
  refers_on k (value.Int n) h = h
  refers_on k (value.Bool b) h = h

  int_on : (x : Value) → IsInt x → IsInt (value_in S x)
  int_on (value.Int n) h = h
  int_on (value.Bool b) h = absurd h
  int_on value.Null h = absurd h
  int_on (value.Old id) h = absurd h
  int_on (value.New n) h = absurd h

  bool_on : (x : Value) → IsBool x → IsBool (value_in S x)
  bool_on (value.Bool b) h = tt
  bool_on (value.Int n) h = absurd h
  bool_on value.Null h = absurd h
  bool_on (value.Old id) h = absurd h
  bool_on (value.New n) h = absurd h

  shaped_on : (sh : Shape) (x : Value) → Shaped S w sh x → HasShape T sh (value_in S x)
  shaped_on shape.Int x h = int_on x h
  shaped_on shape.Bool x h = bool_on x h
  shaped_on shape.Null x h = ap (value_in S) h
  shaped_on (shape.Class c) x h = refers_on (kind.Class c) x h
  shaped_on shape.Ints x h = refers_on kind.Ints x h
  shaped_on shape.Bools x h = refers_on kind.Bools x h
  shaped_on (shape.Objects c) x h = refers_on (kind.Objects c) x h

  fill_on : (fields : List Field) (xs : List Value) → Fill S w (map (λ (x : Field). x.shape) fields) xs → HaveShapes T fields (map (value_in S) xs)
  fill_on [] [] h = tt
  fill_on (f ∷ fields) (x ∷ xs) h = (shaped_on f.shape x h.0, fill_on fields xs h.1)
  fill_on [] (x ∷ xs) h = absurd h
  fill_on (f ∷ fields) [] h = absurd h

  present_on : (t : TagRef) → IsPresent S w t → IsPresentTag T (tag_in S t)
  present_on (tag.Old n) h = let all = r.instances in omega arith
  present_on (tag.New n) h = let all = r.instances in omega arith

  tags_apart : (s t : TagRef) → IsPresent S w s → IsPresent S w t → s ≢ t → tag_in S s ≢ tag_in S t
  tags_apart (tag.Old m) (tag.Old n) p q d = d
  tags_apart (tag.Old m) (tag.New n) p q d = λ e. let same : m ≡ length S.tags + n = cc in absurd (omega arith)
  tags_apart (tag.New m) (tag.Old n) p q d = λ e. let same : length S.tags + m ≡ n = cc in absurd (omega arith)
  tags_apart (tag.New m) (tag.New n) p q d = λ e.
      let sums : length S.tags + m ≡ length S.tags + n = cc in
      let same : m ≡ n = omega arith in
      d (ap tag.New same)

  object_on : (P : TypedProgram) (c : ℕ) (b : Body) → FitsObject P.classes S w c b → IsObject P T c (body_in S b)
  object_on P c b h =
      record {
        class = h.class;
        declared = h.declared;
        cells = fill_on h.class.fields b.cells h.cells;
        flags = h.flags;
        few_tags = subst (λ n. n ≤ 16) (sym (length-map b.tags (tag_in S))) h.few_tags;
        present_tags = All-map (IsPresentTag T) (tag_in S) b.tags (All-weaker (IsPresent S w) (λ t. IsPresentTag T (tag_in S t)) present_on b.tags h.present_tags);
        different_tags = pairs_map (IsPresent S w) (tag_in S) tags_apart b.tags h.present_tags h.different_tags;
      }

  array_on : (element : Shape) (b : Body) → FitsArray S w element b → IsArray T element (body_in S b)
  array_on element b h = record {
    cells = All-map (HasShape T element) (value_in S) b.cells (All-weaker (Shaped S w element) (λ x. HasShape T element (value_in S x)) (shaped_on element) b.cells h.cells);
    short = subst (λ n. n ≤ 65536) (sym (length-map b.cells (value_in S))) h.short;
    flags = h.flags;
    tags = ap (map (tag_in S)) h.tags;
  }

  pub body_on : (P : TypedProgram) (k : Kind) (b : Body) → FitsBody P.classes S w k b → FitsAs P T k (body_in S b)
  body_on P (kind.Class c) b h = object_on P c b h
  body_on P kind.Ints b h = array_on shape.Int b h
  body_on P kind.Bools b h = array_on shape.Bool b h
  body_on P (kind.Objects c) b h = (h.0, array_on (shape.Class c) b h.1)

  -- the same of a body that stays as it was
  refers_stays : (k : Kind) (x : Value) → IsReference S k x → IsReference T k x
  refers_stays k value.Null h = tt
  refers_stays k (value.Old id) h = r.old k id h
  refers_stays k (value.New n) h = h
  refers_stays k (value.Int n) h = h
  refers_stays k (value.Bool b) h = h

  shaped_stays : (sh : Shape) (x : Value) → HasShape S sh x → HasShape T sh x
  shaped_stays shape.Int x h = h
  shaped_stays shape.Bool x h = h
  shaped_stays shape.Null x h = h
  shaped_stays (shape.Class c) x h = refers_stays (kind.Class c) x h
  shaped_stays shape.Ints x h = refers_stays kind.Ints x h
  shaped_stays shape.Bools x h = refers_stays kind.Bools x h
  shaped_stays (shape.Objects c) x h = refers_stays (kind.Objects c) x h

  fill_stays : (fields : List Field) (xs : List Value) → HaveShapes S fields xs → HaveShapes T fields xs
  fill_stays [] [] h = tt
  fill_stays (f ∷ fields) (x ∷ xs) h = (shaped_stays f.shape x h.0, fill_stays fields xs h.1)
  fill_stays [] (x ∷ xs) h = absurd h
  fill_stays (f ∷ fields) [] h = absurd h

  present_stays : (t : TagRef) → IsPresentTag S t → IsPresentTag T t
  present_stays (tag.Old n) h = let all = r.instances in omega arith
  present_stays (tag.New n) h = h

  object_stays : (P : TypedProgram) (c : ℕ) (b : Body) → IsObject P S c b → IsObject P T c b
  object_stays P c b h = record {
    class = h.class;
    declared = h.declared;
    cells = fill_stays h.class.fields b.cells h.cells;
    flags = h.flags;
    few_tags = h.few_tags;
    present_tags = All-weaker (IsPresentTag S) (IsPresentTag T) present_stays b.tags h.present_tags;
    different_tags = h.different_tags;
  }

  array_stays : (element : Shape) (b : Body) → IsArray S element b → IsArray T element b
  array_stays element b h = record {
    cells = All-weaker (HasShape S element) (HasShape T element) (shaped_stays element) b.cells h.cells;
    short = h.short;
    flags = h.flags;
    tags = h.tags;
  }

  pub body_stays : (P : TypedProgram) (k : Kind) (b : Body) → FitsAs P S k b → FitsAs P T k b
  body_stays P (kind.Class c) b h = object_stays P c b h
  body_stays P kind.Ints b h = array_stays shape.Int b h
  body_stays P kind.Bools b h = array_stays shape.Bool b h
  body_stays P (kind.Objects c) b h = (h.0, array_stays (shape.Class c) b h.1)
