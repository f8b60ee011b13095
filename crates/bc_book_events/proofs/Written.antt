-- What the exit of a body writes has changed.
use Rattle.std.proofs.Common.{◌≡◌, ℕ, zero, suc, ◌+◌, ◌<◌, ◌≤◌, inl, inr, Bool, true, false, not, cond, ◌&&◌, ◌==◌, List, [], ◌∷◌, map, length, length-set, filter, set, Option, Some, None, refl, sym, ap, ap₂, ◌∙◌, subst, arith}
use Rattle.std.specs.Prelude.{slice_get}
use Rattle.std.specs.Cmp.Lexicographic.{pointwise}
use Rattle.std.specs.List.{AllByRecursion, cons_option, filter_map, range_with_len}
use Rattle.std.proofs.lemmas.Bool.{cases_Bool, cases_eq, ne_eqb, or_from}
use Rattle.std.proofs.lemmas.List.Elements.{filter_agree, recursion_from_All}
use Rattle.std.proofs.lemmas.Option.{none-some, same_Some, slice_get_within}
use Rattle.bc_data.specs.Typed.{TypedProgram}
use Rattle.bc_data.specs.declared.program.Field.{Field}
use Rattle.bc_data.specs.declared.program.Shape.{Shape}
use Rattle.bc_data.specs.declared.program.Shape.TheVariants as shape
use Rattle.bc_data.specs.declared.run.Body.{Body}
use Rattle.bc_data.specs.declared.run.Changes.{Changes}
use Rattle.bc_data.specs.declared.run.Kind.{Kind}
use Rattle.bc_data.specs.declared.run.Kind.TheVariants as kind
use Rattle.bc_data.specs.declared.run.Ran.TheVariants as ran
use Rattle.bc_data.specs.declared.run.TagRef.{TagRef}
use Rattle.bc_data.specs.declared.run.TagRef.TheVariants as tag
use Rattle.bc_data.specs.declared.run.Value.{Value}
use Rattle.bc_data.specs.declared.run.Value.TheVariants as value
use Rattle.bc_data.specs.declared.run.Written.{Written}
use Rattle.bc_mean.specs.declared.plain.Plain.{Plain}
use Rattle.bc_mean.specs.Changes.{apply_changes, body_in, changed_objects, changes_between, put_bodies, same_body, same_kind, tag_in, value_in, written_of}
use Rattle.bc_mean.specs.Execute.{Flow}
use Rattle.bc_mean.specs.Outcome.{body_run, ending}
use Rattle.bc_mean.specs.Store.{Fits, FitsAs, HasShape, HaveShapes, IsPresentTag}
use Rattle.bc_mean.specs.Values.{same_tag, same_value}
use Rattle.bc_mean.specs.Work.{Got, Gives, Stops, Work, newest}
use Rattle.bc_book_events.specs.Laws.{WritesAreChanges}
use Rattle.bc_book_events.specs.Reshaped.{has}
use Rattle.bc_book_events.proofs.Appended.{get_front, put_else, put_length, set_else}
use Rattle.bc_book_events.proofs.Reshaped.{all_get, tags_present}
use Rattle.bc_book_events.proofs.Unmoved.{body_itself}

-- a value that stands in a store is none of a new object
abbrev IsOld : Plain → Value → Type 0
IsOld S (value.Old id) = id < length S.bodies
IsOld S (value.New n) = ⊥
IsOld S (value.Int n) = Unit {0}
IsOld S (value.Bool b) = Unit {0}
IsOld S value.Null = Unit {0}

of_kind : (S : Plain) (k : Kind) (id : ℕ) → ((b : Body) × (slice_get S.bodies id ≡ Some b) × (b.kind ≡ k)) → id < length S.bodies
of_kind S k id h = slice_get_within S.bodies id h.0 h.1

shape_old : (S : Plain) (s : Shape) (x : Value) → HasShape S s x → IsOld S x
shape_old S shape.Int (value.Int n) h = tt
shape_old S shape.Int (value.Bool b) h = tt
shape_old S shape.Int value.Null h = tt
shape_old S shape.Int (value.Old id) h = absurd h
shape_old S shape.Int (value.New n) h = h
shape_old S shape.Bool (value.Int n) h = tt
shape_old S shape.Bool (value.Bool b) h = tt
shape_old S shape.Bool value.Null h = tt
shape_old S shape.Bool (value.Old id) h = absurd h
shape_old S shape.Bool (value.New n) h = h
shape_old S shape.Null x h = subst (IsOld S) (sym h) tt
shape_old S (shape.Class c) (value.Int n) h = tt
shape_old S (shape.Class c) (value.Bool b) h = tt
shape_old S (shape.Class c) value.Null h = tt
shape_old S (shape.Class c) (value.Old id) h = of_kind S (kind.Class c) id h
shape_old S (shape.Class c) (value.New n) h = h
shape_old S shape.Ints (value.Int n) h = tt
shape_old S shape.Ints (value.Bool b) h = tt
shape_old S shape.Ints value.Null h = tt
shape_old S shape.Ints (value.Old id) h = of_kind S kind.Ints id h
shape_old S shape.Ints (value.New n) h = h
shape_old S shape.Bools (value.Int n) h = tt
shape_old S shape.Bools (value.Bool b) h = tt
shape_old S shape.Bools value.Null h = tt
shape_old S shape.Bools (value.Old id) h = of_kind S kind.Bools id h
shape_old S shape.Bools (value.New n) h = h
shape_old S (shape.Objects c) (value.Int n) h = tt
shape_old S (shape.Objects c) (value.Bool b) h = tt
shape_old S (shape.Objects c) value.Null h = tt
shape_old S (shape.Objects c) (value.Old id) h = of_kind S (kind.Objects c) id h
shape_old S (shape.Objects c) (value.New n) h = h

shapes_old : (S : Plain) (fs : List Field) (xs : List Value) → HaveShapes S fs xs → AllByRecursion (IsOld S) xs
shapes_old S [] [] h = tt
shapes_old S [] (x ∷ xs) h = absurd h
shapes_old S (f ∷ fs) [] h = absurd h
shapes_old S (f ∷ fs) (x ∷ xs) h = (shape_old S f.shape x h.0, shapes_old S fs xs h.1)

elements_old : (S : Plain) (s : Shape) (xs : List Value) → AllByRecursion (HasShape S s) xs → AllByRecursion (IsOld S) xs
elements_old S s [] h = tt
elements_old S s (x ∷ xs) h = (shape_old S s x h.0, elements_old S s xs h.1)

cells_old : (P : TypedProgram) (S : Plain) (b : Body) (k : Kind) → FitsAs P S k b → AllByRecursion (IsOld S) b.cells
cells_old P S b (kind.Class c) h = shapes_old S h.class.fields b.cells h.cells
cells_old P S b kind.Ints h = elements_old S shape.Int b.cells (recursion_from_All (HasShape S shape.Int) b.cells h.cells)
cells_old P S b kind.Bools h = elements_old S shape.Bool b.cells (recursion_from_All (HasShape S shape.Bool) b.cells h.cells)
cells_old P S b (kind.Objects c) h = elements_old S (shape.Class c) b.cells (recursion_from_All (HasShape S (shape.Class c)) b.cells h.1.cells)

-- a new number is none that was there
value_as_before : (S : Plain) (x y : Value) → IsOld S x → same_value x (value_in S y) ≡ same_value x y
value_as_before S x (value.Int n) h = refl
value_as_before S x (value.Bool b) h = refl
value_as_before S x value.Null h = refl
value_as_before S x (value.Old id) h = refl
value_as_before S (value.Int m) (value.New n) h = refl
value_as_before S (value.Bool b) (value.New n) h = refl
value_as_before S value.Null (value.New n) h = refl
value_as_before S (value.Old id) (value.New n) h = ne_eqb id (length S.bodies + n) (λ e. absurd (omega (arith, h, e)))
value_as_before S (value.New m) (value.New n) h = absurd h

tag_as_before : (S : Plain) (s t : TagRef) → IsPresentTag S s → same_tag s (tag_in S t) ≡ same_tag s t
tag_as_before S s (tag.Old n) h = refl
tag_as_before S (tag.Old m) (tag.New n) h = ne_eqb m (length S.tags + n) (λ e. absurd (omega (arith, h, e)))
tag_as_before S (tag.New m) (tag.New n) h = absurd h

pointwise_as_before : {X : Type 0} (E : X → X → Bool) (g : X → X) (Q : X → Type 0) → ((x y : X) → Q x → E x (g y) ≡ E x y) → (xs ys : List X) → AllByRecursion Q xs → pointwise E xs (map g ys) ≡ pointwise E xs ys
pointwise_as_before E g Q f [] [] a = refl
pointwise_as_before E g Q f [] (y ∷ ys) a = refl
pointwise_as_before E g Q f (x ∷ xs) [] a = refl
pointwise_as_before E g Q f (x ∷ xs) (y ∷ ys) a = ap₂ (λ (b : Bool) (c : Bool). b && c) (f x y a.0) (pointwise_as_before E g Q f xs ys a.1)

body_as_before : (P : TypedProgram) (S : Plain) (a b : Body) → FitsAs P S a.kind a → same_body a (body_in S b) ≡ same_body a b
body_as_before P S a b h =
    ap₂ (λ (x : Bool) (y : Bool). same_kind a.kind b.kind && x && (a.flags == b.flags) && y)
    (pointwise_as_before same_value (value_in S) (IsOld S) (value_as_before S) a.cells b.cells (cells_old P S a a.kind h))
    (pointwise_as_before same_tag (tag_in S) (IsPresentTag S) (tag_as_before S) a.tags b.tags (tags_present P S a a.kind h))

-- the object behind the writes of a range: its own write, or as it was
abbrev written_or : Plain → Option Written → Option Body → Option Body
written_or S None o = o
written_or S (Some w) o = Some (body_in S w.body)

set_here : {X : Type 0} (xs : List X) (i : ℕ) (x : X) → i < length xs → slice_get (set xs i x) i ≡ Some x
set_here [] i x l = absurd (omega arith)
set_here (y ∷ ys) zero x l = refl
set_here (y ∷ ys) (suc i) x l = set_here ys i x (omega arith)

-- each write of the range is of its own object
abbrev WritesOwn : (ℕ → Option Written) → Type 0
WritesOwn wr = (id : ℕ) (w : Written) → wr id ≡ Some w → w.id ≡ id

module _ (S : Plain) (wr : ℕ → Option Written) (own : WritesOwn wr) where
  later_writes : (a k id : ℕ) → id < a → has (map (λ w. w.id) (filter_map wr (range_with_len a k))) id ≡ false
  later_writes a zero id l = refl
  later_writes a (suc k) id l = at (wr a) refl (later_writes (a + 1) k id (omega arith))
    where
      rest : List Written
      rest = filter_map wr (range_with_len (a + 1) k)

      at : (o : Option Written) → wr a ≡ o → has (map (λ w. w.id) rest) id ≡ false → has (map (λ w. w.id) (cons_option o rest)) id ≡ false
      at None e h = h
      at (Some w) e h = let same : w.id ≡ a = own a w e in or_from (w.id == id) (has (map (λ w. w.id) rest) id) (ne_eqb w.id id (λ k. absurd (omega (arith, k, same, l)))) h

  put_range : (a k id : ℕ) (bodies : List Body) → a ≤ id → id < a + k → id < length bodies → slice_get (put_bodies S (filter_map wr (range_with_len a k)) bodies) id ≡ written_or S (wr id) (slice_get bodies id)
  put_range a zero id bodies low high l = absurd (omega arith)
  put_range a (suc k) id bodies low high l = at (wr a) refl (λ more ne length. put_range (a + 1) k id more (omega (arith, ne)) (omega arith) length)
    where
      rest : List Written
      rest = filter_map wr (range_with_len (a + 1) k)

      at : (o : Option Written) → wr a ≡ o →
          ((more : List Body) → (a ≡ id → ⊥) → id < length more → slice_get (put_bodies S rest more) id ≡ written_or S (wr id) (slice_get more id)) →
          slice_get (put_bodies S (cons_option o rest) bodies) id ≡ written_or S (wr id) (slice_get bodies id)
      at None e later = elim (cases_eq a id) [
        | inl same ↦ put_else S rest bodies id (later_writes (a + 1) k id (omega (arith, same))) ∙ ap (λ (o : Option Written). written_or S o (slice_get bodies id)) (sym (ap wr (sym same) ∙ e))
        | inr d ↦ later bodies d l
      ]
      at (Some w) e later =
          let mine : w.id ≡ a = own a w e in
          elim (cases_eq a id) [
            | inl same ↦
                put_else S rest (set bodies w.id (body_in S w.body)) id (later_writes (a + 1) k id (omega (arith, same)))
                ∙ (ap (λ n. slice_get (set bodies w.id (body_in S w.body)) n) (sym (mine ∙ same))
                ∙ (set_here bodies w.id (body_in S w.body) (omega (arith, l, mine, same)) ∙ ap (λ (o : Option Written). written_or S o (slice_get bodies id)) (sym (ap wr (sym same) ∙ e))))
            | inr d ↦
                later (set bodies w.id (body_in S w.body)) d (omega (arith, l, length-set bodies w.id (body_in S w.body)))
                ∙ ap (λ (o : Option Body). written_or S (wr id) o) (set_else bodies w.id id (body_in S w.body) (λ h. d (sym mine ∙ h)))
          ]

-- the objects whose newest copies differ
abbrev writes : Work → ℕ → Option Body → Bool
writes w id None = false
writes w id (Some b) = not (same_body b (newest w.changed id b))

written_own : (S : Plain) (w : Work) → WritesOwn (λ id. written_of w id (slice_get S.bodies id))
written_own S w id v h = at (slice_get S.bodies id) h
  where
    at : (o : Option Body) → written_of w id o ≡ Some v → v.id ≡ id
    at None h = absurd (none-some v h)
    at (Some b) h = each (same_body b (newest w.changed id b)) h
      where
        each : (c : Bool) → cond c None (Some (record { id = id; body = newest w.changed id b })) ≡ Some v → v.id ≡ id
        each true h = absurd (none-some v h)
        each false h = ap (λ (u : Written). u.id) (sym (same_Some (record { id = id; body = newest w.changed id b }) v h))

written_ids : (S : Plain) (w : Work) (ids : List ℕ) → map (λ (v : Written). v.id) (filter_map (λ id. written_of w id (slice_get S.bodies id)) ids) ≡ filter (λ id. writes w id (slice_get S.bodies id)) ids
written_ids S w [] = refl
written_ids S w (id ∷ ids) = at (slice_get S.bodies id) (written_ids S w ids)
  where
    rest : List Written
    rest = filter_map (λ id. written_of w id (slice_get S.bodies id)) ids

    left : List ℕ
    left = filter (λ id. writes w id (slice_get S.bodies id)) ids

    at : (o : Option Body) → map (λ (v : Written). v.id) rest ≡ left → map (λ (v : Written). v.id) (cons_option (written_of w id o) rest) ≡ cond (writes w id o) (id ∷ left) left
    at None h = h
    at (Some b) h = each (same_body b (newest w.changed id b))
      where
        each : (c : Bool) → map (λ (v : Written). v.id) (cons_option (cond c None (Some (record { id = id; body = newest w.changed id b }))) rest) ≡ cond (not c) (id ∷ left) left
        each true = h
        each false = ap (λ (l : List ℕ). id ∷ l) h

module _ (P : TypedProgram) (S : Plain) (fits : Fits P S) (w : Work) where
  abbrev T : Plain
  T = apply_changes S (changes_between S w)

  abbrev wr : ℕ → Option Written
  wr id = written_of w id (slice_get S.bodies id)

  -- the object behind the changes
  behind : (id : ℕ) (b : Body) → slice_get S.bodies id ≡ Some b → slice_get T.bodies id ≡ written_or S (written_of w id (Some b)) (Some b)
  behind id b e =
      let l = slice_get_within S.bodies id b e in
      let ws = (changes_between S w).bodies in
      let size : length (put_bodies S ws S.bodies) ≡ length S.bodies = put_length S ws S.bodies in
      get_front (put_bodies S ws S.bodies) (map (body_in S) w.made) id (omega (arith, l, size))
      ∙ (put_range S wr (written_own S w) 0 (length S.bodies) id S.bodies (omega arith) (omega (arith, l)) l
      ∙ ap (λ (o : Option Body). written_or S (written_of w id o) o) e)

  -- it differs exactly where it was written
  abbrev differs : Option Body → Option Body → Bool
  differs (Some a) (Some b) = not (same_body a b)
  differs (Some a) None = false
  differs None o = false

  written_differs : (id : ℕ) (b : Body) → FitsAs P S b.kind b → differs (Some b) (written_or S (written_of w id (Some b)) (Some b)) ≡ writes w id (Some b)
  written_differs id b h = elim (cases_Bool (same_body b (newest w.changed id b))) [
    | inl e ↦
        ap (λ (c : Bool). differs (Some b) (written_or S (cond c None (Some (record { id = id; body = newest w.changed id b }))) (Some b))) e
        ∙ (ap not (body_itself b) ∙ sym (ap not e))
    | inr e ↦
        ap (λ (c : Bool). differs (Some b) (written_or S (cond c None (Some (record { id = id; body = newest w.changed id b }))) (Some b))) e
        ∙ ap not (body_as_before P S b (newest w.changed id b) h)
  ]

  object_differs : (id : ℕ) (o : Option Body) → slice_get S.bodies id ≡ o → differs o (slice_get T.bodies id) ≡ writes w id o
  object_differs id None e = refl
  object_differs id (Some b) e =
      ap (differs (Some b)) (behind id b e) ∙ written_differs id b (all_get (λ c. FitsAs P S c.kind c) S.bodies id b fits.bodies e)

  changed_are_written : changed_objects S T ≡ map (λ (v : Written). v.id) (changes_between S w).bodies
  changed_are_written =
      filter_agree _ (λ id. writes w id (slice_get S.bodies id)) (λ id. object_differs id (slice_get S.bodies id) refl) (range_with_len 0 (length S.bodies))
      ∙ sym (written_ids S w (range_with_len 0 (length S.bodies)))

-- the exit of a body gives the changes of its work
exit_of : (S : Plain) (g : Got Flow) (c : Changes) → (ending S g).ran ≡ ran.Commit c → (w : Work) × (changes_between S w ≡ c)
exit_of S (Gives flow w) c h = (w, cc)
exit_of S (Stops halt w) c h = absurd (no_commit h)
  where
    no_commit : {f : _} → ran.Faulted f ≡ ran.Commit c → ⊥
    no_commit e = cc

pub writes_are_changes : WritesAreChanges
writes_are_changes P S v c fits h =
    let w = exit_of S (body_run P S (slice_get P.tasks v.task) v) c h in
    subst (λ (c : Changes). changed_objects S (apply_changes S c) ≡ map (λ (u : Written). u.id) c.bodies) w.1 (changed_are_written P S fits w.0)
