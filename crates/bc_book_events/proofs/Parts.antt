-- Lists of fetched bodies, and the parts of workers that an event leaves alone.
use Rattle.std.proofs.Common.{◌≡◌, ℕ, ◌<◌, inl, inr, Bool, cond, ◌==◌, List, [], ◌∷◌, ◌++◌, length, get_or, Option, Some, None, refl, sym, ap, ◌∙◌, subst, arith}
use Rattle.std.specs.Prelude.{All, IsSome, slice_get}
use Rattle.std.specs.List.{AllByRecursion, cons_option, filter_map}
use Rattle.std.specs.Option.{option_map, option_to_list}
use Rattle.std.proofs.lemmas.Bool.{cases_Bool, cond_both, eq-eqb, eqb-false, eqb-true, false≢true, ne_eqb}
use Rattle.std.proofs.lemmas.List.Elements.{All-from_recursion, recursion_from_All}
use Rattle.std.proofs.lemmas.Option.{none-some, slice_get-get_or}
use Rattle.bc_data.specs.declared.run.Body.{Body}
use Rattle.bc_data.specs.declared.run.Invocation.{Invocation}
use Rattle.bc_data.specs.declared.run.Stop.{Stop}
use Rattle.bc_mean.specs.declared.plain.Plain.{Plain}
use Rattle.bc_mean.specs.Serial.{Failed}
use Rattle.bc_mean.proofs.Enabled.{named_alone}
use Rattle.bc_mean.proofs.Lists.{each_weaker}
use Rattle.bc_book_events.specs.After.{fetched_now, set_at}
use Rattle.bc_book_events.specs.Book.{BookState, held_by}
use Rattle.bc_book_events.specs.Core.{Fetched, Part, look_in}
use Rattle.bc_book_events.specs.Lawful.{Owns}
use Rattle.bc_book_events.specs.SoundCore.{IsSoundPart}
use Rattle.bc_book_events.proofs.Reshaped.{enabled_of}

-- the body that is known of an object was fetched
look_found : (Q : Fetched → Type 0) (fs : List Fetched) (id : ℕ) → IsSome (look_in fs id) → AllByRecursion Q fs → (f : Fetched) × (f.id ≡ id) × Q f
look_found Q [] id h a = absurd (false≢true h)
look_found Q (f ∷ fs) id h a = elim (cases_Bool (f.id == id)) [
  | inl e ↦ (f, eqb-true f.id id e, a.0)
  | inr e ↦ look_found Q fs id (subst (λ (c : Bool). IsSome (cond c (Some f.body) (look_in fs id))) e h) a.1
]

pub look_owned : (owner : ℕ → Option ℕ) (worker : ℕ) (S : Plain) (fs : List Fetched) (id : ℕ) → IsSome (look_in fs id) → All (λ (f : Fetched). Owns owner worker f.id × (slice_get S.bodies f.id ≡ Some f.body)) fs → Owns owner worker id
look_owned owner worker S fs id h a =
    let q = look_found (λ (f : Fetched). Owns owner worker f.id × (slice_get S.bodies f.id ≡ Some f.body)) fs id h (recursion_from_All (λ (f : Fetched). Owns owner worker f.id × (slice_get S.bodies f.id ≡ Some f.body)) fs a) in
    subst (λ n. Owns owner worker n) q.1 q.2.0

look_later : (f : Fetched) (fs : List Fetched) (id : ℕ) → IsSome (look_in fs id) → IsSome (look_in (f ∷ fs) id)
look_later f fs id h = cond_both (f.id == id) (Some f.body) (look_in fs id) (λ o. IsSome o) (λ _. refl) (λ _. h)

pub look_append : (fs gs : List Fetched) (id : ℕ) → IsSome (look_in fs id) → IsSome (look_in (fs ++ gs) id)
look_append [] gs id h = absurd (false≢true h)
look_append (f ∷ fs) gs id h = elim (cases_Bool (f.id == id)) [
  | inl e ↦ subst (λ (c : Bool). IsSome (cond c (Some f.body) (look_in (fs ++ gs) id))) (sym e) refl
  | inr e ↦ look_later f (fs ++ gs) id (look_append fs gs id (subst (λ (c : Bool). IsSome (cond c (Some f.body) (look_in fs id))) e h))
]

-- what is fetched now is owned and has its body
abbrev pub IsFetched : (ℕ → Option ℕ) → ℕ → Plain → Fetched → Type 0
IsFetched owner worker S f = Owns owner worker f.id × (slice_get S.bodies f.id ≡ Some f.body)

pub one_fetched : (owner : ℕ → Option ℕ) (worker : ℕ) (S : Plain) (id : ℕ) → Owns owner worker id → AllByRecursion (IsFetched owner worker S) (option_to_list (fetched_now S id))
one_fetched owner worker S id owns = at (slice_get S.bodies id) refl
  where
    at : (o : Option Body) → slice_get S.bodies id ≡ o → AllByRecursion (IsFetched owner worker S) (option_to_list (option_map (λ body. record { id = id; body = body }) o))
    at None e = tt
    at (Some body) e = ((owns, e), tt)

pub all_fetched : (owner : ℕ → Option ℕ) (worker : ℕ) (S : Plain) (ids : List ℕ) → AllByRecursion (λ id. Owns owner worker id) ids → AllByRecursion (IsFetched owner worker S) (filter_map (fetched_now S) ids)
all_fetched owner worker S [] a = tt
all_fetched owner worker S (id ∷ ids) a = at (slice_get S.bodies id) refl (all_fetched owner worker S ids a.1)
  where
    at : (o : Option Body) → slice_get S.bodies id ≡ o → AllByRecursion (IsFetched owner worker S) (filter_map (fetched_now S) ids) → AllByRecursion (IsFetched owner worker S) (cons_option (option_map (λ body. record { id = id; body = body }) o) (filter_map (fetched_now S) ids))
    at None e h = h
    at (Some body) e h = ((a.0, e), h)

pub all_known : (S : Plain) (ids : List ℕ) → AllByRecursion (λ id. id < length S.bodies) ids → AllByRecursion (λ id. IsSome (look_in (filter_map (fetched_now S) ids) id)) ids
all_known S [] a = tt
all_known S (id ∷ ids) a = at (slice_get S.bodies id) (sound_get (slice_get S.bodies id) refl) (all_known S ids a.1)
  where
    fs : List Fetched
    fs = filter_map (fetched_now S) ids

    sound_get : (o : Option Body) → slice_get S.bodies id ≡ o → IsSome o
    sound_get None e = absurd (none-some (get_or S.bodies id (empty_of S.bodies a.0)) (sym e ∙ slice_get-get_or S.bodies id (empty_of S.bodies a.0) a.0))
      where
        empty_of : (bodies : List Body) → id < length bodies → Body
        empty_of [] l = absurd (omega arith)
        empty_of (c ∷ cs) l = c
    sound_get (Some body) e = refl

    at : (o : Option Body) → IsSome o → AllByRecursion (λ id. IsSome (look_in fs id)) ids →
        IsSome (look_in (cons_option (option_map (λ body. record { id = id; body = body }) o) fs) id) × AllByRecursion (λ other. IsSome (look_in (cons_option (option_map (λ body. record { id = id; body = body }) o) fs) other)) ids
    at None e h = absurd (false≢true e)
    at (Some body) e h = (
      subst (λ (c : Bool). IsSome (cond c (Some body) (look_in fs id))) (sym (eq-eqb id id refl)) refl,
      each_weaker (λ other. IsSome (look_in fs other)) (λ other. IsSome (look_in (record { id = id; body = body } ∷ fs) other)) (λ other k. look_later (record { id = id; body = body }) fs other k) ids h,
    )

-- a book of the same program
abbrev pub changed_book : BookState → Plain → List Invocation → List Invocation → List (Option Invocation) → List Failed → Option Stop → BookState
changed_book b T history pending running failures o = record b { store = T; history = history; pending = pending; running = running; failures = failures; stop = o }

-- A part stays sound where its worker keeps its invocation and its objects, and these keep their bodies.
pub keep_part : (b : BookState) (T : Plain) (history pending : List Invocation) (running : List (Option Invocation)) (failures : List Failed) (o : Option Stop) (owner owner2 : ℕ → Option ℕ) (worker : ℕ) (p : Part) →
    held_by running worker ≡ held_by b.running worker →
    ((id : ℕ) → Owns owner worker id → slice_get b.store.bodies id ≡ slice_get T.bodies id) →
    ((n type : ℕ) → slice_get b.store.tags n ≡ Some type → slice_get T.tags n ≡ Some type) →
    ((id : ℕ) → Owns owner worker id → Owns owner2 worker id) →
    IsSoundPart b owner worker p → IsSoundPart (changed_book b T history pending running failures o) owner2 worker p
keep_part b T history pending running failures o owner owner2 worker p held bodies types owns part = record {
  held = part.held ∙ sym held;
  idle = part.idle;
  fetched = All-from_recursion (IsFetched owner2 worker T) p.fetched (each_weaker (IsFetched owner worker b.store) (IsFetched owner2 worker T) (λ f h. (owns f.id h.0, sym (bodies f.id h.0) ∙ h.1)) p.fetched (recursion_from_All (IsFetched owner worker b.store) p.fetched part.fetched));
  ready = λ on.
      let q = part.ready on in
      let v = q.0 in (
        v,
        q.1,
        sym
            (named_alone b.program b.store T v (λ k d l. bodies (get_or v.objects k d) (look_owned owner worker b.store p.fetched (get_or v.objects k d) (q.3 k d l) part.fetched))
            (λ k d l.
            let n = get_or v.tags k d in
            let e = slice_get-get_or b.store.tags n 0 ((enabled_of b.program b.store v q.2).present k d l) in
            e ∙ sym (types n (get_or b.store.tags n 0) e)))
            ∙ q.2,
        q.3,
      );
}

-- one place of a function
pub set_at_same : {A : Type 0} (n : ℕ) (x : A) (f : ℕ → A) → set_at n x f n ≡ x
set_at_same n x f = ap (λ (c : Bool). cond c x (f n)) (eq-eqb n n refl)

pub set_at_other : {A : Type 0} (n : ℕ) (x : A) (f : ℕ → A) (m : ℕ) → (m ≡ n → ⊥) → set_at n x f m ≡ f m
set_at_other n x f m h = ap (λ (c : Bool). cond c x (f m)) (ne_eqb m n h)

pub set_at_either : {A : Type 0} (P : A → Type 0) (n : ℕ) (x : A) (f : ℕ → A) (m : ℕ) → (m ≡ n → P x) → ((m ≡ n → ⊥) → P (f m)) → P (set_at n x f m)
set_at_either P n x f m a b = cond_both (m == n) x (f m) P (λ e. a (eqb-true m n e)) (λ e. b (eqb-false m n e))
