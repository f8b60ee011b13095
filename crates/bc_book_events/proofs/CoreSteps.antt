-- Each lawful event keeps the machine sound.
use Rattle.std.proofs.Common.{◌≡◌, ℕ, ◌<◌, ◌≤◌, inl, inr, Bool, true, false, cond, ◌==◌, List, [], ◌∷◌, ◌++◌, map, length, length-append, filter, set, get_or, Option, Some, None, refl, sym, ap, ◌∙◌, subst, arith}
use Rattle.std.specs.Prelude.{All, IsSome, slice_get}
use Rattle.std.specs.List.{AllByRecursion, filter_map}
use Rattle.std.specs.Option.{option_to_list}
use Rattle.std.proofs.lemmas.Bool.{cond_both, eqb-true, false_from_ne_true, false≢true, or_cases}
use Rattle.std.proofs.lemmas.List.Elements.{All-from_recursion, recursion_from_All}
use Rattle.std.proofs.lemmas.Option.{none-some, same_Some, slice_get_within}
use Rattle.bc_data.specs.Typed.{TypedProgram}
use Rattle.bc_data.specs.WellTyped.{IsWellTyped}
use Rattle.bc_data.specs.declared.run.Changes.{Changes}
use Rattle.bc_data.specs.declared.run.Fault.{Fault}
use Rattle.bc_data.specs.declared.run.Invocation.{Invocation}
use Rattle.bc_data.specs.declared.run.Outcome.{Outcome}
use Rattle.bc_data.specs.declared.run.Ran.{Ran}
use Rattle.bc_data.specs.declared.run.Ran.TheVariants as ran
use Rattle.bc_data.specs.declared.run.Stop.{Stop}
use Rattle.bc_data.specs.declared.run.Stop.TheVariants as stop
use Rattle.bc_data.specs.declared.run.Written.{Written}
use Rattle.bc_mean.specs.declared.plain.Plain.{Plain}
use Rattle.bc_mean.specs.Changes.{apply_changes, body_in, changed_objects, put_bodies}
use Rattle.bc_mean.specs.Enabled.{IsEnabled, is_enabled}
use Rattle.bc_mean.specs.Outcome.{body_outcome}
use Rattle.bc_mean.specs.Serial.{Failed, after_commit, is_untouched}
use Rattle.bc_mean.specs.Store.{Fits}
use Rattle.bc_book_events.specs.declared.answers.Begun.TheVariants as begins
use Rattle.bc_book_events.specs.declared.answers.Taken.{Taken}
use Rattle.bc_book_events.specs.After.{Did, Leads, after, book_with, claimed, core_at_start, fetched_now, part_begun, part_taken, set_at}
use Rattle.bc_book_events.specs.Book.{BookState, held_by}
use Rattle.bc_book_events.specs.Core.{Core, Event, Take, Claim, Begin, Fetch, Commit, Fail, Lose, Halt, Release, Fetched, Part, look_in, no_part}
use Rattle.bc_book_events.specs.Events.{Step, answers, begin, given_up, halt, lose, take}
use Rattle.bc_book_events.specs.Lawful.{CanEnd, IsLawful, Owns}
use Rattle.bc_book_events.specs.Reshaped.{has}
use Rattle.bc_book_events.specs.Sound.{IsSoundBook, StillFails}
use Rattle.bc_book_events.specs.SoundCore.{IsSoundCore, IsSoundPart, KeepsSoundCore, RunLaws}
use Rattle.bc_book_events.specs.SoundLaws.{EndsSo, LeavesFailures}
use Rattle.bc_book_events.specs.Steps.{committed, freed, given, put_back, stopped}
use Rattle.bc_book_events.proofs.Appended.{get_front, put_else, put_length}
use Rattle.bc_book_events.proofs.Named.{enabled_names}
use Rattle.bc_book_events.proofs.Parts.{IsFetched, all_fetched, all_known, changed_book, keep_part, look_append, look_owned, one_fetched, set_at_either}
use Rattle.bc_book_events.proofs.Running.{held_other, held_same}
use Rattle.bc_book_events.proofs.Shapes.{commit_shape, fail_shape, take_shape}
use Rattle.bc_book_events.proofs.Sound.{keeps_sound_book, none_held}
use Rattle.bc_mean.proofs.Lists.{each_append}

-- The machine behind an event of a worker: its book, its owners, and the worker's new part.
record Next (core : Core) (worker : ℕ) (d : BookState) (owner : ℕ → Option ℕ) (q : Part) : Type 0 where
  pub book : IsSoundBook d
  pub owned : (w id : ℕ) → Owns owner w id → id < length d.store.bodies
  pub own : IsSoundPart d owner worker q
  pub others : (w : ℕ) → (w ≡ worker → ⊥) → IsSoundPart d owner w (core.parts w)

next_core : (core : Core) (worker : ℕ) (d : BookState) (owner : ℕ → Option ℕ) (q : Part) → Next core worker d owner q → IsSoundCore (record { book = d; owner = owner; parts = set_at worker q core.parts })
next_core core worker d owner q next = record {
  book = next.book;
  owned = next.owned;
  parts = λ w. set_at_either (IsSoundPart d owner w) worker q core.parts w (λ e. subst (λ n. IsSoundPart d owner n q) (sym e) next.own) (next.others w);
}

each_filter : {X : Type 0} (Q R : X → Type 0) (test : X → Bool) → ((x : X) → Q x → test x ≡ true → R x) → (xs : List X) → AllByRecursion Q xs → AllByRecursion R (filter test xs)
each_filter Q R test f [] a = tt
each_filter Q R test f (x ∷ xs) a = cond_both (test x) (x ∷ filter test xs) (filter test xs) (AllByRecursion R) (λ e. (f x a.0 e, each_filter Q R test f xs a.1)) (λ _. each_filter Q R test f xs a.1)

-- what is written was touched
written_touched : (touched : List ℕ) (ws : List Written) (id : ℕ) → AllByRecursion (λ (w : Written). has touched w.id ≡ true) ws → has (map (λ (w : Written). w.id) ws) id ≡ true → has touched id ≡ true
written_touched touched [] id a h = absurd (false≢true h)
written_touched touched (w ∷ ws) id a h = elim (or_cases (w.id == id) (has (map (λ (w : Written). w.id) ws) id) h) [
  | inl e ↦ subst (λ n. has touched n ≡ true) (eqb-true w.id id e) a.0
  | inr e ↦ written_touched touched ws id a.1 e
]

touched_known : (fs : List Fetched) (touched : List ℕ) (id : ℕ) → AllByRecursion (λ id. IsSome (look_in fs id)) touched → has touched id ≡ true → IsSome (look_in fs id)
touched_known fs [] id a h = absurd (false≢true h)
touched_known fs (t ∷ ts) id a h = elim (or_cases (t == id) (has ts id) h) [
  | inl e ↦ subst (λ n. IsSome (look_in fs n)) (eqb-true t id e) a.0
  | inr e ↦ touched_known fs ts id a.1 e
]

module _ (laws : RunLaws) (core : Core) (sound : IsSoundCore core) (worker : ℕ) (within : worker < length core.book.running) where
  abbrev b : BookState
  b = core.book

  abbrev p : Part
  p = core.parts worker

  abbrev S : Plain
  S = core.book.store

  fits : Fits b.program b.store
  fits = laws.fits b.program b.input b.history b.store sound.book.typed sound.book.bytes sound.book.short sound.book.replayed

  -- where the store stays
  same_store : (pending : List Invocation) (running : List (Option Invocation)) (failures : List Failed) (o : Option Stop) (w : ℕ) → held_by running w ≡ held_by b.running w → IsSoundPart (changed_book b S b.history pending running failures o) core.owner w (core.parts w)
  same_store pending running failures o w held = keep_part b S b.history pending running failures o core.owner core.owner w (core.parts w) held (λ id h. refl) (λ n type e. e) (λ id h. h) (sound.parts w)

  -- The worker has nothing any more, and the parts of the others are sound.
  record Leaves (d : BookState) : Type 0 where
    pub owned : (w id : ℕ) → Owns core.owner w id → id < length d.store.bodies
    pub free : held_by d.running worker ≡ None
    pub others : (w : ℕ) → (w ≡ worker → ⊥) → IsSoundPart d core.owner w (core.parts w)

  left : (pending : List Invocation) (failures : List Failed) (o : Option Stop) → Leaves (changed_book b S b.history pending (set b.running worker None) failures o)
  left pending failures o = record {
    owned = sound.owned;
    free = held_same b.running worker None within;
    others = λ w n. same_store pending (set b.running worker None) failures o w (held_other b.running worker w None n);
  }

  no_own : (d : BookState) → held_by d.running worker ≡ None → IsSoundPart d core.owner worker no_part
  no_own d free = record { held = sym free; idle = λ _. refl; fetched = λ k x l. absurd (omega arith); ready = λ on. absurd (false≢true on) }

  left_next : (d : BookState) → IsSoundBook d → Leaves d → Next core worker d core.owner no_part
  left_next d book l = record { book = book; owned = l.owned; own = no_own d l.free; others = l.others }

  -- what the worker has, the book says
  its_held : (v : Invocation) → p.invocation ≡ Some v → held_by b.running worker ≡ Some v
  its_held v h = sym (sound.parts worker).held ∙ h

  -- a take
  record Takes (s : Step Taken) : Type 0 where
    pub owned : (w id : ℕ) → Owns core.owner w id → id < length s.book.store.bodies
    pub own : IsSoundPart s.book core.owner worker (part_taken s.answer p)
    pub others : (w : ℕ) → (w ≡ worker → ⊥) → IsSoundPart s.book core.owner w (core.parts w)

  take_next : (allows : Invocation → Bool) → p.invocation ≡ None → Next core worker (take worker allows b).book core.owner (part_taken (take worker allows b).answer p)
  take_next allows none =
      let t : Takes (take worker allows b) =
      take_shape worker allows b Takes
      (record { owned = sound.owned; own = sound.parts worker; others = λ w n. sound.parts w })
      (λ s. record { owned = sound.owned; own = sound.parts worker; others = λ w n. sound.parts w })
      (record { owned = sound.owned; own = same_store b.pending b.running b.failures (stopped stop.End b).stop worker refl; others = λ w n. same_store b.pending b.running b.failures (stopped stop.End b).stop w refl })
      (λ v first. record {
        owned = sound.owned;
        own = record { held = sym (held_same b.running worker (Some v) within); idle = λ h. absurd (none-some v (sym h)); fetched = λ k x l. absurd (omega arith); ready = λ on. absurd (false≢true on) };
        others = λ w n. same_store (given worker allows v b).pending (set b.running worker (Some v)) b.failures b.stop w (held_other b.running worker w (Some v) n);
      }) in
      record { book = keeps_sound_book.take b worker allows sound.book (sym (sound.parts worker).held ∙ none) within; owned = t.owned; own = t.own; others = t.others }

  -- a beginning
  begin_next : (v : Invocation) → p.invocation ≡ Some v → All (Owns core.owner worker) v.objects → Next core worker (begin worker v b).book core.owner (part_begun b.program S (Some v))
  unfolding begin
  begin_next v mine owns = by (is_enabled b.program S v) refl (keeps_sound_book.begin b worker v sound.book (its_held v mine))
    where
      fetched : List Fetched
      fetched = filter_map (fetched_now S) v.objects

      ready_part : Part
      ready_part = record { invocation = Some v; begun = true; fetched = fetched }

      by : (c : Bool) → is_enabled b.program S v ≡ c → IsSoundBook (cond c (answers (begins.Ready (filter_map (slice_get S.bodies) v.objects)) b) (answers begins.Stale (freed worker b))).book →
          Next core worker (cond c (answers (begins.Ready (filter_map (slice_get S.bodies) v.objects)) b) (answers begins.Stale (freed worker b))).book core.owner (cond c ready_part no_part)
      by true on book = record {
        book = book;
        owned = sound.owned;
        own = record {
          held = sym (its_held v mine);
          idle = λ h. absurd (none-some v (sym h));
          fetched = All-from_recursion (IsFetched core.owner worker S) fetched (all_fetched core.owner worker S v.objects (recursion_from_All (Owns core.owner worker) v.objects owns));
          ready = λ _.
              let there = (enabled_names.enabled b.program S v sound.book.typed on).objects in
              (v, refl, on, All-from_recursion (λ id. IsSome (look_in fetched id)) v.objects (all_known S v.objects (recursion_from_All (λ id. id < length S.bodies) v.objects there)));
        };
        others = λ w n. sound.parts w;
      }
      by false on book = left_next (freed worker b) book (left b.pending b.failures b.stop)

  -- a fetch
  fetch_next : (id : ℕ) (v : Invocation) → p.invocation ≡ Some v → Owns core.owner worker id → Next core worker b core.owner (record p { fetched = p.fetched ++ option_to_list (fetched_now S id) })
  fetch_next id v mine owns =
      let more = option_to_list (fetched_now S id) in
      let part = sound.parts worker in
      record {
        book = sound.book;
        owned = sound.owned;
        own = record {
          held = part.held;
          idle = λ none. absurd (none-some v (sym none ∙ mine));
          fetched = All-from_recursion (IsFetched core.owner worker S) (p.fetched ++ more) (each_append (IsFetched core.owner worker S) p.fetched more (recursion_from_All (IsFetched core.owner worker S) p.fetched part.fetched) (one_fetched core.owner worker S id owns));
          ready = λ on. let q = part.ready on in (q.0, q.1, q.2, λ k d l. look_append p.fetched more (get_or q.0.objects k d) (q.3 k d l));
        };
        others = λ w n. sound.parts w;
      }

  -- how a complete run ends in the store of the book
  ends_so : (r : Ran) (touched : List ℕ) (can : CanEnd b p r touched) → EndsSo b can.runs.invocation r touched
  ends_so r touched can =
      let part = sound.parts worker in
      let q = part.ready can.runs.begun in
      record {
        enabled = subst (λ (v : Invocation). IsEnabled b.program S v) (same_Some q.0 can.runs.invocation (sym q.1 ∙ can.runs.has)) q.2;
        ends = can.complete.ends S fits (λ k d l. (part.fetched k d l).1);
      }

  fail_next : (f : Fault) (touched : List ℕ) (can : CanEnd b p (ran.Faulted f) touched) → Next core worker (book_with worker p (Fail f touched) (Some can.runs.invocation) b) core.owner no_part
  fail_next f touched can =
      let v = can.runs.invocation in
      left_next (book_with worker p (Fail f touched) (Some v) b)
      (keeps_sound_book.fail b (look_in p.fetched) f touched worker v sound.book (its_held v can.runs.has) (λ _. ends_so (ran.Faulted f) touched can))
      (fail_shape worker v b Leaves (left (put_back worker v b).pending b.failures b.stop) (λ s. left (put_back worker v b).pending b.failures (stopped s b).stop) (λ g. left b.pending (b.failures ++ g ∷ []) b.stop) (look_in p.fetched) f touched)

  -- A commit writes what the worker owns, so that the objects of others keep their bodies.
  module _ (c : Changes) (touched : List ℕ) (can : CanEnd b p (ran.Commit c) touched) where
    abbrev T : Plain
    T = apply_changes S c

    exits : (body_outcome b.program S can.runs.invocation).ran ≡ ran.Commit c
    exits = ap (λ (o : Outcome). o.ran) (ends_so (ran.Commit c) touched can).ends

    write_owned : (id : ℕ) → has (map (λ (w : Written). w.id) c.bodies) id ≡ true → Owns core.owner worker id
    write_owned id h =
        let all = subst (λ (o : Outcome). AllByRecursion (λ (w : Written). has o.touched w.id ≡ true) c.bodies) (ends_so (ran.Commit c) touched can).ends (recursion_from_All (λ (w : Written). has (body_outcome b.program S can.runs.invocation).touched w.id ≡ true) c.bodies (laws.touched b.program S can.runs.invocation c exits)) in
        look_owned core.owner worker S p.fetched id (touched_known p.fetched touched id (recursion_from_All (λ id. IsSome (look_in p.fetched id)) touched can.complete.known) (written_touched touched c.bodies id all h)) (sound.parts worker).fetched

    others_bodies : (w id : ℕ) → (w ≡ worker → ⊥) → Owns core.owner w id → slice_get S.bodies id ≡ slice_get T.bodies id
    others_bodies w id n owns =
        let put = put_bodies S c.bodies S.bodies in
        let low : id < length S.bodies = sound.owned w id owns in
        let size : length put ≡ length S.bodies = put_length S c.bodies S.bodies in
        sym
        (get_front put (map (body_in S) c.made) id (omega (arith, low, size))
        ∙ put_else S c.bodies S.bodies id (false_from_ne_true (has (map (λ (u : Written). u.id) c.bodies) id) (λ h. n (same_Some w worker (sym owns ∙ write_owned id h)))))

    grown : length S.bodies ≤ length T.bodies
    grown = let put = put_bodies S c.bodies S.bodies in omega (arith, put_length S c.bodies S.bodies, length-append put (map (body_in S) c.made))

    joined : Leaves (committed worker T can.runs.invocation b)
    joined =
        let d = committed worker T can.runs.invocation b in
        record {
          owned = λ w id h. let low : id < length S.bodies = sound.owned w id h in omega (arith, low, grown);
          free = held_same b.running worker None within;
          others = λ w n.
              keep_part b T d.history d.pending (set b.running worker None) d.failures b.stop core.owner core.owner w (core.parts w) (held_other b.running worker w None n)
              (λ id owns. others_bodies w id n owns) (λ k type e. get_front S.tags c.tags k (slice_get_within S.tags k type e) ∙ e) (λ id h. h) (sound.parts w);
        }

    leaves : after_commit b.program S can.runs.invocation ≡ Some T → LeavesFailures b T
    leaves leads =
        All-from_recursion (StillFails b.program T) (filter (is_untouched (changed_objects S T)) b.failures)
        (each_filter (StillFails b.program S) (StillFails b.program T) (is_untouched (changed_objects S T)) (λ f stands untouched. laws.stand b.program S T can.runs.invocation f sound.book.typed fits stands leads untouched) b.failures
        (recursion_from_All (StillFails b.program S) b.failures sound.book.failing))

    commit_next : Next core worker (book_with worker p (Commit c touched) (Some can.runs.invocation) b) core.owner no_part
    commit_next =
        let v = can.runs.invocation in
        left_next (book_with worker p (Commit c touched) (Some v) b)
        (keeps_sound_book.commit b (look_in p.fetched) c touched worker v sound.book (its_held v can.runs.has) (λ _. ends_so (ran.Commit c) touched can) leaves)
        (commit_shape worker v b Leaves (left (put_back worker v b).pending b.failures b.stop) (λ s. left (put_back worker v b).pending b.failures (stopped s b).stop) (λ g. left b.pending (b.failures ++ g ∷ []) b.stop) c joined (look_in p.fetched) touched)

  -- what is given up
  lose_next : (o : Option Invocation) → p.invocation ≡ o → Next core worker (book_with worker p Lose o b) core.owner no_part
  unfolding lose
  lose_next None e = left_next b sound.book (record { owned = sound.owned; free = sym (sound.parts worker).held ∙ e; others = λ w n. sound.parts w })
  lose_next (Some v) e = left_next (put_back worker v b) (keeps_sound_book.lose b worker v sound.book (its_held v e)) (left (put_back worker v b).pending b.failures b.stop)

  gives_up : (o : Option Invocation) → held_by b.running worker ≡ o → Leaves (stopped stop.Memory (given_up worker o b))
  gives_up None e = record { owned = sound.owned; free = e; others = λ w n. same_store b.pending b.running b.failures (stopped stop.Memory b).stop w refl }
  gives_up (Some v) e = left (put_back worker v b).pending b.failures (stopped stop.Memory b).stop

  halt_next : Next core worker (halt worker b) core.owner no_part
  unfolding halt
  halt_next = left_next (halt worker b) (keeps_sound_book.halt b worker sound.book) (gives_up (held_by b.running worker) refl)

  -- claims
  owns_more : (id : ℕ) → core.owner id ≡ None → (w n : ℕ) → Owns core.owner w n → Owns (set_at id (Some worker) core.owner) w n
  owns_more id free w n h = set_at_either (λ o. o ≡ Some w) id (Some worker) core.owner n (λ e. absurd (none-some w (sym (ap core.owner e ∙ free) ∙ h))) (λ _. h)

  same_owner : (owner : ℕ → Option ℕ) → ((w n : ℕ) → Owns owner w n → n < length S.bodies) → ((w n : ℕ) → Owns core.owner w n → Owns owner w n) → Next core worker b owner p
  same_owner owner there keeps = record {
    book = sound.book;
    owned = there;
    own = keep_part b S b.history b.pending b.running b.failures b.stop core.owner owner worker p refl (λ id h. refl) (λ n type e. e) (keeps worker) (sound.parts worker);
    others = λ w n. keep_part b S b.history b.pending b.running b.failures b.stop core.owner owner w (core.parts w) refl (λ id h. refl) (λ n type e. e) (keeps w) (sound.parts w);
  }

  claim_next : (id : ℕ) → id < length S.bodies → (o : Option ℕ) → core.owner id ≡ o → Next core worker b (claimed worker id o core.owner) p
  claim_next id low None free =
      same_owner (set_at id (Some worker) core.owner)
      (λ w n. set_at_either (λ o. o ≡ Some w → n < length S.bodies) id (Some worker) core.owner n (λ e _. subst (λ m. m < length S.bodies) (sym e) low) (λ _ h. sound.owned w n h))
      (owns_more id free)
  claim_next id low (Some other) e = same_owner core.owner sound.owned (λ w n h. h)

  release_next : (id : ℕ) → Owns core.owner worker id → p.invocation ≡ None → Next core worker b (set_at id None core.owner) p
  release_next id mine none = record {
    book = sound.book;
    owned = λ w n. set_at_either (λ o. o ≡ Some w → n < length S.bodies) id None core.owner n (λ _ h. absurd (none-some w h)) (λ _ h. sound.owned w n h);
    own =
        let part = sound.parts worker in
        subst (IsSoundPart b (set_at id None core.owner) worker) (sym (part.idle none)) (record {
          held = sym none ∙ part.held;
          idle = λ _. refl;
          fetched = λ k x l. absurd (omega arith);
          ready = λ on. absurd (false≢true on);
        });
    others = λ w n.
        keep_part b S b.history b.pending b.running b.failures b.stop core.owner (set_at id None core.owner) w (core.parts w) refl (λ m h. refl) (λ m type e. e)
        (λ m h. set_at_either (λ o. o ≡ Some w) id None core.owner m (λ e. absurd (n (same_Some w worker (sym h ∙ (ap core.owner e ∙ mine))))) (λ _. h))
        (sound.parts w);
  }

  -- with what the worker has
  with_its : (e : Event) (v : Invocation) (q : Part) → p.invocation ≡ Some v → Next core worker (book_with worker p e (Some v) b) core.owner q → Next core worker (book_with worker p e p.invocation b) core.owner q
  with_its e v q mine next = subst (λ (o : Option Invocation). Next core worker (book_with worker p e o b) core.owner q) (sym mine) next

  event_core : (e : Event) → IsLawful core worker e → IsSoundCore (after core worker e)
  unfolding after
  event_core (Take allows) h = next_core core worker _ _ _ (take_next allows h.1.0)
  event_core (Claim id) h = next_core core worker _ _ _ (claim_next id h.1.1 (core.owner id) refl)
  event_core Begin h =
      let v = h.1.waits.invocation in
      next_core core worker _ _ _ (subst (λ (o : Option Invocation). Next core worker (book_with worker p Begin o b) core.owner (part_begun b.program S o)) (sym h.1.waits.has) (begin_next v h.1.waits.has h.1.owns))
  event_core (Fetch id) h = next_core core worker _ _ _ (fetch_next id h.1.0.invocation h.1.0.has h.1.1)
  event_core (Commit c touched) h = next_core core worker _ _ _ (with_its (Commit c touched) h.1.runs.invocation no_part h.1.runs.has (commit_next c touched h.1))
  event_core (Fail f touched) h = next_core core worker _ _ _ (with_its (Fail f touched) h.1.runs.invocation no_part h.1.runs.has (fail_next f touched h.1))
  event_core Lose h = next_core core worker _ _ _ (lose_next p.invocation refl)
  event_core Halt h = next_core core worker _ _ _ halt_next
  event_core (Release id) h = next_core core worker _ _ _ (release_next id h.1.0 h.1.1)

core_starts : (P : TypedProgram) (input : List ℕ) (limit workers : ℕ) → IsWellTyped P → All (λ byte. byte < 256) input → length input ≤ 65536 → IsSoundCore (core_at_start P input limit workers)
core_starts P input limit workers typed bytes short = record {
  book = keeps_sound_book.start P input limit workers typed bytes short;
  owned = λ w id h. absurd (none-some w h);
  parts = λ w. record { held = sym (none_held workers w); idle = λ _. refl; fetched = λ k x l. absurd (omega arith); ready = λ on. absurd (false≢true on) };
}

runs_core : (laws : RunLaws) (from : Core) (events : List Did) (to : Core) → IsSoundCore from → Leads from events to → IsSoundCore to
runs_core laws from [] to sound h = subst IsSoundCore h sound
runs_core laws from (d ∷ ds) to sound h = runs_core laws (after from d.worker d.event) ds to (event_core laws from sound d.worker h.0.0 d.event h.0) h.1

pub keeps_sound_core : KeepsSoundCore
keeps_sound_core = record {
  event = λ core worker e laws sound lawful. event_core laws core sound worker lawful.0 e lawful;
  reached = λ P input limit workers core laws typed bytes short run. runs_core laws (core_at_start P input limit workers) run.0 core (core_starts P input limit workers typed bytes short) run.1;
}
