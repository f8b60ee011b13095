-- The book at the start of a run.
use Rattle.std.proofs.Common.{◌≡◌, ℕ, zero, suc, ◌<◌, ◌≤◌, Bool, true, false, List, [], ◌∷◌, length, filter, replicate, get_or, All, None, refl, sym, ap, subst, ◌∙◌, arith}
use Rattle.std.specs.List.{AllByRecursion}
use Rattle.std.proofs.lemmas.Bool.{cond_both}
use Rattle.std.proofs.lemmas.List.{get_or_default, length-replicate}
use Rattle.std.proofs.lemmas.List.Elements.{All-from_recursion}
use Rattle.bc_data.specs.Typed.{TypedProgram}
use Rattle.bc_data.specs.WellTyped.{IsWellTyped}
use Rattle.bc_data.specs.declared.run.Invocation.{Invocation}
use Rattle.bc_mean.specs.declared.plain.Plain.{Plain}
use Rattle.bc_mean.specs.Enabled.{IsEnabled, all_enabled, all_invocations, is_enabled}
use Rattle.bc_mean.specs.Store.{start_store}
use Rattle.bc_mean.specs.Work.{look_of}
use Rattle.bc_pending.specs.Lists.{HasObjects, is_held}
use Rattle.bc_params_sets.specs.Kept.{AreSets}
use Rattle.bc_book_events.specs.Named.{IsNamed}
use Rattle.bc_book_events.specs.Sound.{IsSoundBook}
use Rattle.bc_book_events.specs.SoundLaws.{EnabledNames, KeepsSoundBook, book_at_start}
use Rattle.bc_book.specs.declared.book.Book.TheInside.{Inside}
use Rattle.bc_book.specs.Kept.{IsKept, state_of}

pub none_held : (n : ℕ) (v : Invocation) → is_held (replicate n None) v ≡ false
none_held zero v = refl
none_held (suc n) v = none_held n v

-- what a filter leaves passes
each_passes : {X : Type 0} (p : X → Bool) (xs : List X) → AllByRecursion (λ x. p x ≡ true) (filter p xs)
each_passes p [] = tt
each_passes {X = X} p (x ∷ xs) = cond_both (p x) _ _ (λ (l : List X). AllByRecursion (λ x. p x ≡ true) l) (λ e. (e, each_passes p xs)) (λ _. each_passes p xs)

all_pass : (P : TypedProgram) (S : Plain) → All (IsEnabled P S) (all_enabled P S)
unfolding all_enabled
all_pass P S = All-from_recursion (IsEnabled P S) (all_enabled P S) (each_passes (is_enabled P S) (all_invocations P S))

-- there are two objects
named_objects : (P : TypedProgram) (input : List ℕ) (v : Invocation) → IsNamed P (start_store input) v → HasObjects v
named_objects P input v named = record {
  different = named.different;
  below = λ k d low. let two : get_or v.objects k d < 2 = named.objects k d low in omega (arith, two);
}

pub start_objects : EnabledNames → (P : TypedProgram) (input : List ℕ) → IsWellTyped P → All HasObjects (all_enabled P (start_store input))
start_objects law P input typed k d low =
    let v = get_or (all_enabled P (start_store input)) k d in
    named_objects P input v (law.enabled P (start_store input) v typed (all_pass P (start_store input) k d low))

-- the elements of a slice of bytes
pub each_byte : (input : List ℕ) → ((k : ℕ) → get_or input k 0 < 256) → All (λ byte. byte < 256) input
each_byte input h k d low = let one : get_or input k 0 < 256 = h k in omega (arith, get_or_default input k d 0 low, one)

-- the parts of a book at the start
pub record IsStart (P : TypedProgram) (bytes : List ℕ) (most count : ℕ) (i : Inside) : Type 0 where
  pub program : i.program ≡ P
  pub input : i.input ≡ bytes
  pub limit : i.limit ≡ most
  pub store : i.store.plain ≡ start_store bytes
  pub history : i.history.items ≡ []
  pub listed : i.pending.listed ≡ all_enabled P (start_store bytes)
  pub held : i.pending.held ≡ replicate count None
  pub failures : i.failures.failures ≡ []
  pub stop : i.stop ≡ None

start_state : (P : TypedProgram) (bytes : List ℕ) (most count : ℕ) (i : Inside) → IsStart P bytes most count i → state_of i ≡ book_at_start P bytes most count
start_state P bytes most count i s = cc

pub start_kept : KeepsSoundBook → (P : TypedProgram) (bytes : List ℕ) (most count : ℕ) (i : Inside) → IsStart P bytes most count i → IsWellTyped P → All (λ byte. byte < 256) bytes → length bytes ≤ 65536
    → AreSets P (look_of (start_store bytes)) [] i.params.kept → i.workers ≡ count → 1 ≤ count → count ≤ 16 → most ≤ 1000000 → IsKept i
start_kept law P bytes most count i s typed each short sets size some few small = record {
  sound = subst IsSoundBook (sym (start_state P bytes most count i s)) (law.start P bytes most count typed each short);
  sets =
      subst (λ (Q : TypedProgram). AreSets Q (look_of i.store.plain) i.store.plain.tags i.params.kept) (sym s.program)
      (subst (λ (S : Plain). AreSets P (look_of S) S.tags i.params.kept) (sym s.store) sets);
  workers = size ∙ sym (ap length s.held ∙ length-replicate count None);
  some = omega (arith, size, some);
  few = omega (arith, size, few);
  limit = omega (arith, s.limit, small);
}
