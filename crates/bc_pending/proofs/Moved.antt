-- An invocation that moves from its place in the list to a worker.
use Rattle.std.proofs.Common.{◌≡◌, ℕ, ◌<◌, ◌≤◌, Bool, List, length, sym, ap, ◌∙◌, Option, Some, None, slice_get, slice_set, get_or, IfSome, IfNone, [], get_or-set_same}
use Rattle.std.specs.List.{position, remove}
use Rattle.bc_data.specs.declared.run.Invocation.{Invocation}
use Rattle.bc_mean.specs.Serial.{same_invocation}
use Rattle.bc_mean.proofs.Orders.{same_true}
use Rattle.bc_pending.specs.Lists.{Lists, Moves, held_by}
use Rattle.bc_pending.proofs.First.{at_place, found_passes, position_found, position_rest, position_within}

-- what moving the one at a place does
pub record MovesAt (at worker : ℕ) (old new : Lists) : Type 0 where
  pub listed : new.listed ≡ remove old.listed at
  pub held : new.held ≡ slice_set old.held worker (slice_get old.listed at)
  pub spare : old.spare ≤ new.spare

pub moves : (test : Invocation → Bool) (worker at : ℕ) (v : Invocation) (old new : Lists) → position test old.listed ≡ Some at → MovesAt at worker old new → slice_get old.listed at ≡ Some v → Moves test worker v old new
moves test worker at v old new h m e = record {
  first = position_found test old.listed at h ∙ e;
  listed = m.listed ∙ position_rest test old.listed at h;
  held = m.held ∙ ap (λ (slot : Option Invocation). slice_set old.held worker slot) e;
  spare = m.spare;
}

holds : (worker at : ℕ) (old new : Lists) → worker < length old.held → MovesAt at worker old new → held_by new.held worker ≡ slice_get old.listed at
holds worker at old new h m = rw m.held (get_or-set_same old.held worker (slice_get old.listed at) None h)

pub first_moves : (test : Invocation → Bool) (worker at : ℕ) (r : Option Invocation) (old new : Lists) → position test old.listed ≡ Some at → worker < length old.held → MovesAt at worker old new → r ≡ held_by new.held worker → IfSome r (λ v. Moves test worker v old new)
first_moves test worker at None old new h k m e = tt
first_moves test worker at (Some v) old new h k m e = moves test worker at v old new h m (sym (e ∙ holds worker at old new k m))

pub some_moves : (worker at : ℕ) (r : Option Invocation) (old new : Lists) (A : Type 0) → at < length old.listed → worker < length old.held → MovesAt at worker old new → r ≡ held_by new.held worker → IfNone r A
some_moves worker at None old new A h k m e =
    let one : slice_get old.listed at ≡ Some (get_or old.listed at nobody) = at_place old.listed at nobody h in
    absurd (never (get_or old.listed at nobody) (e ∙ holds worker at old new k m ∙ one))
  where
    nobody : Invocation
    nobody = record { task = 0; objects = []; tags = [] }

    never : (v : Invocation) → ◌≡◌ {A = Option Invocation} None (Some v) → ⊥
    never v h = cc
some_moves worker at (Some v) old new A h k m e = tt

pub this_moves : (worker at : ℕ) (v : Invocation) (old new : Lists) → position (same_invocation v) old.listed ≡ Some at → MovesAt at worker old new → Moves (same_invocation v) worker v old new
this_moves worker at v old new h m =
    let e : slice_get old.listed at ≡ Some (get_or old.listed at v) = at_place old.listed at v (position_within (same_invocation v) old.listed at h) in
    let same : v ≡ get_or old.listed at v = same_true v (get_or old.listed at v) (found_passes (same_invocation v) old.listed (get_or old.listed at v) (position_found (same_invocation v) old.listed at h ∙ e)) in
    moves (same_invocation v) worker at v old new h m (e ∙ ap (λ (w : Invocation). Some w) (sym same))

-- the same question of the list as contracts see it
pub asked_of : (test : Invocation → Bool) (xs ys : List Invocation) (s : Lists) (r o : Option ℕ) → r ≡ position test xs → xs ≡ ys → ys ≡ s.listed → r ≡ o → position test s.listed ≡ o
asked_of test xs ys s r o h a b k = ap (λ (vs : List Invocation). position test vs) (sym (a ∙ b)) ∙ sym h ∙ k
