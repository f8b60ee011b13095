-- How code grows: one piece behind another, and jumps that are written back.
use Rattle.std.proofs.Common.{◌≡◌, ℕ, zero, suc, ◌+◌, ◌<◌, ◌≤◌, List, [], ◌∷◌, length, refl, sym, ◌∙◌, ap, subst, arith, Some}
use Rattle.std.specs.Prelude.{slice_get, slice_set}
use Rattle.bc_data.specs.declared.run.Place.{Place}
use Rattle.bc_code.specs.declared.code.Instruction.{Instruction}
use Rattle.bc_code.specs.declared.code.Unit.{Unit as CodeUnit}
use Rattle.bc_code.specs.Translation.{Text, text_of, At}
use Rattle.bc_code.specs.Emitted.{Agree, IsGrowing, Emitted}
use Rattle.bc_gen_expr.specs.Written.{written}

pub narrow : (T V : Text) (p q r s : ℕ) → p ≤ r → s ≤ q → Agree T V p q → Agree T V r s
narrow T V p q r s h k a = λ j x y. a j (omega arith) (omega arith)

-- P holds on wherever the instructions from p to before q stay
pub record Kept (P : Text → Type 0) (p q : ℕ) : Type 0 where
  pub grows : p ≤ q
  pub stays : (T V : Text) → P T → Agree T V p q → P V

pub kept_nothing : (p : ℕ) → Kept (λ T. Unit {0}) p p
kept_nothing p = record { grows = omega arith; stays = λ T V h a. tt }

pub kept_at : (p : ℕ) (i : Instruction) (at : Place) → Kept (λ T. At T p i at) p (p + 1)
kept_at p i at = record {
  grows = omega arith;
  stays = λ T V h a. let same = a p (omega arith) (omega arith) in (same.0 ∙ h.0, same.1 ∙ h.1);
}

-- the same under other words
pub kept_told : {P R : Text → Type 0} {p q : ℕ} → Kept P p q → ((T : Text) → P T → R T) → ((T : Text) → R T → P T) → Kept R p q
kept_told x into from = record { grows = x.grows; stays = λ T V h a. into V (x.stays T V (from T h) a) }

-- two pieces, one behind the other, and three, four and five
pub kept_two : {P R : Text → Type 0} {p q r : ℕ} → Kept P p q → Kept R q r → Kept (λ T. P T × R T) p r
kept_two {P} {R} {p} {q} {r} x y = record {
  grows = omega (arith, x.grows, y.grows);
  stays = λ T V h a. (
    x.stays T V h.0 (narrow T V p r p q (omega arith) y.grows a),
    y.stays T V h.1 (narrow T V p r q r x.grows (omega arith) a),
  );
}

pub kept_three : {P R S : Text → Type 0} {p q r s : ℕ} → Kept P p q → Kept R q r → Kept S r s → Kept (λ T. P T × R T × S T) p s
kept_three x y z = kept_told (kept_two x (kept_two y z)) (λ T h. (h.0, h.1.0, h.1.1)) (λ T h. (h.0, (h.1, h.2)))

pub kept_four : {P R S U : Text → Type 0} {p q r s t : ℕ} → Kept P p q → Kept R q r → Kept S r s → Kept U s t → Kept (λ T. P T × R T × S T × U T) p t
kept_four x y z w = kept_told (kept_two x (kept_three y z w)) (λ T h. (h.0, h.1.0, h.1.1, h.1.2)) (λ T h. (h.0, (h.1, h.2, h.3)))

pub kept_five : {P R S U W : Text → Type 0} {p q r s t u : ℕ} → Kept P p q → Kept R q r → Kept S r s → Kept U s t → Kept W t u → Kept (λ T. P T × R T × S T × U T × W T) p u
kept_five x y z w v = kept_told (kept_two x (kept_four y z w v)) (λ T h. (h.0, h.1.0, h.1.1, h.1.2, h.1.3)) (λ T h. (h.0, (h.1, h.2, h.3, h.4)))

-- the same from each place on
pub record Stays (P : Text → ℕ → Type 0) (q : ℕ → ℕ) : Type 0 where
  pub kept : (p : ℕ) → Kept (λ T. P T p) p (q p)

pub stays_two : {P R : Text → ℕ → Type 0} {q s : ℕ → ℕ} → Stays P q → Stays R s → Stays (λ T p. P T p × R T (q p)) (λ p. s (q p))
stays_two {P} {R} {q} {s} x y = record { kept = λ p. kept_two (x.kept p) (y.kept (q p)) }

-- what was appended, and that it holds on
pub record Laid (P : Text → ℕ → Type 0) (q : ℕ → ℕ) (a b : CodeUnit) : Type 0 where
  pub holds_on : Stays P q
  pub is : Emitted P q a b

pub laid : {P : Text → ℕ → Type 0} {q : ℕ → ℕ} {a b : CodeUnit} → Stays P q → Emitted P q a b → Laid P q a b
laid x l = record { holds_on = x; is = l }

-- one instruction
pub laid_at : {i : Instruction} {at : Place} {a b : CodeUnit} → Emitted (λ T p. At T p i at) (λ p. p + 1) a b → Laid (λ T p. At T p i at) (λ p. p + 1) a b
laid_at {i} {at} l = laid (record { kept = λ p. kept_at p i at }) l

-- nothing was appended
pub emitted_nothing : (a : CodeUnit) → IsGrowing a → Emitted (λ T p. Unit {0}) (λ p. p) a a
emitted_nothing a grows = record {
  grows = grows;
  long = refl;
  same = λ j h k. (refl, refl);
  has = tt;
  locals = refl;
  tags = refl;
}

-- one piece behind the other
pub then : {P R : Text → ℕ → Type 0} {q s : ℕ → ℕ} {a b c : CodeUnit} → Laid P q a b → Laid R s b c → Laid (λ T p. P T p × R T (q p)) (λ p. s (q p)) a c
then {P} {R} {q} {s} {a} {b} {c} x y = record {
  holds_on = stays_two x.holds_on y.holds_on;
  is = record {
    grows = y.is.grows;
    long = y.is.long ∙ ap s x.is.long;
    same = λ j h k.
        let gx = (x.holds_on.kept (length a.code)).grows in
        let lb = x.is.long in
        let later = y.is.same j (omega arith) (omega arith) in
        let first = x.is.same j h k in
        (later.0 ∙ first.0, later.1 ∙ first.1);
    has = (
      (x.holds_on.kept (length a.code)).stays (text_of b) (text_of c) x.is.has
          (let lb = x.is.long in narrow (text_of b) (text_of c) 0 (length b.code) (length a.code) (q (length a.code)) (omega arith) (omega arith) y.is.same),
      subst (R (text_of c)) x.is.long y.is.has,
    );
    locals = y.is.locals ∙ x.is.locals;
    tags = y.is.tags ∙ x.is.tags;
  };
}

-- the same under other words
pub told : {P R : Text → ℕ → Type 0} {q : ℕ → ℕ} {a b : CodeUnit} → ((T : Text) → P T (length a.code) → R T (length a.code)) → Emitted P q a b → Emitted R q a b
told {P} {R} {q} {a} {b} into l = record {
  grows = l.grows;
  long = l.long;
  same = l.same;
  has = into (text_of b) l.has;
  locals = l.locals;
  tags = l.tags;
}

-- the same pieces up to the same place, under other words
pub retold : {P R : Text → ℕ → Type 0} {q s : ℕ → ℕ} {a b : CodeUnit} → q (length a.code) ≡ s (length a.code) → ((T : Text) → P T (length a.code) → R T (length a.code)) → Emitted P q a b → Emitted R s a b
retold {P} {R} {q} {s} {a} {b} ends into l = record {
  grows = l.grows;
  long = l.long ∙ ends;
  same = l.same;
  has = into (text_of b) l.has;
  locals = l.locals;
  tags = l.tags;
}

get_set_other : (l : List Instruction) (n m : ℕ) (i : Instruction) → (m ≡ n → ⊥) → slice_get (slice_set l n i) m ≡ slice_get l m
get_set_other [] n m i h = refl
get_set_other (x ∷ l) zero zero i h = absurd (h refl)
get_set_other (x ∷ l) zero (suc m) i h = refl
get_set_other (x ∷ l) (suc n) zero i h = refl
get_set_other (x ∷ l) (suc n) (suc m) i h = get_set_other l n m i (λ e. h (ap suc e))

get_set_same : (l : List Instruction) (n : ℕ) (i : Instruction) → n < length l → slice_get (slice_set l n i) n ≡ Some i
get_set_same [] n i h = absurd (omega arith)
get_set_same (x ∷ l) zero i h = refl
get_set_same (x ∷ l) (suc n) i h = get_set_same l n i (omega arith)

length_set : (l : List Instruction) (n : ℕ) (i : Instruction) → length (slice_set l n i) ≡ length l
length_set [] n i = refl
length_set (x ∷ l) zero i = refl
length_set (x ∷ l) (suc n) i = ap suc (length_set l n i)

written_grows : (u : CodeUnit) (n : ℕ) (i : Instruction) → IsGrowing u → IsGrowing (written u n i)
written_grows u n i g =
    let same = length_set u.code n i in
    record { places = g.places ∙ sym same; short = omega (arith, g.short) }

-- A jump, written back: the code before it stays, and so does that behind it.
pub jumped : {P R : Text → ℕ → Type 0} {q s : ℕ → ℕ} {a b c d e : CodeUnit} {i : Instruction} {at : Place} (j : Instruction) (n : ℕ) → Laid P q a b → Emitted (λ T p. At T p i at) (λ p. p + 1) b c → Laid R s c d → n ≡ length b.code → e ≡ written d n j → Laid (λ T p. P T p × (At T (q p) j at × R T (q p + 1))) (λ p. s (q p + 1)) a e
jumped {P} {R} {q} {s} {a} {b} {c} {d} {e} {i} {at} j n x hole y here set =
    let all = (then x (then (laid_at hole) y)).is in
    let w = written d n j in
    let p = length a.code in
    let there : n ≡ q p = here ∙ x.is.long in
    let gx = (x.holds_on.kept p).grows in
    let gy = (y.holds_on.kept (q p + 1)).grows in
    let ends = all.long in
    let other = λ (m : ℕ) (ne : m ≡ n → ⊥). get_set_other d.code n m j ne in
    let within : n < length d.code = omega arith in
    let done : Emitted (λ T p. P T p × (At T (q p) j at × R T (q p + 1))) (λ p. s (q p + 1)) a w = record {
      grows = written_grows d n j all.grows;
      long = length_set d.code n j ∙ all.long;
      same = λ m h k. let old = all.same m h k in (other m (omega arith) ∙ old.0, old.1);
      has = (
        (x.holds_on.kept p).stays (text_of d) (text_of w) all.has.0 (λ m h k. (other m (omega arith), refl)),
        (
          (subst (λ z. slice_get w.code z ≡ Some j) there (get_set_same d.code n j within), all.has.1.0.1),
          (y.holds_on.kept (q p + 1)).stays (text_of d) (text_of w) all.has.1.1 (λ m h k. (other m (omega arith), refl)),
        ),
      );
      locals = all.locals;
      tags = all.tags;
    } in
    laid (stays_two x.holds_on (stays_two (record { kept = λ p. kept_at p j at }) y.holds_on)) (subst (λ u. Emitted (λ T p. P T p × (At T (q p) j at × R T (q p + 1))) (λ p. s (q p + 1)) a u) (sym set) done)
