-- The newest copy of an object behind a copy that was put there.
use Rattle.std.proofs.Common.{◌≡◌, ℕ, ◌==◌, Bool, true, false, List, [], ◌∷◌, if◌then◌else◌, refl, ap, sym, ◌∙◌}
use Rattle.std.proofs.lemmas.Bool.{eq-eqb, eqb-true, ne_eqb}
use Rattle.bc_data.specs.declared.run.Body.{Body}
use Rattle.bc_data.specs.declared.run.Written.{Written}
use Rattle.bc_mean.specs.Work.{newest, put}

pub newest_put_same : (cs : List Written) (id : ℕ) (b d : Body) → newest (put id b cs) id d ≡ b
newest_put_same [] id b d = ap (λ t. if t then b else d) (eq-eqb id id refl)
newest_put_same (c ∷ cs) id b d = either (newest_put_same cs id b d) (c.id == id) refl
  where
    either : newest (put id b cs) id d ≡ b → (t : Bool) → (c.id == id) ≡ t → newest (if t then record { id = id; body = b } ∷ cs else c ∷ put id b cs) id d ≡ b
    either later true e = ap (λ t. if t then b else newest cs id d) (eq-eqb id id refl)
    either later false e = ap (λ t. if t then c.body else newest (put id b cs) id d) e ∙ later

pub newest_put_other : (cs : List Written) (id other : ℕ) (b d : Body) → (id ≡ other → ⊥) → newest (put id b cs) other d ≡ newest cs other d
newest_put_other [] id other b d h = ap (λ t. if t then b else d) (ne_eqb id other h)
newest_put_other (c ∷ cs) id other b d h = either (newest_put_other cs id other b d h) (c.id == id) refl
  where
    either :
        newest (put id b cs) other d ≡ newest cs other d
        → (t : Bool) → (c.id == id) ≡ t
        → newest (if t then record { id = id; body = b } ∷ cs else c ∷ put id b cs) other d ≡ (if c.id == other then c.body else newest cs other d)
    either later true e =
        ap (λ t. if t then b else newest cs other d) (ne_eqb id other h)
        ∙ sym (ap (λ t. if t then c.body else newest cs other d) (ne_eqb c.id other (λ same. h (sym (eqb-true c.id id e) ∙ same))))
    either later false e = ap (λ x. if c.id == other then c.body else x) later
