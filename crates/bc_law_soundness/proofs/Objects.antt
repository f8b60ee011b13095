-- Objects that a run reaches, writes and makes.
use Rattle.std.proofs.Common.{◌≤◌, ◌≡◌, ◌⊎◌, inl, inr, ℕ, ◌+◌, ◌<◌, ◌==◌, ◌&&◌, Bool, true, false, [], ◌∷◌, ◌++◌, length, set, Option, Some, nat_lt, nat_le, if◌then◌else◌, get_or, slice_get, refl, ap, sym, subst, ◌∙◌, arith, length-append}
use Rattle.std.specs.List.{list_any}
use Rattle.std.proofs.lemmas.Bool.{and_parts, cases_eq, leb-true, ltb-true}
use Rattle.std.proofs.lemmas.List.{length-set}
use Rattle.std.proofs.lemmas.List.Sums.{sum_by-set, sum_by_push}
use Rattle.std.proofs.lemmas.Option.{get_or_from_slice_get, slice_get_within}
use Rattle.std.proofs.lemmas.List.Elements.{All-push}
use Rattle.bc_data.specs.declared.run.Body.{Body}
use Rattle.bc_data.specs.declared.run.FaultKind.TheVariants as fault
use Rattle.bc_data.specs.declared.run.Kind.{Kind}
use Rattle.bc_data.specs.declared.run.Place.{Place}
use Rattle.bc_data.specs.declared.run.Value.{Value}
use Rattle.bc_data.specs.declared.run.Value.TheVariants as value
use Rattle.bc_data.specs.Typed.{TypedProgram}
use Rattle.bc_mean.specs.declared.plain.Plain.{Plain}
use Rattle.bc_mean.specs.Store.{cells_in}
use Rattle.bc_mean.specs.Work.{Work, Gives, ObjectRef, OldObject, NewObject, Reached, look_of, newest, put, touch, seen, made_one, reach, parameter, with_body, write, make, make_instance, faults}
use Rattle.bc_law_soundness.specs.Fitting.{IsKindAt, Refers, FitsBody, IsVersion, IsWithinLimits, FitsWork, Grows, Follows, Well}
use Rattle.bc_law_soundness.proofs.Growing.{body_grows, version_grows, follows_refl, idle}
use Rattle.bc_law_soundness.proofs.Lists.{old_or_last, stays, last_at, set_same, set_other, set_or_other}
use Rattle.bc_law_soundness.proofs.Puts.{newest_put_same, newest_put_other}
use Rattle.bc_law_soundness.proofs.Steps.{gives, faulted, earlier}

-- the place of an object of this kind whose newest body this is
abbrev pub StandsAt : Plain → Work → Kind → ObjectRef → Body → Type 0
StandsAt S w k (OldObject id) b = (before : Body) × (slice_get S.bodies id ≡ Some before) × (before.kind ≡ k) × (newest w.changed id before ≡ b)
StandsAt S w k (NewObject n) b = slice_get w.made n ≡ Some b

pub record IsReached (P : TypedProgram) (S : Plain) (k : Kind) (w : Work) (o : Reached) : Type 0 where
  pub place : StandsAt S w k o.object o.body
  pub kind : o.body.kind ≡ k
  pub fits : FitsBody P.classes S w k o.body

module _ (P : TypedProgram) (S : Plain) where
  touched : (w : Work) (id : ℕ) → FitsWork P S w → Follows P S w (touch id w)
  touched w id h = either (list_any (λ other. other == id) w.touched)
    where
      either : (b : Bool) → Follows P S w (if b then w else record w { touched = w.touched ++ id ∷ [] })
      either true = follows_refl P S w h
      either false = idle P S w w.text w.turns (w.touched ++ id ∷ []) h h.limits.text (omega arith)

  seen_well : (w : Work) (k : Kind) (id : ℕ) → FitsWork P S w → IsKindAt S.bodies k id → Well P S w (IsReached P S k) (seen id (slice_get S.bodies id) w)
  seen_well w k id h at =
      let version = h.changed id at.0 at.1 in
      let o : Reached = record { object = OldObject id; body = newest w.changed id at.0 } in
      subst (λ o. Well P S w (IsReached P S k) (seen id o w)) (sym at.1)
      (gives P S w (IsReached P S k) o w (follows_refl P S w h)
      (record {
        place = (at.0, at.1, at.2, refl);
        kind = version.kind ∙ at.2;
        fits = subst (λ k. FitsBody P.classes S w k o.body) at.2 version.fits;
      }))

  pub made_well : (w : Work) (k : Kind) (n : ℕ) → FitsWork P S w → IsKindAt w.made k n → Well P S w (IsReached P S k) (made_one n (slice_get w.made n) w)
  made_well w k n h at =
      let o : Reached = record { object = NewObject n; body = at.0 } in
      subst (λ o. Well P S w (IsReached P S k) (made_one n o w)) (sym at.1)
      (gives P S w (IsReached P S k) o w (follows_refl P S w h)
      (record { place = at.1; kind = at.2; fits = subst (λ k. FitsBody P.classes S w k at.0) at.2 (h.made n at.0 at.1) }))

  pub reach_well : (w : Work) (k : Kind) (at : Place) (x : Value) → FitsWork P S w → Refers S w k x → Well P S w (IsReached P S k) (reach (look_of S) at x w)
  reach_well w k at value.Null h r = faulted P S w (IsReached P S k) fault.Null at w
  reach_well w k at (value.Old id) h r =
      let f = touched w id h in
      earlier P S w (touch id w) (IsReached P S k) _ f (seen_well (touch id w) k id f.fits r)
  reach_well w k at (value.New n) h r = made_well w k n h r
  reach_well w k at (value.Int n) h r = absurd r
  reach_well w k at (value.Bool b) h r = absurd r

  -- a parameter's object
  pub parameter_well : (w : Work) (k : Kind) (o : Option ℕ) (id : ℕ) → FitsWork P S w → o ≡ Some id → IsKindAt S.bodies k id → Well P S w (IsReached P S k) (parameter (look_of S) o w)
  parameter_well w k o id h e at = subst (λ o. Well P S w (IsReached P S k) (parameter (look_of S) o w)) (sym e) (seen_well w k id h at)

  -- what a body that takes the place of one that was reached has to be
  pub record IsNext (k : Kind) (w : Work) (b c : Body) : Type 0 where
    pub kind : c.kind ≡ k
    pub size : length c.cells ≡ length b.cells
    pub fits : FitsBody P.classes S w k c

  old_written : (w : Work) (k : Kind) (id : ℕ) (b c : Body) → FitsWork P S w → StandsAt S w k (OldObject id) b → IsNext k w b c → Follows P S w (record w { changed = put id c w.changed })
  old_written w k id b c h at next =
      record {
        fits = record {
          changed = λ other d e. version other d e (cases_eq id other);
          made = λ n d e. body_grows S w v g P.classes d.kind d (h.made n d e);
          instances = h.instances;
          limits = record { objects = h.limits.objects; cells = h.limits.cells; instances = h.limits.instances; text = h.limits.text };
        };
        grows = g;
        turns = omega arith;
      }
    where
      v : Work
      v = record w { changed = put id c w.changed }

      g : Grows w v
      g = record { made = λ k n at. at; instances = omega arith }

      version : (other : ℕ) (d : Body) → slice_get S.bodies other ≡ Some d → (id ≡ other) ⊎ (id ≡ other → ⊥) → IsVersion P.classes S v d (newest (put id c w.changed) other d)
      version other d e (inl same) =
          let one : at.0 ≡ d = cc in
          let before = h.changed id at.0 at.1 in
          let kinds : d.kind ≡ k = ap (λ b. b.kind) (sym one) ∙ at.2 in
          let sizes : length b.cells ≡ length at.0.cells = ap (λ b. length b.cells) (sym at.3) ∙ before.size in
          let there : newest (put id c w.changed) other d ≡ c = ap (λ i. newest (put id c w.changed) i d) (sym same) ∙ newest_put_same w.changed id c d in
          subst (IsVersion P.classes S v d) (sym there)
          (record {
            kind = next.kind ∙ sym kinds;
            size = next.size ∙ sizes ∙ ap (λ b. length b.cells) one;
            fits = body_grows S w v g P.classes d.kind c (subst (λ k. FitsBody P.classes S w k c) (sym kinds) next.fits);
          })
      version other d e (inr differs) =
          subst (IsVersion P.classes S v d) (sym (newest_put_other w.changed id other c d differs)) (version_grows S w v g P.classes d _ (h.changed other d e))

  new_written : (w : Work) (k : Kind) (n : ℕ) (b c : Body) → FitsWork P S w → slice_get w.made n ≡ Some b → b.kind ≡ k → IsNext k w b c → Follows P S w (record w { made = set w.made n c })
  new_written w k n b c h at kinds next =
      record {
        fits = record {
          changed = λ id d e. version_grows S w v g P.classes d _ (h.changed id d e);
          made = λ m d e. body m d (set_or_other w.made n m c d e);
          instances = h.instances;
          limits = record {
            objects = subst (λ m. m ≤ 65536) (sym (length-set w.made n c)) h.limits.objects;
            cells = cells;
            instances = h.limits.instances;
            text = h.limits.text;
          };
        };
        grows = g;
        turns = omega arith;
      }
    where
      v : Work
      v = record w { made = set w.made n c }

      cells : cells_in (set w.made n c) ≤ 4194304
      cells =
          let sums = sum_by-set (λ (b : Body). length b.cells) w.made n c b (slice_get_within w.made n b at) in
          let there = get_or_from_slice_get w.made n b b at in
          let before : length (get_or w.made n b).cells ≡ length b.cells = ap (λ (b : Body). length b.cells) there in
          let size = next.size in
          let most = h.limits.cells in
          omega arith

      kept : (j : Kind) (m : ℕ) → IsKindAt w.made j m → (n ≡ m) ⊎ (n ≡ m → ⊥) → IsKindAt (set w.made n c) j m
      kept j m there (inl same) =
          let one : there.0 ≡ b = cc in
          (c, ap (slice_get (set w.made n c)) (sym same) ∙ set_same w.made n b c at, next.kind ∙ sym kinds ∙ ap (λ b. b.kind) (sym one) ∙ there.2)
      kept j m there (inr differs) = (there.0, set_other w.made n m c differs ∙ there.1, there.2)

      g : Grows w v
      g = record { made = λ j m there. kept j m there (cases_eq n m); instances = omega arith }

      body : (m : ℕ) (d : Body) → ((n ≡ m) × (c ≡ d)) ⊎ ((n ≡ m → ⊥) × (slice_get w.made m ≡ Some d)) → FitsBody P.classes S v d.kind d
      body m d (inl e) =
          subst (λ d. FitsBody P.classes S v d.kind d) e.1
          (body_grows S w v g P.classes c.kind c (subst (λ k. FitsBody P.classes S w k c) (sym next.kind) next.fits))
      body m d (inr e) = body_grows S w v g P.classes d.kind d (h.made m d e.1)

  pub write_well : (w : Work) (k : Kind) (o : Reached) (c : Body) → FitsWork P S w → IsReached P S k w o → IsNext k w o.body c → Well P S w (λ v u. Unit {0}) (write o.object c w)
  write_well w k o c h r next = gives P S w (λ v u. Unit {0}) tt _ (follows o.object r.place) tt
    where
      follows : (ref : ObjectRef) → StandsAt S w k ref o.body → Follows P S w (with_body ref c w)
      follows (OldObject id) at = old_written w k id o.body c h at next
      follows (NewObject n) at = new_written w k n o.body c h at r.kind next

  -- a new object
  pub make_well : (w : Work) (at : Place) (b : Body) → FitsWork P S w → FitsBody P.classes S w b.kind b → Well P S w (λ v n. IsKindAt v.made b.kind n) (make at b w)
  make_well w at b h fits = either (nat_lt (length w.made) 65536 && nat_le (cells_in w.made + length b.cells) 4194304) refl
    where
      v : Work
      v = record w { made = w.made ++ b ∷ [] }

      g : Grows w v
      g = record { made = λ k n there. (there.0, stays w.made (b ∷ []) n there.0 there.1, there.2); instances = omega arith }

      body : (n : ℕ) (d : Body) → (slice_get w.made n ≡ Some d) ⊎ ((n ≡ length w.made) × (b ≡ d)) → FitsBody P.classes S v d.kind d
      body n d (inl e) = body_grows S w v g P.classes d.kind d (h.made n d e)
      body n d (inr e) = subst (λ d. FitsBody P.classes S v d.kind d) e.1 (body_grows S w v g P.classes b.kind b fits)

      limits : (nat_lt (length w.made) 65536 && nat_le (cells_in w.made + length b.cells) 4194304) ≡ true → IsWithinLimits v
      limits e =
          let tests = and_parts (nat_lt (length w.made) 65536) (nat_le (cells_in w.made + length b.cells) 4194304) e in
          let few = ltb-true (length w.made) 65536 tests.0 in
          let small = leb-true (cells_in w.made + length b.cells) 4194304 tests.1 in
          let count = length-append w.made (b ∷ []) in
          let sum = sum_by_push (λ (b : Body). length b.cells) w.made b in
          record { objects = omega arith; cells = omega arith; instances = h.limits.instances; text = h.limits.text }

      follows : IsWithinLimits v → Follows P S w v
      follows within = record {
        fits = record {
          changed = λ id d e. version_grows S w v g P.classes d _ (h.changed id d e);
          made = λ n d e. body n d (old_or_last w.made b n d e);
          instances = h.instances;
          limits = within;
        };
        grows = g;
        turns = omega arith;
      }

      either :
          (t : Bool) → (nat_lt (length w.made) 65536 && nat_le (cells_in w.made + length b.cells) 4194304) ≡ t
          → Well P S w (λ v n. IsKindAt v.made b.kind n) (if t then Gives (length w.made) v else faults fault.Size at w)
      either true e = gives P S w (λ v n. IsKindAt v.made b.kind n) (length w.made) v (follows (limits e)) (b, last_at w.made b, refl)
      either false e = faulted P S w (λ v n. IsKindAt v.made b.kind n) fault.Size at w

  -- a new instance
  pub make_instance_well : (w : Work) (at : Place) (t : ℕ) → FitsWork P S w → t < length P.tag_types → Well P S w (λ v n. n < length v.instances) (make_instance at t w)
  make_instance_well w at t h there = either (nat_lt (length w.instances) 65536) refl
    where
      v : Work
      v = record w { instances = w.instances ++ t ∷ [] }

      more : length (w.instances ++ t ∷ []) ≡ length w.instances + 1
      more = length-append w.instances (t ∷ [])

      g : Grows w v
      g = record { made = λ k n at. at; instances = omega (arith, more) }

      limits : nat_lt (length w.instances) 65536 ≡ true → IsWithinLimits v
      limits e =
          let few = ltb-true (length w.instances) 65536 e in
          record { objects = h.limits.objects; cells = h.limits.cells; instances = omega (arith, more); text = h.limits.text }

      follows : IsWithinLimits v → Follows P S w v
      follows within = record {
        fits = record {
          changed = λ id d e. version_grows S w v g P.classes d _ (h.changed id d e);
          made = λ n d e. body_grows S w v g P.classes d.kind d (h.made n d e);
          instances = All-push (λ t. t < length P.tag_types) w.instances t h.instances there;
          limits = within;
        };
        grows = g;
        turns = omega arith;
      }

      either : (b : Bool) → nat_lt (length w.instances) 65536 ≡ b → Well P S w (λ v n. n < length v.instances) (if b then Gives (length w.instances) v else faults fault.Size at w)
      either true e = gives P S w (λ v n. n < length v.instances) (length w.instances) v (follows (limits e)) (omega (arith, more))
      either false e = faulted P S w (λ v n. n < length v.instances) fault.Size at w
