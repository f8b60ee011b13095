-- Flags, tags and cells that change: the body fits again.
use Rattle.std.proofs.Common.{◌≡◌, ◌≢◌, ℕ, ◌^◌, ◌<◌, ◌≤◌, Bool, true, false, not, List, [], ◌∷◌, ◌++◌, length, Some, All, slice_get, nat_lt, if◌then◌else◌, refl, sym, subst, arith, length-append}
use Rattle.std.specs.Prelude.{AllPairs, filter}
use Rattle.std.specs.List.{list_any}
use Rattle.std.proofs.Math.Pow.{pow-lt}
use Rattle.std.proofs.lemmas.Bool.{ltb-true, or_parts, eq-eqb}
use Rattle.std.proofs.lemmas.List.Elements.{All-push, All-filter, All-from_recursion}
use Rattle.std.proofs.lemmas.List.Kept.{AllPairs-filter}
use Rattle.std.proofs.lemmas.List.Quantifiers.{all_pairs_push}
use Rattle.std.proofs.lemmas.List.Sums.{length-filter, count_by-le-length}
use Rattle.std.proofs.lemmas.Nat.{or_lt}
use Rattle.std.specs.List.{AllByRecursion}
use Rattle.bc_data.specs.declared.run.Body.{Body}
use Rattle.bc_data.specs.declared.run.FaultKind.TheVariants as fault
use Rattle.bc_data.specs.declared.run.Kind.TheVariants as kind
use Rattle.bc_data.specs.declared.run.Place.{Place}
use Rattle.bc_data.specs.declared.run.TagRef.{TagRef}
use Rattle.bc_data.specs.declared.run.TagRef.TheVariants as tag
use Rattle.bc_data.specs.Typed.{TypedClass, TypedProgram}
use Rattle.bc_mean.specs.declared.plain.Plain.{Plain}
use Rattle.bc_mean.specs.Values.{same_tag}
use Rattle.bc_mean.specs.Work.{Work, Gives, Reached, with_flag, set_flag, bind, unbind, write, faults}
use Rattle.bc_law_soundness.specs.Fitting.{IsPresent, FitsObject, FitsWork, Well}
use Rattle.bc_law_soundness.proofs.Objects.{IsReached, write_well}
use Rattle.bc_law_soundness.proofs.Steps.{faulted, stays_here}

flag_below : (mask f flags : ℕ) (b : Bool) → mask < 2 ^ flags → f < flags → with_flag mask f b < 2 ^ flags
flag_below mask f flags true h within = or_lt flags mask (2 ^ f) h (pow-lt within)
flag_below mask f flags false h within = omega arith

same_tag_itself : (t : TagRef) → same_tag t t ≡ true
same_tag_itself (tag.Old n) = eq-eqb n n refl
same_tag_itself (tag.New n) = eq-eqb n n refl

-- a tag that is not the same as any of these
new_tag : (t : TagRef) (ts : List TagRef) → list_any (same_tag t) ts ≡ false → AllByRecursion (λ s. s ≢ t) ts
new_tag t [] h = tt
new_tag t (s ∷ ts) h =
    let parts = or_parts (same_tag t s) (list_any (same_tag t) ts) h in
    let differs : s ≢ t = λ e. let one : same_tag t t ≡ false = subst (λ s. same_tag t s ≡ false) e parts.0 in let two = same_tag_itself t in cc in
    (differs, new_tag t ts parts.1)

module _ (P : TypedProgram) (S : Plain) where
  flags_fit : (w : Work) (c : ℕ) (k : TypedClass) (b : Body) (f : ℕ) (on : Bool) → FitsObject P.classes S w c b → slice_get P.classes c ≡ Some k → f < length k.flags → FitsObject P.classes S w c (record b { flags = with_flag b.flags f on })
  flags_fit w c k b f on h declared within =
      let same : h.class ≡ k = let first = h.declared in cc in
      record {
        class = h.class;
        declared = h.declared;
        cells = h.cells;
        flags = flag_below b.flags f (length h.class.flags) on h.flags (subst (λ (k : TypedClass). f < length k.flags) (sym same) within);
        few_tags = h.few_tags;
        present_tags = h.present_tags;
        different_tags = h.different_tags;
      }

  tags_fit : (w : Work) (c : ℕ) (b : Body) (ts : List TagRef) → FitsObject P.classes S w c b → length ts ≤ 16 → All (IsPresent S w) ts → AllPairs (λ s t. s ≢ t) ts → FitsObject P.classes S w c (record b { tags = ts })
  tags_fit w c b ts h few present different = record { class = h.class; declared = h.declared; cells = h.cells; flags = h.flags; few_tags = few; present_tags = present; different_tags = different }

  pub set_flag_well : (w : Work) (c : ℕ) (k : TypedClass) (o : Reached) (f : ℕ) (on : Bool) → FitsWork P S w → IsReached P S (kind.Class c) w o → slice_get P.classes c ≡ Some k → f < length k.flags → Well P S w (λ v u. Unit {0}) (set_flag o f on w)
  set_flag_well w c k o f on h r declared within =
      write_well P S w (kind.Class c) o _ h r (record { kind = r.kind; size = refl; fits = flags_fit w c k o.body f on r.fits declared within })

  pub bind_well : (w : Work) (at : Place) (c : ℕ) (o : Reached) (t : TagRef) → FitsWork P S w → IsReached P S (kind.Class c) w o → IsPresent S w t → Well P S w (λ v u. Unit {0}) (bind at o t w)
  bind_well w at c o t h r present = either (list_any (same_tag t) o.body.tags) (nat_lt (length o.body.tags) 16) refl refl
    where
      either :
          (there room : Bool) → list_any (same_tag t) o.body.tags ≡ there → nat_lt (length o.body.tags) 16 ≡ room
          → Well P S w (λ v u. Unit {0}) (if there then Gives (tt {0}) w else if room then write o.object (record o.body { tags = o.body.tags ++ t ∷ [] }) w else faults fault.TagSlots at w)
      either true room e few = stays_here P S w (λ v u. Unit {0}) tt h tt
      either false true e few =
          let fits : FitsObject P.classes S w c o.body = r.fits in
          let below = ltb-true (length o.body.tags) 16 few in
          let more = length-append o.body.tags (t ∷ []) in
          write_well P S w (kind.Class c) o _ h r
          (record {
            kind = r.kind;
            size = refl;
            fits = tags_fit w c o.body (o.body.tags ++ t ∷ []) fits (omega arith)
                (All-push (IsPresent S w) o.body.tags t fits.present_tags present)
                (all_pairs_push (λ s t. s ≢ t) o.body.tags t fits.different_tags (λ k d within. All-from_recursion (λ s. s ≢ t) o.body.tags (new_tag t o.body.tags e) k d within));
          })
      either false false e few = faulted P S w (λ v u. Unit {0}) fault.TagSlots at w

  pub unbind_well : (w : Work) (c : ℕ) (o : Reached) (t : TagRef) → FitsWork P S w → IsReached P S (kind.Class c) w o → Well P S w (λ v u. Unit {0}) (unbind o t w)
  unbind_well w c o t h r =
      let fits : FitsObject P.classes S w c o.body = r.fits in
      let keeps = λ (s : TagRef). not (same_tag t s) in
      let count = length-filter keeps o.body.tags in
      let fewer = count_by-le-length keeps o.body.tags in
      let few = fits.few_tags in
      write_well P S w (kind.Class c) o _ h r
      (record {
        kind = r.kind;
        size = refl;
        fits = tags_fit w c o.body (filter keeps o.body.tags) fits (omega arith) (All-filter keeps (IsPresent S w) o.body.tags fits.present_tags)
            (AllPairs-filter (λ s t. s ≢ t) keeps o.body.tags fits.different_tags);
      })
