use Rattle.std.proofs.Common.{◌≡◌, ℕ, ◌+◌, List, ◌++◌, length, map, ap, ap₂, sym, subst, ◌∙◌, arith}
use Rattle.std.specs.Prelude.{All}
use Rattle.std.proofs.lemmas.List.{length-append}
use Rattle.bc_data.specs.declared.run.Body.{Body}
use Rattle.bc_mean.specs.declared.plain.Plain.{Plain}
use Rattle.bc_mean.specs.Changes.{body_in}
use Rattle.bc_mean.specs.Commit.{placed, written_in}
use Rattle.bc_mean.proofs.Placed.{IsThere, placed_in, written_there}
use Rattle.bc_mean.proofs.commit.apply.Goals as goal

pub place-requires : goal.place-requires
place-requires c =
    let bodies : c.append.new.store.bodies ≡ c.args.store.now.bodies ++ c.in_ok-made.made = ap (λ (s : Plain). s.bodies) c.in_ok-append.ensures.ok in
    let longer : length c.append.new.store.bodies ≡ length c.args.store.now.bodies + length c.in_ok-made.made = ap length bodies ∙ length-append c.args.store.now.bodies c.in_ok-made.made in
    let there : All (IsThere c.append.new.store.bodies) (map (written_in c.args.store.now) c.args.changes.bodies) =
    written_there c.args.store.now (length c.append.new.store.bodies) c.args.changes.bodies (λ k d within. let low = c.requires.present k d within in omega arith)
    in
    subst (All (IsThere c.append.new.store.bodies)) (sym c.in_ok-changed.ensures) there

abbrev plain : List Body → List ℕ → List ℕ → Plain
plain bodies tags output = record { bodies = bodies; tags = tags; output = output }

same_plain : {a b : List Body} {s t o p : List ℕ} → a ≡ b → s ≡ t → o ≡ p → plain a s o ≡ plain b t p
same_plain {b = b} {s = s} {t = t} {o = o} e f g = ap (λ bodies. plain bodies s o) e ∙ ap₂ (plain b) f g

pub returns-clause-ok : goal.returns-clause-ok
returns-clause-ok c =
    let store = c.args.store.now in
    let before : c.append.new.store.bodies ≡ store.bodies ++ map (body_in store) c.args.changes.made =
    ap (λ (s : Plain). s.bodies) c.in_ok-append.ensures.ok ∙ ap (λ (bodies : List Body). store.bodies ++ bodies) c.in_ok-made.ensures
    in
    same_plain
    (c.place.ensures ∙ ap₂ placed c.in_ok-changed.ensures before ∙ placed_in store c.args.changes.bodies (map (body_in store) c.args.changes.made) c.requires.present)
    (ap (λ (s : Plain). s.tags) c.in_ok-append.ensures.ok)
    (ap (λ (s : Plain). s.output) c.in_ok-append.ensures.ok)
