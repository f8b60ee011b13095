-- The code of an expression comes to what the expression comes to.
use Rattle.std.proofs.Common.{◌≡◌, ℕ, suc, ◌+◌, List, [], ◌∷◌, ◌++◌, length, refl, ap, arith, length-append}
use Rattle.std.specs.Prelude.{slice_get, Option, Some, None}
use Rattle.bc_data.specs.declared.program.Shape.{Shape}
use Rattle.bc_data.specs.declared.program.Shape.TheVariants as shape
use Rattle.bc_data.specs.declared.run.Value.{Value}
use Rattle.bc_data.specs.Typed.{TypedExpression, Int, Truth, Null, Local, Neg, Not, Two, FieldOf, Length, Elem, Call, Make, Array, TypedExpressions, NoArg, Arg, TypedMethod, TypedClass}
use Rattle.bc_data.specs.TypedBodies.{Assigned, FitAll, HasType, HaveTypes, maker_shapes}
use Rattle.bc_mean.specs.Evaluate.{Frame, evaluate, evaluate_all}
use Rattle.bc_mean.specs.Work.{Work, Got, Gives, Stops, and_then}
use Rattle.bc_code.specs.Instructions.{On}
use Rattle.bc_code.specs.Translation.{text_of, right_from, after, after_all, count, HasExpression, HasExpressions}
use Rattle.bc_law_code.proofs.Bodies.{IsGround, Standing, here, one_at, piled, piled_last}
use Rattle.bc_law_code.proofs.Costs.{cost, costs}
use Rattle.bc_law_code.proofs.Leads.{Gave, Ground, Leads, alike, goes_then, goes_with, here_now, mapped, step_to, world}
use Rattle.bc_law_code.proofs.Lowers.{lower_gives, lower_index_in, lower_invert, lower_known, lower_make_array, lower_negate, lower_reach, lower_then}
use Rattle.bc_law_code.proofs.Operands.{call_runs, make_runs, operator_runs, result_known}

-- so many values are given
abbrev AreMany : ℕ → Got (List Value) → Type 0
AreMany n g = Gave (λ xs _. length xs ≡ n) g

one_more : (n : ℕ) (xs : List Value) (g : Got Value) → length xs ≡ n → AreMany (suc n) (and_then g (λ x u. Gives (xs ++ x ∷ []) u))
one_more n xs (Gives x v) e = omega (arith, length-append xs (x ∷ []))
one_more n xs (Stops h v) e = tt

many_then : (n : ℕ) (g : Got (List Value)) (go : Work → Got Value) → AreMany n g → AreMany (suc n) (and_then g (λ xs v. and_then (go v) (λ x u. Gives (xs ++ x ∷ []) u)))
many_then n (Gives xs v) go e = one_more n xs (go v) e
many_then n (Stops h v) go e = tt

not_nothing : (vs : List Shape) (u : Shape) → [] ≡ vs ++ u ∷ [] → ⊥
not_nothing [] u e = absurd (cc)
not_nothing (v ∷ vs) u e = absurd (cc)

no_args : (K : List TypedClass) (a : Assigned) (args : TypedExpressions) → HaveTypes K a args [] → count args ≡ 0
no_args K a NoArg h = refl
no_args K a (Arg front last) h = absurd (not_nothing h.0 h.1 h.4)

-- A class without a constructor is made without arguments.
few_args : (K : List TypedClass) (a : Assigned) (args : TypedExpressions) (us : List Shape) (o : Option TypedMethod) → HaveTypes K a args us → FitAll us (maker_shapes o) → o ≡ None → count args ≡ 0
few_args K a args [] None h fit e = no_args K a args h
few_args K a args (u ∷ us) None h fit e = absurd fit
few_args K a args us (Some m) h fit e = absurd (cc)

module _ {G : Ground} (ok : IsGround G) (S : Standing G) (f : Frame) (a : Assigned) where
  abbrev K : List TypedClass
  K = G.program.classes

  pub all_many : (es : TypedExpressions) (w : Work) → AreMany (count es) (evaluate_all (world G) S.calls f es w)
  all_many NoArg w = refl
  all_many (Arg front last) w = many_then (count front) (evaluate_all (world G) S.calls f front w) (λ v. evaluate (world G) S.calls f last v) (all_many front w)

  mutual
    pub expression_runs :
        (e : TypedExpression) (sh : Shape) (p : ℕ) (st : List Value) (w : Work) → HasType K a e sh → HasExpression K (text_of S.unit) p e
        → Leads G w.turns (cost K e) (On (here S p f st w)) (evaluate (world G) S.calls f e w) (λ x v. On (here S (after K p e) f (x ∷ st) v))
    expression_runs (Int n) sh p st w t has = step_to (one_at S p f st w has) lower_gives
    expression_runs (Truth b) sh p st w t has = step_to (one_at S p f st w has) lower_gives
    expression_runs Null sh p st w t has = step_to (one_at S p f st w has) lower_gives
    expression_runs (Local slot) sh p st w t has = step_to (one_at S p f st w has) (lower_known (slice_get f.slots slot) w)
    expression_runs (Neg e) sh p st w t has =
        goes_then (expression_runs e shape.Int p st w t.0 has.0) (λ x v.
        step_to (one_at S (after K p e) f (x ∷ st) v has.1) (lower_negate x v))
    expression_runs (Not e) sh p st w t has =
        goes_then (expression_runs e shape.Bool p st w t.0 has.0) (λ x v.
        step_to (one_at S (after K p e) f (x ∷ st) v has.1) (lower_invert x v))
    expression_runs (Two at o b c) sh p st w t has =
        goes_then (expression_runs b t.0 p st w t.2 has.0) (λ x v.
        operator_runs S f at o x (evaluate (world G) S.calls f c) (after K p b) (after K (right_from o (after K p b)) c) (cost K c) st v
        (λ more_st u. expression_runs c t.1 (right_from o (after K p b)) more_st u t.3 has.1) has.2)
    expression_runs (FieldOf at object field) sh p st w t has =
        goes_then (expression_runs object (shape.Class t.0) p st w t.1 has.0) (λ x v.
        step_to (one_at S (after K p object) f (x ∷ st) v has.1) (lower_then (lower_reach G.look at x v) (λ o u. lower_known (slice_get o.body.cells field) u)))
    expression_runs (Length at array) sh p st w t has =
        goes_then (expression_runs array t.0 p st w t.2 has.0) (λ x v.
        mapped _ (step_to (one_at S (after K p array) f (x ∷ st) v has.1) (lower_reach G.look at x v)))
    expression_runs (Elem at array index) sh p st w t has =
        goes_then (expression_runs array t.0 p st w t.1 has.0) (λ x v.
        goes_then (expression_runs index shape.Int (after K p array) (x ∷ st) v t.2 has.1) (λ i u.
        step_to (one_at S (after K (after K p array) index) f (i ∷ x ∷ st) u has.2)
        (lower_then (lower_reach G.look at x u) (λ o s. lower_then (lower_index_in at o.body i s) (λ n r. lower_known (slice_get o.body.cells n) r)))))
    expression_runs (Call at object c n args) sh p st w t has =
        goes_then (expression_runs object (shape.Class c) p st w t.2 has.0) (λ x v.
        goes_with (λ xs _. length xs ≡ count args) (all_many args v) (expressions_run args t.1 (after K p object) (x ∷ st) v t.4 has.1) (λ xs u many.
        goes_then {c = 1} {d = 0} (call_runs S f ok at c n (count args) t.0 x xs st (after_all K (after K p object) args) u t.3 has.2 many) (λ y s.
        result_known S f ok t.0.result sh (after_all K (after K p object) args + 1) st y s t.6)))
    expression_runs (Make at c args tweaks) sh p st w t has =
        goes_with (λ xs _. length xs ≡ count args) (all_many args w) (expressions_run args t.1 p st w t.3 has.0) (λ xs v many.
        make_runs S f ok at c (count args) t.0 tweaks xs st (after_all K p args) v t.2 (few_args K a args t.1 t.0.maker t.3 t.4) many has.1 has.2 has.3)
    expression_runs (Array at kind size) sh p st w t has =
        goes_then (expression_runs size shape.Int p st w t.1 has.0) (λ n v.
        step_to (one_at S (after K p size) f (n ∷ st) v has.1) (lower_make_array at kind n v))

    pub expressions_run :
        (es : TypedExpressions) (us : List Shape) (p : ℕ) (st : List Value) (w : Work) → HaveTypes K a es us → HasExpressions K (text_of S.unit) p es
        → Leads G w.turns (costs K es) (On (here S p f st w)) (evaluate_all (world G) S.calls f es w) (λ xs v. On (here S (after_all K p es) f (piled xs st) v))
    expressions_run NoArg us p st w t has = here_now (omega arith)
    expressions_run (Arg front last) us p st w t has =
        goes_then (expressions_run front t.0 p st w t.2 has.0) (λ xs v.
        mapped (λ x. xs ++ x ∷ [])
        (alike (expression_runs last t.1 (after_all K p front) (piled xs st) v t.3 has.1)
        (λ x u. ap (λ (more_st : List Value). On (here S (after K (after_all K p front) last) f more_st u)) (piled_last xs x st))))
