-- The code of a statement comes to what the statement comes to.
use Rattle.std.proofs.Common.{◌≡◌, ℕ, zero, suc, ◌+◌, ◌≤◌, List, [], ◌∷◌, length, refl, sym, ap, ◌∙◌, subst, arith}
use Rattle.std.proofs.lemmas.List.Elements.{recursion_from_All}
use Rattle.std.specs.List.{AllByRecursion}
use Rattle.std.specs.Prelude.{slice_get, Option, Some, None}
use Rattle.bc_data.specs.declared.program.Change.{Change}
use Rattle.bc_data.specs.declared.program.Change.TheVariants as change
use Rattle.bc_data.specs.declared.program.Shape.{Shape}
use Rattle.bc_data.specs.declared.program.Shape.TheVariants as shape
use Rattle.bc_data.specs.declared.run.Place.{Place}
use Rattle.bc_data.specs.declared.run.Value.{Value}
use Rattle.bc_data.specs.Typed.{TypedExpression, Int, Truth, Null, Local, Neg, Not, Two, FieldOf, Length, Elem, Call, Make, Array, TypedPart, TextPart, NumberPart, TruthPart, TypedStatement, Set, NewTag, SetField, SetElem, Drop, Perform, If, While, Return, Print, Assert, Exit, Block, TypedStatements, Nothing, Then, TypedClass}
use Rattle.bc_data.specs.TypedBodies.{Around, InMethod, InTask, Assigned, Setting, AreTyped, HasType, IsPart, IsPerformed, IsTyped}
use Rattle.bc_mean.specs.Evaluate.{Frame, evaluate, index_in}
use Rattle.bc_mean.specs.Execute.{Flow, Goes, Returns, Leaves, act, act_all, execute, execute_all, if_goes, loop, perform, print_part, print_parts, round, write_cell}
use Rattle.bc_mean.specs.Work.{Work, Got, Gives, Stops, Wrong, reach}
use Rattle.bc_code.specs.declared.code.Instruction.TheVariants as instruction
use Rattle.bc_code.specs.Instructions.{Did, On, Over, left, nowhere}
use Rattle.bc_code.specs.Translation.{text_of, At, after, after_all, after_part, after_parts, past, past_all, behind_each, count, AreChanges, HasExpression, HasPart, HasParts, HasStatement, HasStatements}
use Rattle.bc_law_code.proofs.Bodies.{IsGround, Standing, here, one_at, result_on}
use Rattle.bc_law_code.proofs.Costs.{cost, cost_loop, cost_part, cost_parts, each, weight, weights}
use Rattle.bc_law_code.proofs.Expressions.{all_many, expression_runs, expressions_run}
use Rattle.bc_law_code.proofs.Leads.{Ground, Leads, Near, alike, goes_near, goes_then, goes_with, here_now, mapped, pays_then, regroup, regroup_twice, step_on, step_to, wider, world, wrong_now}
use Rattle.bc_law_code.proofs.Lowers.{lower_assert, lower_bind, lower_gives, lower_index_in, lower_known, lower_make_instance, lower_parameter, lower_reach, lower_say, lower_say_number, lower_say_truth, lower_set_flag, lower_then, lower_turn, lower_unbind, lower_write_cell, used_turn}
use Rattle.bc_law_code.proofs.Operands.{call_runs, jump_if_not}

-- A body is left with a result or without one. That of a task is never left so.
abbrev pub left_body : {G : Ground} → Standing G → Around → Option Value → List Value → Work → Did
left_body S (InMethod r) x st w = left S.callers (result_on r x st) w
left_body S (InTask params) x st w = Over (Gives tt w)

-- where the code of a statement leaves the machine
abbrev pub flows : {G : Ground} → Standing G → Around → ℕ → List Value → Flow → Work → Did
flows S around q st (Goes f) w = On (here S q f st w)
flows S around q st (Returns x) w = left_body S around x st w
flows S around q st Leaves w = Over (Gives tt w)

module _ {G : Ground} (ok : IsGround G) (S : Standing G) where
  abbrev K : List TypedClass
  K = G.program.classes

  part_runs :
      (f : Frame) (a : Assigned) (at : Place) (part : TypedPart) (p : ℕ) (st : List Value) (w : Work) → IsPart K a part → HasPart K (text_of S.unit) at p part
      → Leads G w.turns (cost_part K part) (On (here S p f st w)) (print_part (world G) S.calls f at part w) (λ _ v. On (here S (after_part K p part) f st v))
  part_runs f a at (TextPart bytes) p st w t has = step_to (one_at S p f st w has) (lower_say at bytes w)
  part_runs f a at (NumberPart e) p st w t has =
      goes_then (expression_runs ok S f a e shape.Int p st w t has.0) (λ x v. step_to (one_at S (after K p e) f (x ∷ st) v has.1) (lower_say_number at x v))
  part_runs f a at (TruthPart e) p st w t has =
      goes_then (expression_runs ok S f a e shape.Bool p st w t has.0) (λ x v. step_to (one_at S (after K p e) f (x ∷ st) v has.1) (lower_say_truth at x v))

  parts_run :
      (f : Frame) (a : Assigned) (at : Place) (parts : List TypedPart) (p : ℕ) (st : List Value) (w : Work) → AllByRecursion (IsPart K a) parts → HasParts K (text_of S.unit) at p parts
      → Leads G w.turns (cost_parts K parts) (On (here S p f st w)) (print_parts (world G) S.calls f at parts w) (λ _ v. On (here S (after_parts K p parts) f st v))
  parts_run f a at [] p st w t has = here_now (omega arith)
  parts_run f a at (part ∷ parts) p st w t has =
      goes_then (part_runs f a at part p st w t.0 has.0) (λ _ v. parts_run f a at parts (after_part K p part) st v t.1 has.1)

  change_runs :
      (f : Frame) (c : Change) (p : ℕ) (st : List Value) (w : Work) → AreChanges (text_of S.unit) p (c ∷ [])
      → Leads G w.turns 1 (On (here S p f st w)) (act (world G) f c w) (λ _ v. On (here S (p + 1) f st v))
  change_runs f (change.Flag n flag b) p st w has =
      step_to (one_at S p f st w has.0) (lower_then (lower_parameter G.look (slice_get G.objects n) w) (λ o v. lower_set_flag o flag b v))
  change_runs f (change.Add at n variable) p st w has =
      step_to (one_at S p f st w has.0)
      (lower_then (lower_parameter G.look (slice_get G.objects n) w) (λ o v. lower_then (lower_known (slice_get f.tags variable) v) (λ t u. lower_bind at o t u)))
  change_runs f (change.Clear n variable) p st w has =
      step_to (one_at S p f st w has.0)
      (lower_then (lower_parameter G.look (slice_get G.objects n) w) (λ o v. lower_then (lower_known (slice_get f.tags variable) v) (λ t u. lower_unbind o t u)))

  changes_run :
      (f : Frame) (cs : List Change) (p : ℕ) (st : List Value) (w : Work) → AreChanges (text_of S.unit) p cs
      → Leads G w.turns (each cs) (On (here S p f st w)) (act_all (world G) f cs w) (λ _ v. On (here S (behind_each cs p) f st v))
  changes_run f [] p st w has = here_now (omega arith)
  changes_run f (c ∷ cs) p st w has =
      goes_then (change_runs f c p st w (has.0, tt)) (λ _ v. changes_run f cs (p + 1) st v has.1)

  -- a call as a statement leaves nothing on the stack
  pub perform_runs :
      (f : Frame) (a : Assigned) (e : TypedExpression) (p : ℕ) (st : List Value) (w : Work) → IsPerformed K a e → HasExpression K (text_of S.unit) p e
      → Leads G w.turns (cost K e) (On (here S p f st w)) (perform (world G) S.calls f e w) (λ _ v. On (here S (after K p e) f st v))
  perform_runs f a (Call at object c n args) p st w t has =
      goes_then (expression_runs ok S f a object (shape.Class c) p st w t.2 has.0) (λ x v.
      goes_with (λ xs _. length xs ≡ count args) (all_many ok S f a args v) (expressions_run ok S f a args t.1 (after K p object) (x ∷ st) v t.4 has.1) (λ xs u many.
      alike (call_runs S f ok at c n (count args) t.0 x xs st (after_all K (after K p object) args) u t.3 has.2 many) (λ y s.
      ap (λ (r : Option Shape). On (here S (after_all K (after K p object) args + 1) f (result_on r y st) s)) t.6)))
  perform_runs f a (Int n) p st w t has = absurd t
  perform_runs f a (Truth b) p st w t has = absurd t
  perform_runs f a Null p st w t has = absurd t
  perform_runs f a (Local slot) p st w t has = absurd t
  perform_runs f a (Neg e) p st w t has = absurd t
  perform_runs f a (Not e) p st w t has = absurd t
  perform_runs f a (Two at o x y) p st w t has = absurd t
  perform_runs f a (FieldOf at object field) p st w t has = absurd t
  perform_runs f a (Length at array) p st w t has = absurd t
  perform_runs f a (Elem at array index) p st w t has = absurd t
  perform_runs f a (Make at c args tweaks) p st w t has = absurd t
  perform_runs f a (Array at kind size) p st w t has = absurd t

  module _ (around : Around) where
    -- goes on, where the first did not leave
    flow_runs :
        (c p q : ℕ) (st : List Value) (go : Frame → Work → Got Flow) (flow : Flow) (w : Work)
        → ((f : Frame) → Leads G w.turns c (On (here S p f st w)) (go f w) (flows S around q st))
        → Leads G w.turns c (flows S around p st flow w) (if_goes go flow w) (flows S around q st)
    flow_runs c p q st go (Goes f) w l = l f
    flow_runs c p q st go (Returns x) w l = here_now (omega arith)
    flow_runs c p q st go Leaves w l = here_now (omega arith)

    -- a jump, unless the body was left
    flow_jumps :
        (p q : ℕ) (st : List Value) (flow : Flow) (w : Work) → At (text_of S.unit) p (instruction.Jump q) nowhere
        → Near G (flows S around p st flow w) (flows S around q st flow w)
    flow_jumps p q st (Goes f) w has = record { steps = 1; is = one_at S p f st w has; few = omega arith }
    flow_jumps p q st (Returns x) w has = record { steps = 0; is = refl; few = omega arith }
    flow_jumps p q st Leaves w has = record { steps = 0; is = refl; few = omega arith }

    -- the body of a loop, from its first instruction to before the jump back
    abbrev BodyRuns : ℕ → ℕ → ℕ → List Value → (Frame → Work → Got Flow) → Type 0
    BodyRuns c p q st body = (f : Frame) (w : Work) → Leads G w.turns c (On (here S p f st w)) (body f w) (flows S around q st)

    -- from the test of a loop on
    abbrev LoopRuns : TypedExpression → ℕ → ℕ → List Value → (Frame → Work → Got Flow) → Type 0
    LoopRuns e p q st again = (f : Frame) (w : Work) → Leads G w.turns (cost_loop K e) (On (here S p f st w)) (again f w) (flows S around (q + 1) st)

    -- a loop whose test begins at p, and whose body ends before q
    record LoopCode (a : Assigned) (e : TypedExpression) (at : Place) (p q b : ℕ) : Type 0 where
      typed : HasType K a e shape.Bool
      has : HasExpression K (text_of S.unit) p e
      jumps : At (text_of S.unit) (after K p e) (instruction.JumpIfNot (q + 1)) nowhere
      turns : At (text_of S.unit) (after K p e + 1) instruction.Turn at
      ends : At (text_of S.unit) q (instruction.Jump p) nowhere
      room : b + (1 + cost_loop K e) ≤ G.most

    module _ (a : Assigned) (e : TypedExpression) (at : Place) (p q b : ℕ) (st : List Value) (body : Frame → Work → Got Flow) (code : LoopCode a e at p q b) (runs : BodyRuns b (after K p e + 1 + 1) q st body) where
      again_runs :
          (again : Frame → Work → Got Flow) (flow : Flow) (w : Work) → LoopRuns e p q st again
          → Leads G w.turns (1 + cost_loop K e) (flows S around q st flow w) (if_goes again flow w) (flows S around (q + 1) st)
      again_runs again (Goes f) w l = step_on (one_at S q f st w code.ends) (l f w)
      again_runs again (Returns x) w l = here_now (omega arith)
      again_runs again Leaves w l = here_now (omega arith)

      round_runs : (again : Frame → Work → Got Flow) → LoopRuns e p q st again → LoopRuns e p q st (round at (λ g v. evaluate (world G) S.calls g e v) body again)
      round_runs again l f w =
          goes_then (expression_runs ok S f a e shape.Bool p st w code.typed code.has) (λ x v.
          jump_if_not S f {c = 1} (after K p e) (q + 1) st x v _ _ _ code.jumps
          (pays_then {c = 1} {d = b + (1 + cost_loop K e)} 1 (omega arith) code.room (used_turn at v) (lower_turn at v) (one_at S (after K p e + 1) f st v code.turns) (λ _ u.
          goes_then (runs f u) (λ flow s. again_runs again flow s l)))
          (here_now (omega arith)))

      loop_runs : (n : ℕ) → LoopRuns e p q st (loop n at (λ g v. evaluate (world G) S.calls g e v) body)
      loop_runs zero = round_runs (λ g v. Stops Wrong v) (λ g v. wrong_now)
      loop_runs (suc n) = round_runs (loop n at (λ g v. evaluate (world G) S.calls g e v) body) (loop_runs n)

    module _ (tag_types locals tags n : ℕ) where
      abbrev B : Setting
      B = record { classes = G.program.classes; tag_types = tag_types; around = around; locals = locals; tags = tags }

      mutual
        pub statement_runs :
            (s : TypedStatement) (f : Frame) (a b : Assigned) (p : ℕ) (st : List Value) (w : Work) → weight K s ≤ G.most → IsTyped B a s b → HasStatement K (text_of S.unit) p s
            → Leads G w.turns (weight K s) (On (here S p f st w)) (execute (world G) S.calls n f s w) (flows S around (past K p s) st)
        statement_runs (Set slot e) f a b p st w room t has =
            goes_then (expression_runs ok S f a e t.0 p st w t.2 has.0) (λ x v. step_to (one_at S (after K p e) f (x ∷ st) v has.1) lower_gives)
        statement_runs (NewTag at variable tag_type) f a b p st w room t has =
            mapped _ (step_to (one_at S p f st w has) (lower_make_instance at tag_type w))
        statement_runs (SetField at object field e) f a b p st w room t has =
            goes_then (expression_runs ok S f a object (shape.Class t.0) p st w t.3 has.0) (λ x v.
            goes_then (expression_runs ok S f a e t.1 (after K p object) (x ∷ st) v t.5 has.1) (λ y u.
            subst (λ (g : Got Flow). Leads G u.turns 1 (On (here S (after K (after K p object) e) f (y ∷ x ∷ st) u)) g (flows S around (after K (after K p object) e + 1) st))
            (regroup (reach G.look at x u) (λ o s. write_cell o field y s) (λ _ r. Gives (Goes f) r))
            (mapped (λ _. Goes f)
            (step_to (one_at S (after K (after K p object) e) f (y ∷ x ∷ st) u has.2) (lower_then (lower_reach G.look at x u) (λ o s. lower_write_cell o field y s))))))
        statement_runs (SetElem at array index e) f a b p st w room t has =
            goes_then (expression_runs ok S f a array t.0 p st w t.3 has.0) (λ x v.
            goes_then (expression_runs ok S f a index shape.Int (after K p array) (x ∷ st) v t.4 has.1) (λ i u.
            goes_then (expression_runs ok S f a e t.1 (after K (after K p array) index) (i ∷ x ∷ st) u t.6 has.2) (λ y s.
            subst (λ (g : Got Flow). Leads G s.turns 1 (On (here S (after K (after K (after K p array) index) e) f (y ∷ i ∷ x ∷ st) s)) g (flows S around (after K (after K (after K p array) index) e + 1) st))
            (regroup_twice (reach G.look at x s) (λ o r. index_in at o.body i r) (λ o k r. write_cell o k y r) (λ _ r. Gives (Goes f) r))
            (mapped (λ _. Goes f)
            (step_to (one_at S (after K (after K (after K p array) index) e) f (y ∷ i ∷ x ∷ st) s has.3)
            (lower_then (lower_reach G.look at x s) (λ o r. lower_then (lower_index_in at o.body i r) (λ k z. lower_write_cell o k y z))))))))
        statement_runs (Drop e) f a b p st w room t has =
            goes_then (expression_runs ok S f a e t.0 p st w t.1 has.0) (λ x v. step_to (one_at S (after K p e) f (x ∷ st) v has.1) lower_gives)
        statement_runs (Perform e) f a b p st w room t has = mapped (λ _. Goes f) (perform_runs f a e p st w t.0 has)
        statement_runs (If test body other) f a b p st w room t has =
            let first : weights K body ≤ G.most = omega (arith, room) in
            let second : weights K other ≤ G.most = omega (arith, room) in
            goes_then (expression_runs ok S f a test shape.Bool p st w t.2 has.0) (λ x v.
            jump_if_not S f (after K p test) _ st x v _ _ _ has.1
            (wider (omega arith) (goes_near (statements_run body f a t.0 (after K p test + 1) st v first t.3 has.2) (λ flow u. flow_jumps _ _ st flow u has.3)))
            (wider (omega arith) (statements_run other f a t.1 (past_all K (after K p test + 1) body + 1) st v second t.4 has.4)))
        statement_runs (While at test body) f a b p st w room t has =
            let inner : weights K body ≤ G.most = omega (arith, room) in
            let q = past_all K (after K p test + 1 + 1) body in
            wider (omega arith)
            (loop_runs a test at p q (weights K body) st (λ g v. execute_all (world G) S.calls n g body v)
            (record { typed = t.1; has = has.0; jumps = has.1; turns = has.2; ends = has.4; room = room })
            (λ g v. statements_run body g a t.0 (after K p test + 1 + 1) st v inner t.2 has.3) n f w)
        statement_runs (Return None) f a b p st w room t has =
            step_to (one_at S p f st w has ∙ ap (λ (r : Around). left_body S r None st w) (sym t.0)) lower_gives
        statement_runs (Return (Some e)) f a b p st w room t has =
            goes_then (expression_runs ok S f a e t.0 p st w t.2 has.0) (λ x v.
            step_to (one_at S (after K p e) f (x ∷ st) v has.1 ∙ ap (λ (r : Around). left_body S r (Some x) st v) (sym t.3)) lower_gives)
        statement_runs (Print at parts) f a b p st w room t has =
            mapped (λ _. Goes f) (parts_run f a at parts p st w (recursion_from_All (IsPart K a) parts t.0) has)
        statement_runs (Assert at e) f a b p st w room t has =
            goes_then (expression_runs ok S f a e shape.Bool p st w t.0 has.0) (λ x v.
            mapped (λ _. Goes f) (step_to (one_at S (after K p e) f (x ∷ st) v has.1) (lower_assert at x v)))
        statement_runs (Exit changes) f a b p st w room t has =
            goes_then (changes_run f changes p st w has.0) (λ _ v. step_to (one_at S (behind_each changes p) f st v has.1) lower_gives)
        statement_runs (Block body) f a b p st w room t has = statements_run body f a t.0 p st w room t.1 has

        pub statements_run :
            (s : TypedStatements) (f : Frame) (a b : Assigned) (p : ℕ) (st : List Value) (w : Work) → weights K s ≤ G.most → AreTyped B a s b → HasStatements K (text_of S.unit) p s
            → Leads G w.turns (weights K s) (On (here S p f st w)) (execute_all (world G) S.calls n f s w) (flows S around (past_all K p s) st)
        statements_run Nothing f a b p st w room t has = here_now (omega arith)
        statements_run (Then front last) f a b p st w room t has =
            let first : weights K front ≤ G.most = omega (arith, room) in
            let second : weight K last ≤ G.most = omega (arith, room) in
            goes_then (statements_run front f a t.0 p st w first t.1 has.0) (λ flow v.
            flow_runs (weight K last) (past_all K p front) _ st (λ g u. execute (world G) S.calls n g last u) flow v (λ g.
            statement_runs last g t.0 b (past_all K p front) st v second t.2 has.1))
