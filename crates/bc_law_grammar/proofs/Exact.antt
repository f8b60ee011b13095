-- The machine's answer is the definition's.
use Rattle.std.proofs.Common.{◌⊎◌, inl, inr, ◌≡◌, ℕ, List, [], ◌∷◌, ◌++◌, refl, ap, sym, subst, ◌∙◌, ◌+◌, ◌≤◌, ◌<◌, max, arith, Bool, true, false, nat_le, if◌then◌else◌, append_assoc}
use Rattle.std.proofs.lemmas.Bool.{leb-true, leb-false, lt-leb, le-leb}
use Rattle.bc_data.specs.Seen.{Lexeme, Seen, Keyword, Name, Number, Text, Mark, End}
use Rattle.bc_data.specs.SourceTree.{Sequence, Empty, Item, Expression, Neg, Not, Two, Guard, FlagNot, FlagTwo, Statements}
use Rattle.bc_data.specs.Grammar.{token}
use Rattle.bc_data.specs.Refusal.{IsTreeOf, Continues, IsFirstRefused, IsUnexpected, IsTooDeep, IsEnded}
use Rattle.bc_data.specs.declared.run.Place.{Place}
use Rattle.bc_data.specs.declared.program.Op.TheVariants as op
use Rattle.bc_data.specs.SourceTree.{AndOp, OrOp}
use Rattle.bc_law_grammar.specs.Machine.{Stack, InNeg, InNot, InTwo, InFlagNot, InFlagTwo, State, Never, OnMark, OnWord, OnName, Want, Got, After, Dotted, Bracketed, Stats, Printing, Tweaking, Acting, Changing, Declaring, Parameters, Binding, WantFlag, AfterFlag, Members, Items, Done, Step, No, On, Deep, Why, Unexpected, TooDeep, Outcome, Refused, Accepted, Cut, settle, settle_flag, step, run, finish, follow}
use Rattle.bc_law_grammar.proofs.ForwardText.{forward_items}
use Rattle.bc_law_grammar.proofs.Backward.{Has, HasStep}
use Rattle.bc_law_grammar.proofs.BackwardText.{has_step}
use Rattle.bc_law_grammar.proofs.Completion.{completes}

-- a step leads to next within n levels
abbrev pub Goes : ℕ → Step → State → Type 0
Goes n No next = ⊥
Goes n (On s) next = s ≡ next
Goes n (Deep s need) next = (s ≡ next) × (need ≤ n)

-- the machine comes from s over p to s'
abbrev pub Reaches : ℕ → State → List Seen → State → Type 0
Reaches n s [] s' = s ≡ s'
Reaches n s (t ∷ ts) s' = (next : State) × Goes n (step s t) next × Reaches n next ts s'

-- it goes no further
abbrev pub Blocked : ℕ → State → Seen → Why → Type 0
Blocked n s t Unexpected = step s t ≡ No
Blocked n s t TooDeep = (next : State) × (need : ℕ) × (step s t ≡ Deep next need) × (n < need)

abbrev pub StopsAt : ℕ → State → List Seen → Why → Place → Type 0
StopsAt n s ts why at = (p : List Seen) × (t : Seen) × (r : List Seen) × (s' : State) × (ts ≡ p ++ t ∷ r) × (t.at ≡ at) × Reaches n s p s' × Blocked n s' t why

follow_goes : (n : ℕ) (at : Place) (go : State → Outcome) (x : Step) (next : State) → Goes n x next → follow n at go x ≡ go next
follow_goes n at go No next h = absurd h
follow_goes n at go (On s) next h = ap go h
follow_goes n at go (Deep s need) next h = ap (λ v. if v then go s else Refused TooDeep at) (le-leb need n h.1) ∙ ap go h.0

run_reaches : (n : ℕ) (p r : List Seen) (s s' : State) → Reaches n s p s' → run n s (p ++ r) ≡ run n s' r
run_reaches n [] r s s' h = ap (λ s. run n s r) h
run_reaches n (t ∷ p) r s s' h = follow_goes n t.at (λ s. run n s (p ++ r)) (step s t) h.0 h.1 ∙ run_reaches n p r h.0 s' h.2

goes_more : (n m : ℕ) (x : Step) (next : State) → n ≤ m → Goes n x next → Goes m x next
goes_more n m No next le h = h
goes_more n m (On s) next le h = h
goes_more n m (Deep s need) next le h = (h.0, omega (arith, h.1))

reaches_more : (n m : ℕ) (p : List Seen) (s s' : State) → n ≤ m → Reaches n s p s' → Reaches m s p s'
reaches_more n m [] s s' le h = h
reaches_more n m (t ∷ p) s s' le h = (h.0, goes_more n m (step s t) h.0 le h.1, reaches_more n m p h.0 s' le h.2)

reaches_end : (n : ℕ) (p : List Seen) (t : Seen) (s s' next : State) → Reaches n s p s' → Goes n (step s' t) next → Reaches n s (p ++ t ∷ []) next
reaches_end n [] t s s' next h g = (next, subst (λ s. Goes n (step s t) next) (sym h) g, refl)
reaches_end n (u ∷ p) t s s' next h g = (h.0, h.1, reaches_end n p t h.0 s' next h.2 g)

-- where it stops
module _ (n : ℕ) (why : Why) (at : Place) where
  refused_here : (s : State) (t : Seen) (ts : List Seen) (w : Why) → Blocked n s t w → Refused w t.at ≡ Refused why at → StopsAt n s (t ∷ ts) why at
  refused_here s t ts w b h =
      let same : w ≡ why = cc in
      let place : t.at ≡ at = cc in
      ([], t, ts, s, refl, place, refl, subst (λ w. Blocked n s t w) same b)

  refused_later : (s next : State) (t : Seen) (ts : List Seen) → Goes n (step s t) next → StopsAt n next ts why at → StopsAt n s (t ∷ ts) why at
  refused_later s next t ts g h = (t ∷ h.0, h.1, h.2, h.3, ap (λ l. t ∷ l) h.4, h.5, (next, g, h.6), h.7)

  refused_test : (s next : State) (need : ℕ) (t : Seen) (ts : List Seen) → step s t ≡ Deep next need → (run n next ts ≡ Refused why at → StopsAt n next ts why at)
      → (b : Bool) → nat_le need n ≡ b → (if b then run n next ts else Refused TooDeep t.at) ≡ Refused why at → StopsAt n s (t ∷ ts) why at
  refused_test s next need t ts e later true b h = refused_later s next t ts (subst (λ x. Goes n x next) (sym e) (refl, leb-true need n b)) (later h)
  refused_test s next need t ts e later false b h = refused_here s t ts TooDeep (next, need, e, leb-false need n b) h

  refused_step : (s : State) (t : Seen) (ts : List Seen) → ((next : State) → run n next ts ≡ Refused why at → StopsAt n next ts why at)
      → (x : Step) → step s t ≡ x → follow n t.at (λ s. run n s ts) x ≡ Refused why at → StopsAt n s (t ∷ ts) why at
  refused_step s t ts later No e h = refused_here s t ts Unexpected e h
  refused_step s t ts later (On next) e h = refused_later s next t ts (subst (λ x. Goes n x next) (sym e) refl) (later next h)
  refused_step s t ts later (Deep next need) e h = refused_test s next need t ts e (later next) (nat_le need n) refl h

  refused_empty : (s : State) → finish s ≡ Refused why at → ⊥
  refused_empty (Done items) h = cc
  refused_empty _ h = cc

  refused_at : (ts : List Seen) (s : State) → run n s ts ≡ Refused why at → StopsAt n s ts why at
  refused_at [] s h = absurd (refused_empty s h)
  refused_at (t ∷ ts) s h = refused_step s t ts (λ next e. refused_at ts next e) (step s t) refl h

-- what it accepts is spelled
module _ (n : ℕ) (all : List Seen) (items : Sequence Item) where
  accept_test : (next : State) (need : ℕ) (ts : List Seen) → (need ≤ n → run n next ts ≡ Accepted items → Has n all (Done items) []) → (at : Place) (b : Bool) → nat_le need n ≡ b
      → (if b then run n next ts else Refused TooDeep at) ≡ Accepted items → Has n all (Done items) []
  accept_test next need ts f at true b h = f (leb-true need n b) h
  accept_test next need ts f at false b h = absurd (cc)

  accept_step : (x : Step) (ts : List Seen) (at : Place) → ((next : State) → Has n all next ts → run n next ts ≡ Accepted items → Has n all (Done items) []) → HasStep n all x ts
      → follow n at (λ s. run n s ts) x ≡ Accepted items → Has n all (Done items) []
  accept_step No ts at f has h = absurd (cc)
  accept_step (On next) ts at f has h = f next has h
  accept_step (Deep next need) ts at f has h = accept_test next need ts (λ le r. f next (has le) r) at (nat_le need n) refl h

  accept_empty : (s : State) → Has n all s [] → finish s ≡ Accepted items → Has n all (Done items) []
  accept_empty (Done d) has h = let same : d ≡ items = cc in subst (λ d. Has n all (Done d) []) same has
  accept_empty _ has h = absurd (cc)

  accepted : (ts : List Seen) (s : State) → Has n all s ts → run n s ts ≡ Accepted items → Has n all (Done items) []
  accepted [] s has h = accept_empty s has h
  accepted (t ∷ ts) s has h = accept_step (step s t) ts t.at (λ next has r. accepted ts next has r) (has_step n all s t ts has) h

pub sound : (n : ℕ) (items : Sequence Item) (tokens : List Seen) → run n (Items Empty) tokens ≡ Accepted items → IsTreeOf n items tokens
sound n items tokens h = accepted n tokens items tokens (Items Empty) (omega arith, refl) h

pub complete : (n : ℕ) (items : Sequence Item) (tokens : List Seen) → IsTreeOf n items tokens → run n (Items Empty) tokens ≡ Accepted items
complete n items tokens h = forward_items items n tokens (token End h.0 ∷ []) h.2 h.1

pub one_tree : (m n : ℕ) (d e : Sequence Item) (tokens : List Seen) → IsTreeOf m d tokens → IsTreeOf n e tokens → d ≡ e
one_tree m n d e tokens h k =
    let a : run (max m n) (Items Empty) tokens ≡ Accepted d = complete (max m n) d tokens (h.0, omega (arith, h.1), h.2) in
    let b : run (max m n) (Items Empty) tokens ≡ Accepted e = complete (max m n) e tokens (k.0, omega (arith, k.1), k.2) in
    cc

-- the end is the last token
abbrev IsLast : Step → Type 0
IsLast No = Unit {0}
IsLast (On (Done items)) = Unit {0}
IsLast _ = ⊥

settle_last : (st : Stack) (at : Place) (e : Expression) → IsLast (settle End at e st)
settle_last (InNeg m st) at e = settle_last st at (Neg m e)
settle_last (InNot m st) at e = settle_last st at (Not m e)
settle_last (InTwo m op.Or a st) at e = settle_last st at (Two m op.Or a e)
settle_last (InTwo m op.And a st) at e = settle_last st at (Two m op.And a e)
settle_last (InTwo m op.Same a st) at e = settle_last st at (Two m op.Same a e)
settle_last (InTwo m op.Differ a st) at e = settle_last st at (Two m op.Differ a e)
settle_last (InTwo m op.Less a st) at e = settle_last st at (Two m op.Less a e)
settle_last (InTwo m op.LessEq a st) at e = settle_last st at (Two m op.LessEq a e)
settle_last (InTwo m op.More a st) at e = settle_last st at (Two m op.More a e)
settle_last (InTwo m op.MoreEq a st) at e = settle_last st at (Two m op.MoreEq a e)
settle_last (InTwo m op.Add a st) at e = settle_last st at (Two m op.Add a e)
settle_last (InTwo m op.Sub a st) at e = settle_last st at (Two m op.Sub a e)
settle_last (InTwo m op.Mul a st) at e = settle_last st at (Two m op.Mul a e)
settle_last (InTwo m op.Div a st) at e = settle_last st at (Two m op.Div a e)
settle_last (InTwo m op.Rem a st) at e = settle_last st at (Two m op.Rem a e)
settle_last _ at e = tt

settle_flag_last : (st : Stack) (g : Guard) → IsLast (settle_flag End g st)
settle_flag_last (InFlagNot st) g = settle_flag_last st (FlagNot g)
settle_flag_last (InFlagTwo AndOp f st) g = settle_flag_last st (FlagTwo AndOp f g)
settle_flag_last (InFlagTwo OrOp f st) g = settle_flag_last st (FlagTwo OrOp f g)
settle_flag_last _ g = tt

end_last : (s : State) (at : Place) → IsLast (step s (token End at))
end_last (OnMark s next other) at = end_last other at
end_last (OnWord w next other) at = end_last other at
end_last (OnName next other) at = end_last other at
end_last (Got e st) at = settle_last st at e
end_last (After e st) at = settle_last st at e
end_last (AfterFlag g st) at = settle_flag_last st g
end_last (Items items) at = tt
end_last _ at = tt

module _ (n : ℕ) where
  last_step : (at : Place) (x : Step) → IsLast x → follow n at finish x ≡ Cut → ⊥
  last_step at No l h = cc
  last_step at (On (Done items)) l h = cc
  last_step at _ l h = absurd l

  more_test : (at : Place) (x : Outcome) (b : Bool) → (x ≡ Cut → ⊥) → (if b then x else Refused TooDeep at) ≡ Cut → ⊥
  more_test at x true f h = f h
  more_test at x false f h = cc

  more_step : (at : Place) (f : State → Outcome) (x : Step) → ((s : State) → f s ≡ Cut → ⊥) → follow n at f x ≡ Cut → ⊥
  more_step at f No g h = cc
  more_step at f (On next) g h = g next h
  more_step at f (Deep next need) g h = more_test at (f next) (nat_le need n) (g next) h

  ended : (front : List Seen) (s : State) (at : Place) → run n s (front ++ token End at ∷ []) ≡ Cut → ⊥
  ended [] s at h = last_step at (step s (token End at)) (end_last s at) h
  ended (t ∷ front) s at h = more_step t.at (λ s. run n s (front ++ token End at ∷ [])) (step s t) (λ next. ended front next at) h

pub not_cut : (n : ℕ) (s : State) (tokens : List Seen) → IsEnded tokens → run n s tokens ≡ Cut → ⊥
not_cut n s tokens e h = ended n e.0 s e.1 (ap (λ ts. run n s ts) (sym e.2) ∙ h)

-- no tree goes on where the machine is blocked
blocked_run : (n : ℕ) (s : State) (t : Seen) (ts : List Seen) (why : Why) → Blocked n s t why → run n s (t ∷ ts) ≡ Refused why t.at
blocked_run n s t ts Unexpected b = ap (follow n t.at (λ s. run n s ts)) b
blocked_run n s t ts TooDeep b =
    ap (follow n t.at (λ s. run n s ts)) b.2 ∙ ap (λ v. if v then run n b.0 ts else Refused TooDeep t.at) (lt-leb b.1 n b.3)

no_tree : (n : ℕ) (p : List Seen) (t : Seen) (s : State) (why : Why) → Reaches n (Items Empty) p s → Blocked n s t why → Continues n (p ++ t ∷ []) → ⊥
no_tree n p t s why r b c =
    let more = c.0 in
    let yes : run n (Items Empty) (p ++ (t ∷ more)) ≡ Accepted c.1 = ap (λ ts. run n (Items Empty) ts) (sym (append_assoc p (t ∷ []) more)) ∙ complete n c.1 ((p ++ t ∷ []) ++ more) c.2 in
    let no : run n (Items Empty) (p ++ (t ∷ more)) ≡ Refused why t.at = run_reaches n p (t ∷ more) (Items Empty) s r ∙ blocked_run n s t more why b in
    cc

has_goes : (n : ℕ) (all ts : List Seen) (x : Step) (next : State) → HasStep n all x ts → Goes n x next → Has n all next ts
has_goes n all ts No next h g = absurd g
has_goes n all ts (On s) next h g = subst (λ s. Has n all s ts) g h
has_goes n all ts (Deep s need) next h g = subst (λ s. Has n all s ts) g.0 (h g.1)

has_reaches : (n : ℕ) (all p r : List Seen) (s s' : State) → Has n all s (p ++ r) → Reaches n s p s' → Has n all s' r
has_reaches n all [] r s s' has h = subst (λ s. Has n all s r) h has
has_reaches n all (t ∷ p) r s s' has h = has_reaches n all p r h.0 s' (has_goes n all (p ++ r) (step s t) h.0 (has_step n all s t (p ++ r) has) h.1) h.2

goes_on : (n : ℕ) (p : List Seen) (s : State) → Reaches n (Items Empty) p s → Continues n p
goes_on n p s r =
    let c = completes n s (λ rest. p ++ rest) (λ rest. has_reaches n (p ++ rest) p rest (Items Empty) s (omega arith, refl) r) in
    (c.0, c.1, sound n c.1 (p ++ c.0) (run_reaches n p c.0 (Items Empty) s r ∙ c.2))

first_refused : (n : ℕ) (tokens p : List Seen) (t : Seen) (r : List Seen) (s : State) (why : Why) → tokens ≡ p ++ t ∷ r → Reaches n (Items Empty) p s → Blocked n s t why → IsFirstRefused n tokens p t
first_refused n tokens p t r s why e reached b = (r, e, goes_on n p s reached, no_tree n p t s why reached b)

weaker : (m n : ℕ) (p : List Seen) → m ≤ n → Continues m p → Continues n p
weaker m n p le c = (c.0, c.1, (c.2.0, omega (arith, c.2.1), c.2.2))

pub unexpected : (n : ℕ) (tokens : List Seen) (at : Place) → run n (Items Empty) tokens ≡ Refused Unexpected at → IsUnexpected n tokens at
unexpected n tokens at h =
    let stop = refused_at n Unexpected at tokens (Items Empty) h in (
      stop.0,
      stop.1,
      stop.5,
      first_refused n tokens stop.0 stop.1 stop.2 stop.3 Unexpected stop.4 stop.6 stop.7,
      λ m c. no_tree (max m n) stop.0 stop.1 stop.3 Unexpected (reaches_more n (max m n) stop.0 (Items Empty) stop.3 (omega arith) stop.6) stop.7
          (weaker m (max m n) (stop.0 ++ stop.1 ∷ []) (omega arith) c),
    )

pub too_deep : (n : ℕ) (tokens : List Seen) (at : Place) → run n (Items Empty) tokens ≡ Refused TooDeep at → IsTooDeep n tokens at
too_deep n tokens at h =
    let stop = refused_at n TooDeep at tokens (Items Empty) h in
    let need = stop.7.1 in
    let reached = reaches_end need stop.0 stop.1 (Items Empty) stop.3 stop.7.0 (reaches_more n need stop.0 (Items Empty) stop.3 (omega (arith, stop.7.3)) stop.6) (subst (λ x. Goes need x stop.7.0) (sym stop.7.2) (refl, omega arith)) in (
      stop.0,
      stop.1,
      stop.5,
      first_refused n tokens stop.0 stop.1 stop.2 stop.3 TooDeep stop.4 stop.6 stop.7,
      (need, goes_on need (stop.0 ++ stop.1 ∷ []) stop.7.0 reached),
    )

-- each list that ends has a tree or a refused token, and not two of them

continues_less : (n : ℕ) (p q : List Seen) → Continues n (p ++ q) → Continues n p
continues_less n p q c = (q ++ c.0, c.1, subst (λ l. IsTreeOf n c.1 l) (append_assoc p q c.0) c.2)

-- two ways to part a list at a token
abbrev Parted : List Seen → Seen → List Seen → Seen → Type 0
Parted p t q u = ((p ≡ q) × (t ≡ u)) ⊎ (((w : List Seen) × (q ≡ p ++ t ∷ w)) ⊎ ((w : List Seen) × (p ≡ q ++ u ∷ w)))

parted_more : (x y : Seen) (p q : List Seen) (t u : Seen) → x ≡ y → Parted p t q u → Parted (x ∷ p) t (y ∷ q) u
parted_more x y p q t u e h =
    elim h [
      | inl same ↦ inl (ap (λ x. x ∷ p) e ∙ ap (λ l. y ∷ l) same.0, same.1)
      | inr other ↦ elim other [
        | inl w ↦ inr (inl (w.0, ap (λ l. y ∷ l) w.1 ∙ ap (λ z. z ∷ p ++ t ∷ w.0) (sym e)))
        | inr w ↦ inr (inr (w.0, ap (λ l. x ∷ l) w.1 ∙ ap (λ z. z ∷ q ++ u ∷ w.0) e))
      ]
    ]

parted : (p q : List Seen) (t u : Seen) (r s : List Seen) → p ++ t ∷ r ≡ q ++ u ∷ s → Parted p t q u
parted [] [] t u r s h = let e : t ≡ u = cc in inl (refl, e)
parted [] (y ∷ q) t u r s h = let e : y ≡ t = cc in inr (inl (q, ap (λ y. y ∷ q) e))
parted (x ∷ p) [] t u r s h = let e : x ≡ u = cc in inr (inr (p, ap (λ x. x ∷ p) e))
parted (x ∷ p) (y ∷ q) t u r s h =
    let e : x ≡ y = cc in
    let rest : p ++ t ∷ r ≡ q ++ u ∷ s = cc in
    parted_more x y p q t u e (parted p q t u r s rest)

refused_order : (n : ℕ) (tokens p q : List Seen) (t u : Seen) (w : List Seen) → IsFirstRefused n tokens p t → IsFirstRefused n tokens q u → q ≡ p ++ t ∷ w → ⊥
refused_order n tokens p q t u w a b e = a.3 (continues_less n (p ++ t ∷ []) w (subst (λ l. Continues n l) (e ∙ sym (append_assoc p (t ∷ []) w)) b.2))

pub one_fault : (n : ℕ) (tokens p q : List Seen) (t u : Seen) → IsFirstRefused n tokens p t → IsFirstRefused n tokens q u → (p ≡ q) × (t ≡ u)
one_fault n tokens p q t u a b =
    elim (parted p q t u a.0 b.0 (sym a.1 ∙ b.1)) [
      | inl same ↦ same
      | inr other ↦ elim other [
        | inl w ↦ absurd (refused_order n tokens p q t u w.0 a b w.1)
        | inr w ↦ absurd (refused_order n tokens q p u t w.0 b a w.1)
      ]
    ]

pub not_both : (n : ℕ) (items : Sequence Item) (tokens p : List Seen) (t : Seen) → IsTreeOf n items tokens → IsFirstRefused n tokens p t → ⊥
not_both n items tokens p t tree refused = refused.3 (refused.0, items, subst (λ l. IsTreeOf n items l) (refused.1 ∙ sym (append_assoc p (t ∷ []) refused.0)) tree)

one_of_outcomes : (n : ℕ) (tokens : List Seen) → IsEnded tokens → (o : Outcome) → run n (Items Empty) tokens ≡ o → ((items : Sequence Item) × IsTreeOf n items tokens) ⊎ ((at : Place) × (IsUnexpected n tokens at ⊎ IsTooDeep n tokens at))
one_of_outcomes n tokens ends (Accepted items) h = inl (items, sound n items tokens h)
one_of_outcomes n tokens ends (Refused Unexpected at) h = inr (at, inl (unexpected n tokens at h))
one_of_outcomes n tokens ends (Refused TooDeep at) h = inr (at, inr (too_deep n tokens at h))
one_of_outcomes n tokens ends Cut h = absurd (not_cut n (Items Empty) tokens ends h)

pub one_of_both : (n : ℕ) (tokens : List Seen) → IsEnded tokens → ((items : Sequence Item) × IsTreeOf n items tokens) ⊎ ((at : Place) × (IsUnexpected n tokens at ⊎ IsTooDeep n tokens at))
one_of_both n tokens ends = one_of_outcomes n tokens ends (run n (Items Empty) tokens) refl
