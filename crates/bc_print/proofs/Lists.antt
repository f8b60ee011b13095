-- Lists of parts, and what their next element adds.
use Rattle.std.proofs.Common.{◌≡◌, ℕ, zero, suc, ◌+◌, ◌<◌, ◌==◌, List, [], ◌∷◌, ◌++◌, length, take, get_or, refl, sym, ap, ◌∙◌, arith, append_assoc, if◌then◌else◌, false, codes, Result, Ok, Err, OnOk}
use Rattle.std.proofs.lemmas.List.{take_more, append-nil}
use Rattle.std.proofs.Math.Dec.{eqb-suc-zero}
use Rattle.bc_data.specs.SourceTree.{Sequence, Empty, More, Expressions, NoArg, Arg, Statements, Nothing, Then}
use Rattle.bc_data.specs.View.{onto, onto_by, view, views, view_stat, stat_views}
use Rattle.bc_data.specs.declared.tree.ExprText.{ExprText}
use Rattle.bc_data.specs.declared.tree.StatText.{StatText}
use Rattle.bc_data.specs.declared.tree.ActionText.{ActionText}
use Rattle.bc_data.specs.declared.tree.Bind.{Bind}
use Rattle.bc_print.specs.Canonical.{line, each, ended, joined, ended_arguments, arguments_text, expression_text, literal_byte, literal_bytes, statement_text, statements_text, tweaks_text, action_text, binds_text, bind_text}

onto_push : {A : Type 0} → (xs : List A) (x : A) (front : Sequence A) → onto (xs ++ x ∷ []) front ≡ More (onto xs front) x
onto_push [] x front = refl
onto_push (y ∷ ys) x front = onto_push ys x (More front y)

onto_by_push : {A : Type 0} {B : Type 0} → (f : A → B) (xs : List A) (x : A) (front : Sequence B) → onto_by f (xs ++ x ∷ []) front ≡ More (onto_by f xs front) (f x)
onto_by_push f [] x front = refl
onto_by_push f (y ∷ ys) x front = onto_by_push f ys x (More front (f y))

views_push : (xs : List ExprText) (x : ExprText) (front : Expressions) → views (xs ++ x ∷ []) front ≡ Arg (views xs front) (view x)
views_push [] x front = refl
views_push (y ∷ ys) x front = views_push ys x (Arg front (view y))

stat_views_push : (xs : List StatText) (x : StatText) (front : Statements) → stat_views (xs ++ x ∷ []) front ≡ Then (stat_views xs front) (view_stat x)
stat_views_push [] x front = refl
stat_views_push (y ∷ ys) x front = stat_views_push ys x (Then front (view_stat y))

take_next : {A : Type 0} → (xs : List A) (i : ℕ) (x : A) → i < length xs → x ≡ get_or xs i x → take (i + 1) xs ≡ take i xs ++ x ∷ []
take_next xs i x h e = take_more xs i x h ∙ ap (λ v. take i xs ++ v ∷ []) (sym e)

ended_more : {A : Type 0} → (f : A → List ℕ) (separator : List ℕ) (ys : List A) (front : Sequence A) (y : A) → ended f separator (onto ys (More front y)) ≡ joined f separator (onto ys (More front y)) ++ separator
ended_more f separator [] front y = refl
ended_more f separator (z ∷ zs) front y = ended_more f separator zs (More front y) z

ended_take : {A : Type 0} → (f : A → List ℕ) (separator : List ℕ) (xs : List A) (i : ℕ) → i < length xs → ended f separator (onto (take i xs) Empty) ≡ joined f separator (onto (take i xs) Empty) ++ (if i == 0 then [] else separator)
ended_take f separator xs zero h = refl
ended_take f separator [] (suc k) h = absurd (omega arith)
ended_take f separator (y ∷ ys) (suc k) h = rw (eqb-suc-zero k) (ended_more f separator (take k ys) Empty y)

-- the next of parts that are joined
pub joined_next : {A : Type 0} → (f : A → List ℕ) (separator : List ℕ) (xs : List A) (i : ℕ) (x : A) → i < length xs → x ≡ get_or xs i x → joined f separator (onto (take (i + 1) xs) Empty) ≡ joined f separator (onto (take i xs) Empty) ++ (if i == 0 then [] else separator) ++ f x
joined_next f separator xs i x h e =
    ap (λ ys. joined f separator (onto ys Empty)) (take_next xs i x h e) ∙ ap (joined f separator) (onto_push (take i xs) x Empty) ∙ ap (λ t. t ++ f x) (ended_take f separator xs i h)

ended_arguments_more : (ys : List ExprText) (front : Expressions) (y : ExprText) → ended_arguments (views ys (Arg front (view y))) ≡ arguments_text (views ys (Arg front (view y))) ++ 44 ∷ 32 ∷ []
ended_arguments_more [] front y = refl
ended_arguments_more (z ∷ zs) front y = ended_arguments_more zs (Arg front (view y)) z

ended_arguments_take : (xs : List ExprText) (i : ℕ) → i < length xs → ended_arguments (views (take i xs) NoArg) ≡ arguments_text (views (take i xs) NoArg) ++ (if i == 0 then [] else 44 ∷ 32 ∷ [])
ended_arguments_take xs zero h = refl
ended_arguments_take [] (suc k) h = absurd (omega arith)
ended_arguments_take (y ∷ ys) (suc k) h = rw (eqb-suc-zero k) (ended_arguments_more (take k ys) NoArg y)

-- the next argument
pub argument_next : (xs : List ExprText) (i : ℕ) (x : ExprText) → i < length xs → x ≡ get_or xs i x → arguments_text (views (take (i + 1) xs) NoArg) ≡ arguments_text (views (take i xs) NoArg) ++ (if i == 0 then [] else 44 ∷ 32 ∷ []) ++ expression_text (view x)
argument_next xs i x h e =
    ap (λ ys. arguments_text (views ys NoArg)) (take_next xs i x h e) ∙ ap arguments_text (views_push (take i xs) x NoArg) ∙ ap (λ t. t ++ expression_text (view x)) (ended_arguments_take xs i h)

-- the next statement
pub statement_next : (margin : List ℕ) (xs : List StatText) (i : ℕ) (x : StatText) → i < length xs → x ≡ get_or xs i x → statements_text margin (stat_views (take (i + 1) xs) Nothing) ≡ statements_text margin (stat_views (take i xs) Nothing) ++ statement_text margin (view_stat x)
statement_next margin xs i x h e =
    ap (λ ys. statements_text margin (stat_views ys Nothing)) (take_next xs i x h e) ∙ ap (statements_text margin) (stat_views_push (take i xs) x Nothing)

-- the next of parts that stand one behind another
pub each_next : {A : Type 0} {B : Type 0} → (text : B → List ℕ) (f : A → B) (xs : List A) (i : ℕ) (x : A) → i < length xs → x ≡ get_or xs i x → each text (onto_by f (take (i + 1) xs) Empty) ≡ each text (onto_by f (take i xs) Empty) ++ text (f x)
each_next text f xs i x h e =
    ap (λ ys. each text (onto_by f ys Empty)) (take_next xs i x h e) ∙ ap (each text) (onto_by_push f (take i xs) x Empty)

literal_push : (xs : List ℕ) (b : ℕ) → literal_bytes (xs ++ b ∷ []) ≡ literal_bytes xs ++ literal_byte b
literal_push [] b = append-nil (literal_byte b)
literal_push (x ∷ xs) b = ap (λ t. literal_byte x ++ t) (literal_push xs b) ∙ sym (append_assoc (literal_byte x) (literal_bytes xs) (literal_byte b))

-- the next byte of a text
pub literal_next : (xs : List ℕ) (i : ℕ) → i < length xs → literal_bytes (take (i + 1) xs) ≡ literal_bytes (take i xs) ++ literal_byte (get_or xs i 0)
literal_next xs i h = ap literal_bytes (take_more xs i 0 h) ∙ literal_push (take i xs) (get_or xs i 0)

by_views : {A : Type 0} {B : Type 0} → (f : B → List ℕ) (g : A → B) (separator : List ℕ) (xs : List A) (s : Sequence A) (t : Sequence B) → ended (λ x. f (g x)) separator s ≡ ended f separator t → joined (λ x. f (g x)) separator s ≡ joined f separator t → joined (λ x. f (g x)) separator (onto xs s) ≡ joined f separator (onto_by g xs t)
by_views f g separator [] s t he hj = hj
by_views f g separator (x ∷ xs) s t he hj =
    by_views f g separator xs (More s x) (More t (g x)) (ap (λ v. v ++ f (g x) ++ separator) he) (ap (λ v. v ++ f (g x)) he)

-- parts that are seen through their views
pub joined_views : {A : Type 0} {B : Type 0} → (f : B → List ℕ) (g : A → B) (separator : List ℕ) (xs : List A) → joined (λ x. f (g x)) separator (onto xs Empty) ≡ joined f separator (onto_by g xs Empty)
joined_views f g separator xs = by_views f g separator xs Empty Empty refl refl

-- one more appended, and two
pub then_one : (start a b all first next : List ℕ) → first ≡ start ++ a → next ≡ first ++ b → all ≡ a ++ b → next ≡ start ++ all
then_one start a b all first next e f h = f ∙ ap (λ t. t ++ b) e ∙ append_assoc start a b ∙ ap (λ t. start ++ t) (sym h)

pub then_two : (start a b c all first next last : List ℕ) → first ≡ start ++ a → next ≡ first ++ b → last ≡ next ++ c → all ≡ a ++ b ++ c → last ≡ start ++ all
then_two start a b c all first next last e f g h =
    then_one start (a ++ b) c all next last (then_one start a b (a ++ b) first next e f refl) g h

is_more : {A : Type 0} → (xs : List A) (front : Sequence A) (x : A) → (f : Sequence A) × (l : A) × (onto xs (More front x) ≡ More f l)
is_more [] front x = (front, x, refl)
is_more (y ∷ ys) front x = is_more ys (More front x) y

-- braces and bindings that are not empty
pub some_tweaks : (xs : List ActionText) → (length xs == 0) ≡ false → tweaks_text (onto xs Empty) ≡ codes "{" ++ joined action_text (codes ", ") (onto xs Empty) ++ codes "}"
some_tweaks [] h = cc
some_tweaks (x ∷ xs) h = let e = is_more xs Empty x in rw (e.2) refl

pub some_binds : (xs : List Bind) → (length xs == 0) ≡ false → binds_text (onto xs Empty) ≡ codes " with " ++ joined bind_text (codes " and ") (onto xs Empty)
some_binds [] h = cc
some_binds (x ∷ xs) h = let e = is_more xs Empty x in rw (e.2) refl

-- the same where the last call may fail
pub on_ok : {A : Type 0} {E : Type 0} → (r : Result A E) (P Q : Type 0) → (P → Q) → OnOk r P → OnOk r Q
on_ok (Ok x) P Q f h = f h
on_ok (Err e) P Q f h = h

pub ok_then : {A : Type 0} {E : Type 0} → (r : Result A E) (start a b all first next : List ℕ) → first ≡ start ++ a → OnOk r (next ≡ first ++ b) → all ≡ a ++ b → OnOk r (next ≡ start ++ all)
ok_then r start a b all first next e f h = on_ok r (next ≡ first ++ b) (next ≡ start ++ all) (λ f. then_one start a b all first next e f h) f

pub ok_then_two : {A : Type 0} {E : Type 0} → (r : Result A E) (start a b c all first next last : List ℕ) → first ≡ start ++ a → next ≡ first ++ b → OnOk r (last ≡ next ++ c) → all ≡ a ++ b ++ c → OnOk r (last ≡ start ++ all)
ok_then_two r start a b c all first next last e f g h =
    ok_then r start (a ++ b) c all next last (then_one start a b (a ++ b) first next e f refl) g h

-- lines in parts
pub line_of_three : (margin a b c : List ℕ) → line margin (a ++ b ++ c) ≡ margin ++ a ++ b ++ (c ++ 10 ∷ [])
line_of_three margin a b c = simp append_assoc

pub line_of_four : (margin a b c d : List ℕ) → line margin (a ++ b ++ c ++ d) ≡ margin ++ a ++ (b ++ c ++ (d ++ 10 ∷ []))
line_of_four margin a b c d = simp append_assoc

pub line_of_five : (margin a b c d e : List ℕ) → line margin (a ++ b ++ c ++ d ++ e) ≡ margin ++ (a ++ b ++ c) ++ (d ++ (e ++ 10 ∷ []))
line_of_five margin a b c d e = simp append_assoc
