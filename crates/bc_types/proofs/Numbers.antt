-- The walk makes a class for each name that the numbering gives to one.
use Rattle.std.proofs.Common.{◌≡◌, ℕ, ◌+◌, ◌<◌, ◌≤◌, List, [], ◌∷◌, length, take, drop, ap, sym, ◌∙◌, arith, length-append, not, is_some}
use Rattle.std.specs.Prelude.{nat_lt}
use Rattle.std.proofs.lemmas.Bool.{ltb-true}
use Rattle.std.proofs.lemmas.List.{take-append-drop}
use Rattle.bc_data.specs.SourceTree as source
use Rattle.bc_data.specs.SourceTree.{Sequence, Empty, More, TagTypeItem, ClassItem, TaskItem}
use Rattle.bc_data.specs.View.{onto_by}
use Rattle.bc_data.specs.declared.tree.Named.{Named}
use Rattle.bc_types_rules.specs.Got.{Got, Gives, Twice, TooMany, ask}
use Rattle.bc_types_rules.specs.Numbering.{Space, Spaces, number_of, declare, declare_item, declare_member, no_members, numbering, startup_spaces, try_fold}
use Rattle.bc_data.specs.Typed.{TypedProgram}
use Rattle.bc_types_rules.specs.Context.{Names}
use Rattle.bc_types_rules.specs.Bodies.{check_task}
use Rattle.bc_types_rules.specs.Walk.{check_item, walk}
use Rattle.bc_types_rules.proofs.Steps.{step_back, gives_eq, asked}
use Rattle.bc_types.proofs.Folds.{onto_by-append}

-- a declaration adds a name, and stays within the limit
declared : (most : ℕ) (space t : Space) (x : Named) → declare most space x ≡ Gives t → (length t ≡ length space + 1) × (length t ≤ most)
declared most space t x h =
    let a = step_back (ask (not (is_some (number_of space x.name))) Twice x.at) _ t h in
    let b = step_back (ask (nat_lt (length space) most) TooMany x.at) _ t a.2 in
    let room : length space < most = ltb-true (length space) most (asked _ _ _ _ b.1) in
    let grown : length t ≡ length space + 1 = ap length (sym (gives_eq _ _ b.2)) ∙ length-append space (x.name ∷ []) in
    (grown, omega arith)

-- as many classes as names of classes, and no more than may be
record SameCount (S : Spaces) (p : TypedProgram) : Type 0 where
  same : length p.classes ≡ length S.classes
  few : length S.classes ≤ 256

next_item : (N : Names) (S T : Spaces) (p q : TypedProgram) (a : source.Item) → declare_item S a ≡ Gives T → check_item N p a ≡ Gives q → SameCount S p → SameCount T q
next_item N S T p q (TagTypeItem x) h k e =
    let a = step_back (declare 64 S.tag_types x) _ T h in
    let s : T.classes ≡ S.classes = ap (λ t. t.classes) (sym (gives_eq _ _ a.2)) in
    let r : q.classes ≡ p.classes = ap (λ t. t.classes) (sym (gives_eq _ _ k)) in
    record { same = ap length r ∙ e.same ∙ ap length (sym s); few = rw s e.few }
next_item N S T p q (ClassItem x members) h k e =
    let a = step_back (declare 256 S.classes x) _ T h in
    let b = step_back (try_fold declare_member no_members members) _ T a.2 in
    let s : T.classes ≡ a.0 = ap (λ t. t.classes) (sym (gives_eq _ _ b.2)) in
    let d = declared 256 S.classes a.0 x a.1 in
    let l = step_back (try_fold _ _ members) _ q k in
    let r : length q.classes ≡ length p.classes + 1 = ap (λ t. length t.classes) (sym (gives_eq _ _ l.2)) ∙ length-append p.classes (l.0 ∷ []) in
    record { same = r ∙ ap (λ n. n + 1) e.same ∙ sym d.0 ∙ ap length (sym s); few = rw s d.1 }
next_item N S T p q (TaskItem at x params body) h k e =
    let a = step_back (declare 256 S.tasks x) _ T h in
    let s : T.classes ≡ S.classes = ap (λ t. t.classes) (sym (gives_eq _ _ a.2)) in
    let l = step_back (check_task N at x params body) _ q k in
    let r : q.classes ≡ p.classes = ap (λ t. t.classes) (sym (gives_eq _ _ l.2)) in
    record { same = ap length r ∙ e.same ∙ ap length (sym s); few = rw s e.few }

same_count : (N : Names) (items : Sequence source.Item) (S : Spaces) (p : TypedProgram) → numbering items ≡ Gives S → walk N items ≡ Gives p → SameCount S p
same_count N Empty S p h k =
    record { same = ap (λ t. length t.classes) (sym (gives_eq _ _ k)) ∙ ap (λ t. length t.classes) (gives_eq _ _ h); few = rw (sym (ap (λ t. length t.classes) (gives_eq _ _ h))) (omega arith) }
same_count N (More front last) S p h k =
    let a = step_back (numbering front) (λ s. declare_item s last) S h in
    let b = step_back (walk N front) (λ s. check_item N s last) p k in
    next_item N a.0 S b.0 p last a.2 b.2 (same_count N front a.0 b.0 a.1 b.1)

-- what is before in a walk that ends well was walked over well
front_gives : {S A B : Type 0} (step : S → B → Got S) (see : A → B) (start t : S) (ys : List A) (front : Sequence B) → try_fold step start (onto_by see ys front) ≡ Gives t → (u : S) × (try_fold step start front ≡ Gives u)
front_gives step see start t [] front h = (t, h)
front_gives step see start t (y ∷ ys) front h =
    let a = front_gives step see start t ys (More front (see y)) h in
    let b = step_back (try_fold step start front) (λ s. step s (see y)) a.0 a.1 in
    (b.0, b.1)

-- the classes that the walk has made are no more than may be
pub few_classes : {A : Type 0} (N : Names) (see : A → source.Item) (S : Spaces) (p : TypedProgram) (xs : List A) (i : ℕ) → numbering (onto_by see xs Empty) ≡ Gives S → walk N (onto_by see (take i xs) Empty) ≡ Gives p → length p.classes ≤ 256
few_classes N see S p xs i h k =
    let all : numbering (onto_by see (drop i xs) (onto_by see (take i xs) Empty)) ≡ Gives S = ap numbering (sym (onto_by-append see (take i xs) (drop i xs) Empty)) ∙ ap (λ ys. numbering (onto_by see ys Empty)) (take-append-drop i xs) ∙ h in
    let a = front_gives declare_item see startup_spaces S (drop i xs) (onto_by see (take i xs) Empty) all in
    let e = same_count N (onto_by see (take i xs) Empty) a.0 p a.1 k in
    rw e.same e.few
