-- What a numbering gives, and how it fails.
use Rattle.std.proofs.Common.{◌≡◌, inl, inr, ℕ, ◌+◌, Bool, true, false, not, [], ◌∷◌, ◌++◌, length, All, Option, Some, None, is_some, refl, ap, sym, subst, ◌∙◌, arith}
use Rattle.std.specs.Prelude.{codes, nat_lt}
use Rattle.std.proofs.lemmas.Bool.{ltb-true}
use Rattle.std.proofs.lemmas.List.Elements.{All-push}
use Rattle.std.proofs.lemmas.List.{length-append}
use Rattle.bc_data.specs.SourceTree.{Sequence, Empty, More, Member, FlagMember, FieldMember, MethodMember, MakerMember, MethodOf, Item, TagTypeItem, ClassItem, TaskItem}
use Rattle.bc_data.specs.declared.run.Place.{Place}
use Rattle.bc_data.specs.declared.tree.Named.{Named}
use Rattle.bc_types_rules.specs.Got.{Got, Gives, Fails, Kind, Twice, TooMany, ask, ◌>>=◌}
use Rattle.bc_types_rules.proofs.Places.{no_names, only_name, with_one_more}
use Rattle.bc_types_rules.specs.NumberingLaws.{AreMembers, AreSpaces, IsNameFault, IsSpace}
use Rattle.bc_types_rules.specs.Numbering.{Members, Space, Spaces, declare, declare_item, declare_member, no_members, number_of, numbering, startup_members, startup_spaces, try_fold}

-- what holds of each result of the second step holds of the result of both
through : {A B : Type 0} (P : B → Type 0) (g : Got A) (go : A → Got B) (t : B) → (g >>= go) ≡ Gives t → ((x : A) → g ≡ Gives x → go x ≡ Gives t → P t) → P t
through P (Gives x) go t e next = next x refl e
through P (Fails kind at) go t e next = cc

-- a fault of two steps is a fault of one of them
fails_through : {A B : Type 0} (g : Got A) (go : A → Got B) (kind : Kind) (at : Place) → (g >>= go) ≡ Fails kind at → (g ≡ Fails kind at → IsNameFault kind) → ((x : A) → go x ≡ Fails kind at → IsNameFault kind) → IsNameFault kind
fails_through (Gives x) go kind at e first second = second x e
fails_through (Fails k a) go kind at e first second = first (cc)

given : {A : Type 0} (P : A → Type 0) (x y : A) → Gives x ≡ Gives y → P x → P y
given P x y e h = let same : x ≡ y = cc in subst P same h

never_fails : {A : Type 0} (x : A) (kind : Kind) (at : Place) → Gives x ≡ Fails kind at → IsNameFault kind
never_fails x kind at e = cc

fold_keeps : {S A : Type 0} (P : S → Type 0) (step : S → A → Got S) → ((s : S) (x : A) (t : S) → P s → step s x ≡ Gives t → P t) → (start : S) → P start → (xs : Sequence A) (t : S) → try_fold step start xs ≡ Gives t → P t
fold_keeps P step keeps start first Empty t e = given P start t e first
fold_keeps P step keeps start first (More front last) t e =
    through P (try_fold step start front) (λ s. step s last) t e (λ s before after. keeps s last t (fold_keeps P step keeps start first front s before) after)

fold_fails : {S A : Type 0} (step : S → A → Got S) → ((s : S) (x : A) (kind : Kind) (at : Place) → step s x ≡ Fails kind at → IsNameFault kind) → (start : S) (xs : Sequence A) (kind : Kind) (at : Place) → try_fold step start xs ≡ Fails kind at → IsNameFault kind
fold_fails step fails start Empty kind at e = never_fails start kind at e
fold_fails step fails start (More front last) kind at e =
    fails_through (try_fold step start front) (λ s. step s last) kind at e (fold_fails step fails start front kind at) (λ s. fails s last kind at)

-- how a name fails, by the two tests
tests_fail : (known room : Bool) (at : Place) (more : Space) (kind : Kind) (place : Place) → (ask (not known) Twice at >>= λ _. (ask room TooMany at >>= λ _. Gives more)) ≡ Fails kind place → IsNameFault kind
tests_fail true room at more kind place e = inl cc
tests_fail false false at more kind place e = inr cc
tests_fail false true at more kind place e = cc

tests_pass : (known room : Bool) (at : Place) (more t : Space) → (ask (not known) Twice at >>= λ _. (ask room TooMany at >>= λ _. Gives more)) ≡ Gives t → (known ≡ false) × (room ≡ true) × (t ≡ more)
tests_pass true room at more t e = cc
tests_pass false false at more t e = cc
tests_pass false true at more t e = (refl, refl, cc)

declare_fails : (most : ℕ) (s : Space) (x : Named) (kind : Kind) (at : Place) → declare most s x ≡ Fails kind at → IsNameFault kind
declare_fails most s x kind at e = tests_fail (is_some (number_of s x.name)) (nat_lt (length s) most) x.at (s ++ x.name ∷ []) kind at e

unnumbered : (o : Option ℕ) → is_some o ≡ false → o ≡ None
unnumbered None e = refl
unnumbered (Some i) e = cc

-- a space with one name more
record IsOneMore (most : ℕ) (s t : Space) : Type 0 where
  pub space : IsSpace most t
  pub size : length t ≡ length s + 1

declared : (most : ℕ) (s : Space) (x : Named) (t : Space) → IsSpace most s → declare most s x ≡ Gives t → IsOneMore most s t
declared most s x t is e =
    let p = tests_pass (is_some (number_of s x.name)) (nat_lt (length s) most) x.at (s ++ x.name ∷ []) t e in
    let more = with_one_more most s x.name is (unnumbered (number_of s x.name) p.0) (ltb-true (length s) most p.1) in
    let same = sym p.2 in
    record { space = subst (IsSpace most) same more; size = ap length p.2 ∙ length-append s (x.name ∷ []) }

maker_fails : (known : Bool) (at : Place) (more : Members) (kind : Kind) (place : Place) → (ask (not known) Twice at >>= λ _. Gives more) ≡ Fails kind place → IsNameFault kind
maker_fails true at more kind place e = inl cc
maker_fails false at more kind place e = cc

abbrev declared_class : Spaces → Space → Members → Spaces
declared_class s classes m = record s { classes = classes; members = s.members ++ m ∷ [] }

abbrev with_class : Spaces → Space → Members → Got Spaces
with_class s classes m = Gives (declared_class s classes m)

member_fails : (m : Members) (x : Member) (kind : Kind) (at : Place) → declare_member m x ≡ Fails kind at → IsNameFault kind
member_fails m (FlagMember x) kind at e = fails_through (declare 32 m.flags x) (λ f. Gives (record m { flags = f })) kind at e (declare_fails 32 m.flags x kind at) (λ f. never_fails (record m { flags = f }) kind at)
member_fails m (FieldMember x) kind at e = fails_through (declare 256 m.fields x.name) (λ f. Gives (record m { fields = f })) kind at e (declare_fails 256 m.fields x.name kind at) (λ f. never_fails (record m { fields = f }) kind at)
member_fails m (MethodMember (MethodOf result x formals body)) kind at e = fails_through (declare 256 m.methods x) (λ f. Gives (record m { methods = f })) kind at e (declare_fails 256 m.methods x kind at) (λ f. never_fails (record m { methods = f }) kind at)
member_fails m (MakerMember (MethodOf result x formals body)) kind at e = maker_fails m.has_maker x.at (record m { has_maker = true }) kind at e

item_fails : (s : Spaces) (i : Item) (kind : Kind) (at : Place) → declare_item s i ≡ Fails kind at → IsNameFault kind
item_fails s (TagTypeItem x) kind at e = fails_through (declare 64 s.tag_types x) (λ t. Gives (record s { tag_types = t })) kind at e (declare_fails 64 s.tag_types x kind at) (λ t. never_fails (record s { tag_types = t }) kind at)
item_fails s (ClassItem x members) kind at e =
    fails_through (declare 256 s.classes x) (λ c. (try_fold declare_member no_members members >>= with_class s c)) kind at e (declare_fails 256 s.classes x kind at)
    (λ c f. fails_through (try_fold declare_member no_members members) (with_class s c) kind at f (fold_fails declare_member member_fails no_members members kind at) (λ m. never_fails (declared_class s c m) kind at))
item_fails s (TaskItem place x params body) kind at e = fails_through (declare 256 s.tasks x) (λ t. Gives (record s { tasks = t })) kind at e (declare_fails 256 s.tasks x kind at) (λ t. never_fails (record s { tasks = t }) kind at)

pub numbering_fails : (items : Sequence Item) (kind : Kind) (at : Place) → numbering items ≡ Fails kind at → IsNameFault kind
numbering_fails items = fold_fails declare_item item_fails startup_spaces items

member_keeps : (m : Members) (x : Member) (t : Members) → AreMembers m → declare_member m x ≡ Gives t → AreMembers t
member_keeps m (FlagMember x) t w e = through AreMembers (declare 32 m.flags x) (λ f. Gives (record m { flags = f })) t e (λ f before after.
    given AreMembers (record m { flags = f }) t after (record { flags = (declared 32 m.flags x f w.flags before).space; fields = w.fields; methods = w.methods }))
member_keeps m (FieldMember x) t w e = through AreMembers (declare 256 m.fields x.name) (λ f. Gives (record m { fields = f })) t e (λ f before after.
    given AreMembers (record m { fields = f }) t after (record { flags = w.flags; fields = (declared 256 m.fields x.name f w.fields before).space; methods = w.methods }))
member_keeps m (MethodMember (MethodOf result x formals body)) t w e = through AreMembers (declare 256 m.methods x) (λ f. Gives (record m { methods = f })) t e (λ f before after.
    given AreMembers (record m { methods = f }) t after (record { flags = w.flags; fields = w.fields; methods = (declared 256 m.methods x f w.methods before).space }))
member_keeps m (MakerMember (MethodOf result x formals body)) t w e = through AreMembers (ask (not m.has_maker) Twice x.at) (λ _. Gives (record m { has_maker = true })) t e (λ u before after.
    given AreMembers (record m { has_maker = true }) t after (record { flags = w.flags; fields = w.fields; methods = w.methods }))

members_are : (members : Sequence Member) (m : Members) → try_fold declare_member no_members members ≡ Gives m → AreMembers m
members_are members m e = fold_keeps AreMembers declare_member member_keeps no_members (record { flags = no_names 32; fields = no_names 256; methods = no_names 256 }) members m e

item_keeps : (s : Spaces) (i : Item) (t : Spaces) → AreSpaces s → declare_item s i ≡ Gives t → AreSpaces t
item_keeps s (TagTypeItem x) t w e = through AreSpaces (declare 64 s.tag_types x) (λ f. Gives (record s { tag_types = f })) t e (λ f before after.
    given AreSpaces (record s { tag_types = f }) t after (record { classes = w.classes; members = w.members; each_class = w.each_class; tag_types = (declared 64 s.tag_types x f w.tag_types before).space; tasks = w.tasks }))
item_keeps s (ClassItem x members) t w e = through AreSpaces (declare 256 s.classes x) (λ c. (try_fold declare_member no_members members >>= with_class s c)) t e (λ c before rest.
    through AreSpaces (try_fold declare_member no_members members) (with_class s c) t rest (λ m inner after.
    let one = declared 256 s.classes x c w.classes before in
    let both : length (s.members ++ m ∷ []) ≡ length c = length-append s.members (m ∷ []) ∙ ap (λ n. n + 1) w.members ∙ sym one.size in
    let each = All-push AreMembers s.members m w.each_class (members_are members m inner) in
    given AreSpaces (declared_class s c m) t after (record { classes = one.space; members = both; each_class = each; tag_types = w.tag_types; tasks = w.tasks })))
item_keeps s (TaskItem place x params body) t w e = through AreSpaces (declare 256 s.tasks x) (λ f. Gives (record s { tasks = f })) t e (λ f before after.
    given AreSpaces (record s { tasks = f }) t after (record { classes = w.classes; members = w.members; each_class = w.each_class; tag_types = w.tag_types; tasks = (declared 256 s.tasks x f w.tasks before).space }))

startup_are : AreSpaces startup_spaces
startup_are =
    let none : All AreMembers [] = λ k d h. absurd (omega arith) in
    let class : AreMembers startup_members = record { flags = only_name 32 (codes "initialstate") (omega arith); fields = only_name 256 (codes "input") (omega arith); methods = no_names 256 } in
    record { classes = only_name 256 (codes "StartupObject") (omega arith); members = refl; each_class = All-push AreMembers [] startup_members none class; tag_types = no_names 64; tasks = no_names 256 }

pub numbering_gives : (items : Sequence Item) (s : Spaces) → numbering items ≡ Gives s → AreSpaces s
numbering_gives items s e = fold_keeps AreSpaces declare_item item_keeps startup_spaces startup_are items s e
