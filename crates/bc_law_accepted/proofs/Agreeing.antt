-- The names of an accepted text agree with the classes of its program.
use Rattle.std.proofs.Common.{◌≡◌, ℕ, ◌<◌, List, [], length, map, Option, Some, None, option_map, option_and_then, slice_get, nat_eq, ap, sym, subst, refl, ◌∙◌}
use Rattle.std.specs.Cmp.Lexicographic.{pointwise}
use Rattle.std.proofs.lemmas.List.Quantifiers.{position-Some}
use Rattle.std.proofs.lemmas.List.{length-map}
use Rattle.std.proofs.lemmas.Option.{slice_get-map}
use Rattle.bc_data.specs.SourceTree.{Sequence, Item}
use Rattle.bc_data.specs.declared.program.Shape.{Shape}
use Rattle.bc_data.specs.Typed.{TypedMethod, TypedClass, TypedProgram}
use Rattle.bc_data.specs.TypedBodies.{IsField, IsMethodOf}
use Rattle.bc_types_rules.specs.Got.{Gives}
use Rattle.bc_types_rules.specs.Numbering.{Members, Space, Spaces, member_number, number_of, numbering}
use Rattle.bc_types_rules.specs.Context.{ValueType, Known, Signature, FieldFound, MethodFound}
use Rattle.bc_types_rules.specs.Declared.{Types, field_found, formals_of_maker, method_found, names_by, names_of, types_of}
use Rattle.bc_types_rules.specs.ProgramRules.{TakesItem}
use Rattle.bc_types_rules.specs.ExpressionRules.{Each}
use Rattle.bc_types_rules.specs.Walk.{startup_program}
use Rattle.bc_law_accepted.proofs.Agreement.{Agrees}
use Rattle.bc_law_accepted.proofs.Paired.{Paired, partner, partner_back}
use Rattle.bc_law_accepted.proofs.SameNames.{SameMembers, SameNames, class_name, same_names}
use Rattle.bc_law_accepted.proofs.Typing.{HasTypes, known_field, known_signature, types_known}

numbered : (space : Space) (name : List ℕ) (i : ℕ) → number_of space name ≡ Some i → i < length space
numbered space name i e = (position-Some (pointwise nat_eq name) space i [] e).0

-- the parts of an option that is there
then_some : {A B : Type 0} (f : A → Option B) (o : Option A) (y : B) → option_and_then f o ≡ Some y → (x : A) × (o ≡ Some x) × (f x ≡ Some y)
then_some f (Some x) y e = (x, refl, e)
then_some f None y e = cc

map_some : {A B : Type 0} (f : A → B) (o : Option A) (y : B) → option_map f o ≡ Some y → (x : A) × (o ≡ Some x) × (f x ≡ y)
map_some f (Some x) y e = (x, refl, cc)
map_some f None y e = cc

of_class : (kind : Members → Space) (name : List ℕ) (o : Option Members) (i : ℕ) → elim o [ Some m ↦ number_of (kind m) name | None ↦ None ] ≡ Some i → (m : Members) × (o ≡ Some m) × (number_of (kind m) name ≡ Some i)
of_class kind name (Some m) i e = (m, refl, e)
of_class kind name None i e = cc

-- an element of a list that is mapped
mapped_at : {A B : Type 0} (f : A → B) (ys : List B) (xs : List A) (i : ℕ) (y : B) → ys ≡ map f xs → slice_get ys i ≡ Some y → (x : A) × (slice_get xs i ≡ Some x) × (f x ≡ y)
mapped_at f ys xs i y e at = map_some f (slice_get xs i) y (sym (slice_get-map f xs i) ∙ ap (λ ys. slice_get ys i) (sym e) ∙ at)

module _ (S : Spaces) (ts : List Types) (P : TypedProgram) (same : SameNames S P) (types : Paired HasTypes ts P.classes) where
  flag_agrees : (c : ℕ) (name : List ℕ) (f : ℕ) → member_number (λ m. m.flags) S c name ≡ Some f → (k : TypedClass) × (slice_get P.classes c ≡ Some k) × (f < length k.flags)
  flag_agrees c name f e =
      let m = of_class (λ m. m.flags) name (slice_get S.members c) f e in
      let k = partner SameMembers S.members P.classes c m.0 same.members m.1 in
      (k.0, k.1, subst (λ n. f < n) (ap length k.2.flags) (numbered m.0.flags name f m.2))

  abbrev is_field : ℕ → ℕ → ValueType → Type 0
  is_field c f t = (sh : Shape) × (t ≡ Known sh) × IsField P.classes c f sh

  class_field : (c f : ℕ) (k : TypedClass) (u : Types) (t : ValueType) → slice_get P.classes c ≡ Some k → HasTypes u k → slice_get u.fields f ≡ Some t → is_field c f t
  class_field c f k u t class has at =
      let x = mapped_at known_field u.fields k.fields f t has.fields at in
      (x.0.shape, sym x.2, (k, x.0, class, x.1, refl))

  field_agrees : (c : ℕ) (name : List ℕ) (f : ℕ) (t : ValueType) → (names_by S ts).field_of c name ≡ Some (record { field = f; type = t }) → is_field c f t
  field_agrees c name f t e =
      let n = then_some (field_found ts c) (member_number (λ m. m.fields) S c name) _ e in
      let u = then_some (λ t. option_map (λ type. record { field = n.0; type = type }) (slice_get t.fields n.0)) (slice_get ts c) _ n.2 in
      let v = map_some (λ type. record { field = n.0; type = type }) (slice_get u.0.fields n.0) _ u.2 in
      let k = partner HasTypes ts P.classes c u.0 types u.1 in
      let number : n.0 ≡ f = ap (λ (w : FieldFound). w.field) v.2 in
      let type : v.0 ≡ t = ap (λ (w : FieldFound). w.type) v.2 in
      subst (λ f. is_field c f t) number (subst (is_field c n.0) type (class_field c n.0 k.0 u.0 v.0 k.1 k.2 v.1))

  abbrev is_method : ℕ → ℕ → Signature → Type 0
  is_method c n sig = (m : TypedMethod) × IsMethodOf P.classes c n m × (sig.formals ≡ map Known m.formals) × (sig.result ≡ option_map Known m.result)

  class_method : (c n : ℕ) (k : TypedClass) (u : Types) (sig : Signature) → slice_get P.classes c ≡ Some k → HasTypes u k → slice_get u.methods n ≡ Some sig → is_method c n sig
  class_method c n k u sig class has at =
      let m = mapped_at known_signature u.methods k.methods n sig has.methods at in
      (m.0, (k, class, m.1), ap (λ s. s.formals) (sym m.2), ap (λ s. s.result) (sym m.2))

  method_agrees : (c : ℕ) (name : List ℕ) (n : ℕ) (sig : Signature) → (names_by S ts).method_of c name ≡ Some (record { method = n; signature = sig }) → is_method c n sig
  method_agrees c name n sig e =
      let i = then_some (method_found ts c) (member_number (λ m. m.methods) S c name) _ e in
      let u = then_some (λ t. option_map (λ s. record { method = i.0; signature = s }) (slice_get t.methods i.0)) (slice_get ts c) _ i.2 in
      let v = map_some (λ s. record { method = i.0; signature = s }) (slice_get u.0.methods i.0) _ u.2 in
      let k = partner HasTypes ts P.classes c u.0 types u.1 in
      let number : i.0 ≡ n = ap (λ (w : MethodFound). w.method) v.2 in
      let signature : v.0 ≡ sig = ap (λ (w : MethodFound). w.signature) v.2 in
      subst (λ n. is_method c n sig) number (subst (is_method c i.0) signature (class_method c i.0 k.0 u.0 v.0 k.1 k.2 v.1))

  agrees : Agrees (names_by S ts) P.classes (length P.tag_types)
  agrees = record {
    class = λ name c e. subst (λ n. c < n) (ap length same.classes ∙ length-map P.classes class_name) (numbered S.classes name c e);
    flag = flag_agrees;
    field = field_agrees;
    method = method_agrees;
    maker = λ c k at.
        let t = partner_back HasTypes ts P.classes c k types at in
        ap formals_of_maker t.1 ∙ t.2.maker;
    tag_type = λ name t e. subst (λ n. t < n) (ap length same.tag_types) (numbered S.tag_types name t e);
  }

pub names_agree :
    (items : Sequence Item) (S : Spaces) (P : TypedProgram) → numbering items ≡ Gives S → Each (TakesItem (names_of S items)) startup_program items P
    → Agrees (names_of S items) P.classes (length P.tag_types)
names_agree items S P e h = agrees S (types_of (number_of S.classes) items) P (same_names (names_of S items) items S P e h) (types_known (names_of S items) items P h)
