-- What a text declares of its classes is what the classes of its program have.
use Rattle.std.proofs.Common.{◌≡◌, ℕ, List, [], ◌∷◌, ◌++◌, map, length, Option, Some, None, option_map, refl, ap, sym, ◌∙◌}
use Rattle.std.proofs.lemmas.List.{map-append}
use Rattle.bc_data.specs.SourceTree.{Sequence, Member, FlagMember, FieldMember, MethodMember, MakerMember, Method, MethodOf, Item, TagTypeItem, ClassItem, TaskItem}
use Rattle.bc_data.specs.declared.tree.TypeText.{TypeText}
use Rattle.bc_data.specs.declared.tree.Formal.{Formal}
use Rattle.bc_data.specs.declared.program.Field.{Field}
use Rattle.bc_data.specs.declared.program.Shape.{Shape}
use Rattle.bc_data.specs.Startup.{startup_class}
use Rattle.bc_data.specs.Typed.{TypedMethod, TypedClass, TypedProgram}
use Rattle.bc_data.specs.TypedBodies.{maker_shapes}
use Rattle.bc_types_rules.specs.Bodies.{Formals, no_formals, with_formal}
use Rattle.bc_types_rules.specs.Context.{ValueType, Known, Signature, Names, type_of}
use Rattle.bc_types_rules.specs.Declared.{Types, no_types, signature_of, startup_types, type_of_result, types_of, types_of_formals, with_item, with_member}
use Rattle.bc_types_rules.specs.ProgramRules.{IsMethod, IsResult, TakesFormal, TakesItem, TakesMember}
use Rattle.bc_types_rules.specs.ExpressionRules.{Each}
use Rattle.bc_types_rules.specs.Walk.{empty_class, startup_program}
use Rattle.bc_law_accepted.proofs.Paired.{Paired, paired_more, paired_one, both_walks, moved, fold_walks}

abbrev pub known_field : Field → ValueType
known_field x = Known x.shape

abbrev pub known_signature : TypedMethod → Signature
known_signature m = record { formals = map Known m.formals; result = option_map Known m.result }

-- the declared types of a class are those that it has
pub record HasTypes (t : Types) (k : TypedClass) : Type 0 where
  pub fields : t.fields ≡ map known_field k.fields
  pub methods : t.methods ≡ map known_signature k.methods
  pub maker : t.maker ≡ map Known (maker_shapes k.maker)

mapped_more : {A B : Type 0} (f : A → B) (xs : List A) (ys : List B) (x : A) (y : B) → ys ≡ map f xs → y ≡ f x → ys ++ y ∷ [] ≡ map f (xs ++ x ∷ [])
mapped_more f xs ys x y e h = ap (λ zs. zs ++ y ∷ []) e ∙ ap (λ z. map f xs ++ z ∷ []) h ∙ sym (map-append f xs (x ∷ []))

module _ (N : Names) where
  abbrev are_known : List ValueType → Formals → Type 0
  are_known ts fs = ts ≡ map Known fs.shapes

  formal_step : (ts : List ValueType) (fs : Formals) (x : Formal) (us : List ValueType) (gs : Formals) → are_known ts fs → us ≡ ts ++ type_of N.class_of x.kind ∷ [] → TakesFormal N fs x gs → are_known us gs
  formal_step ts fs x us gs w e t =
      moved are_known (ts ++ type_of N.class_of x.kind ∷ []) us (with_formal fs x.name t.0) gs e t.4
      (mapped_more Known fs.shapes ts t.0 (type_of N.class_of x.kind) w t.1)

  formals_known : (formals : Sequence Formal) (fs : Formals) → Each (TakesFormal N) no_formals formals fs → types_of_formals N.class_of formals ≡ map Known fs.shapes
  formals_known formals fs t =
      both_walks are_known (λ ts x us. us ≡ ts ++ type_of N.class_of x.kind ∷ []) (TakesFormal N) formal_step [] no_formals refl formals
      (types_of_formals N.class_of formals) fs (fold_walks (λ ts x. ts ++ type_of N.class_of x.kind ∷ []) [] formals) t

  result_known : (result : Option TypeText) (r : Option Shape) → IsResult N result r → type_of_result N.class_of result ≡ option_map Known r
  result_known None r h = ap (option_map Known) (sym h)
  result_known (Some t) r h = ap Some h.1 ∙ ap (option_map Known) (sym h.2)

  pub method_known : (me : ℕ) (m : Method) (y : TypedMethod) → IsMethod N me m y → signature_of N.class_of m ≡ known_signature y
  method_known me (MethodOf result x formals body) y h =
      let f = formals_known formals h.1 h.5 in
      let r = result_known result h.0 h.4 in
      ap (λ ts. record { formals = ts; result = type_of_result N.class_of result }) f
      ∙ ap (λ t. record { formals = map Known h.1.shapes; result = t }) r
      ∙ ap known_signature (sym h.8)

  member_step : (me : ℕ) (t : Types) (k : TypedClass) (x : Member) (u : Types) (l : TypedClass) → HasTypes t k → u ≡ with_member N.class_of t x → TakesMember N me k x l → HasTypes u l
  member_step me t k (FlagMember x) u l w e h =
      moved HasTypes t u (record k { flags = k.flags ++ x.name ∷ [] }) l e h
      (record { fields = w.fields; methods = w.methods; maker = w.maker })
  member_step me t k (FieldMember x) u l w e h =
      let field : Field = record { name = x.name.name; shape = h.0 } in
      moved HasTypes (with_member N.class_of t (FieldMember x)) u (record k { fields = k.fields ++ field ∷ [] }) l e h.2
      (record { fields = mapped_more known_field k.fields t.fields field (type_of N.class_of x.kind) w.fields h.1; methods = w.methods; maker = w.maker })
  member_step me t k (MethodMember m) u l w e h =
      moved HasTypes (with_member N.class_of t (MethodMember m)) u (record k { methods = k.methods ++ h.0 ∷ [] }) l e h.2
      (record { fields = w.fields; methods = mapped_more known_signature k.methods t.methods h.0 (signature_of N.class_of m) w.methods (method_known me m h.0 h.1); maker = w.maker })
  member_step me t k (MakerMember m) u l w e h =
      moved HasTypes (with_member N.class_of t (MakerMember m)) u (record k { maker = Some h.0 }) l e h.2
      (record { fields = w.fields; methods = w.methods; maker = ap (λ s. s.formals) (method_known me m h.0 h.1.1) })

  item_step : (ts : List Types) (p : TypedProgram) (i : Item) (us : List Types) (q : TypedProgram) → Paired HasTypes ts p.classes → us ≡ with_item N.class_of ts i → TakesItem N p i q → Paired HasTypes us q.classes
  item_step ts p (TagTypeItem x) us q w e h = moved (λ us q. Paired HasTypes us q.classes) ts us (record p { tag_types = p.tag_types ++ x.name ∷ [] }) q e h w
  item_step ts p (ClassItem x members) us q w e h =
      let types = fold_walks (with_member N.class_of) no_types members in
      let has : HasTypes _ h.0 =
      both_walks HasTypes (λ t x u. u ≡ with_member N.class_of t x) (TakesMember N (length p.classes)) (member_step (length p.classes))
      no_types (empty_class x.name) (record { fields = refl; methods = refl; maker = refl }) members _ h.0 types h.1 in
      moved (λ us q. Paired HasTypes us q.classes) _ us (record p { classes = p.classes ++ h.0 ∷ [] }) q e h.2 (paired_more HasTypes ts p.classes _ h.0 w has)
  item_step ts p (TaskItem at x params body) us q w e h = moved (λ us q. Paired HasTypes us q.classes) ts us (record p { tasks = p.tasks ++ h.0 ∷ [] }) q e h.2 w

  startup_typed : Paired HasTypes (startup_types ∷ []) (startup_class ∷ [])
  startup_typed =
      let has : HasTypes startup_types startup_class = record { fields = refl; methods = refl; maker = refl } in
      paired_one HasTypes startup_types startup_class has

  pub types_known : (items : Sequence Item) (P : TypedProgram) → Each (TakesItem N) startup_program items P → Paired HasTypes (types_of N.class_of items) P.classes
  types_known items P h =
      both_walks (λ ts p. Paired HasTypes ts p.classes) (λ ts i us. us ≡ with_item N.class_of ts i) (TakesItem N) item_step (startup_types ∷ []) startup_program startup_typed items
      (types_of N.class_of items) P (fold_walks (with_item N.class_of) (startup_types ∷ []) items) h
