-- The units of methods and constructors stand where calls look for them.
use Rattle.std.proofs.Common.{◌≡◌, ℕ, zero, suc, ◌+◌, List, [], ◌∷◌, refl, sym, ap, ◌∙◌, subst}
use Rattle.std.proofs.lemmas.List.Elements.{recursion_from_All}
use Rattle.std.specs.List.{AllByRecursion}
use Rattle.std.specs.Prelude.{slice_get, option_and_then, Option, Some, None}
use Rattle.bc_data.specs.Typed.{TypedMethod, TypedClass}
use Rattle.bc_data.specs.TypedBodies.{IsMethodOf}
use Rattle.bc_data.specs.WellTyped.{IsMethod, method_start}
use Rattle.bc_mean.specs.Evaluate.{method_in}
use Rattle.bc_code.specs.declared.code.Unit.{Unit as CodeUnit}
use Rattle.bc_code.specs.declared.code.ClassCode.{ClassCode}
use Rattle.bc_code.specs.Instructions.{maker_of, method_of}
use Rattle.bc_code.specs.Translation.{HasMethodUnit, IsMakerCode}
use Rattle.bc_law_code.proofs.Bodies.{IsCallable, IsGround, class_code}
use Rattle.bc_law_code.proofs.Leads.{Ground, world}

pub at_place : {X : Type 0} (P : X → Type 0) (xs : List X) (n : ℕ) (x : X) → AllByRecursion P xs → slice_get xs n ≡ Some x → P x
at_place P [] n x h e = absurd (cc)
at_place {X = X} P (y ∷ ys) zero x h e = let same : y ≡ x = cc in subst P same h.0
at_place P (y ∷ ys) (suc n) x h e = at_place P ys n x h.1 e

callable : (G : Ground) (u c : ℕ) (m : TypedMethod) → HasMethodUnit G.program.classes G.code.units u m → IsMethod G.program c m → IsCallable G u m
callable G u c m has typed = record {
  unit = has.unit;
  there = has.there;
  is = has.is;
  before = method_start c m;
  behind = typed.behind;
  typed = typed.body;
}

-- a method that a call has, and its unit
pub record HasMethod (G : Ground) (c n : ℕ) (m : TypedMethod) : Type 0 where
  pub unit : ℕ
  pub there : method_of G.code c n ≡ Some unit
  pub means : method_in (world G) c n ≡ Some m
  pub callable : IsCallable G unit m

pub method_code : (G : Ground) → IsGround G → (c n : ℕ) (m : TypedMethod) → IsMethodOf G.program.classes c n m → HasMethod G c n m
method_code G ok c n m is =
    let k : TypedClass = is.0 in
    let d = class_code G ok c k is.1 in
    let typed : IsMethod G.program c m =
    at_place (IsMethod G.program c) k.methods n m (recursion_from_All (IsMethod G.program c) k.methods (ok.typed.classes c k is.1).methods) is.2 in
    record {
      unit = d.class.methods + n;
      there = ap (λ (o : Option ClassCode). option_and_then (λ (e : ClassCode). Some (e.methods + n)) o) d.there;
      means = ap (λ (o : Option TypedClass). option_and_then (λ (e : TypedClass). slice_get e.methods n) o) is.1 ∙ is.2;
      callable = callable G (d.class.methods + n) c m (d.is.bodies n m is.2) typed;
    }

-- the constructor of a class, and its unit
pub record HasMaker (G : Ground) (c : ℕ) (m : TypedMethod) : Type 0 where
  pub unit : ℕ
  pub there : maker_of G.code c ≡ Some unit
  pub bare : m.result ≡ None
  pub callable : IsCallable G unit m

record MakerUnit (K : List TypedClass) (units : List CodeUnit) (r : Option ℕ) (m : TypedMethod) : Type 0 where
  unit : ℕ
  there : r ≡ Some unit
  is : HasMethodUnit K units unit m

maker_unit : (K : List TypedClass) (units : List CodeUnit) (n : ℕ) (o : Option TypedMethod) (r : Option ℕ) (m : TypedMethod) → o ≡ Some m → IsMakerCode K units n o r → MakerUnit K units r m
maker_unit K units n None r m e has = absurd (cc)
maker_unit K units n (Some k) None m e has = absurd has
maker_unit K units n (Some k) (Some u) m e has =
    let same : k ≡ m = cc in
    record {
      unit = u;
      there = refl;
      is = subst (λ (i : ℕ). HasMethodUnit K units i m) (sym has.0) (subst (HasMethodUnit K units n) same has.1);
    }

pub maker_code : (G : Ground) → IsGround G → (c : ℕ) (k : TypedClass) (m : TypedMethod) → slice_get G.program.classes c ≡ Some k → k.maker ≡ Some m → HasMaker G c m
maker_code G ok c k m is e =
    let d = class_code G ok c k is in
    let u = maker_unit G.program.classes G.code.units _ k.maker d.class.maker m e d.is.maker in
    let typed = (ok.typed.classes c k is).maker m e in
    record {
      unit = u.unit;
      there = ap (λ (o : Option ClassCode). option_and_then (λ (e : ClassCode). e.maker) o) d.there ∙ u.there;
      bare = typed.result;
      callable = callable G u.unit c m u.is typed.method;
    }
