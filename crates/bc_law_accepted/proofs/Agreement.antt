-- What the names of a text mean agrees with the classes of the program that it is.
use Rattle.std.proofs.Common.{◌≡◌, ℕ, ◌<◌, List, length, Some, slice_get}
use Rattle.std.specs.Prelude.{map, option_map}
use Rattle.bc_data.specs.declared.program.Shape.{Shape}
use Rattle.bc_data.specs.Typed.{TypedMethod, TypedClass}
use Rattle.bc_data.specs.TypedBodies.{IsField, IsMethodOf, maker_shapes}
use Rattle.bc_types_rules.specs.Context.{ValueType, Known, Signature, Names}

pub record Agrees (N : Names) (K : List TypedClass) (tag_types : ℕ) : Type 0 where
  pub class : (name : List ℕ) (c : ℕ) → N.class_of name ≡ Some c → c < length K
  pub flag : (c : ℕ) (name : List ℕ) (f : ℕ) → N.flag_of c name ≡ Some f → (k : TypedClass) × (slice_get K c ≡ Some k) × (f < length k.flags)
  pub field :
      (c : ℕ) (name : List ℕ) (f : ℕ) (t : ValueType) → N.field_of c name ≡ Some (record { field = f; type = t })
      → (sh : Shape) × (t ≡ Known sh) × IsField K c f sh
  pub method :
      (c : ℕ) (name : List ℕ) (n : ℕ) (sig : Signature) → N.method_of c name ≡ Some (record { method = n; signature = sig })
      → (m : TypedMethod) × IsMethodOf K c n m × (sig.formals ≡ map Known m.formals) × (sig.result ≡ option_map Known m.result)
  pub maker : (c : ℕ) (k : TypedClass) → slice_get K c ≡ Some k → N.maker_formals c ≡ map Known (maker_shapes k.maker)
  pub tag_type : (name : List ℕ) (t : ℕ) → N.tag_type_of name ≡ Some t → t < tag_types
