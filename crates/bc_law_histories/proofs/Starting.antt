-- The store at the start fits.
use Rattle.std.proofs.Common.{◌≡◌, ℕ, ◌<◌, ◌≤◌, ◌^◌, List, [], ◌∷◌, length, refl, ap, sym, subst, arith, lit<, lit≤}
use Rattle.std.specs.Int.{w32}
use Rattle.std.specs.Prelude.{All, FitsSigned, get_or, pos}
use Rattle.std.proofs.lemmas.Int.{fits_signed_from_abs}
use Rattle.std.proofs.lemmas.List.{length-map}
use Rattle.std.proofs.lemmas.List.Elements.{All-cons, All-map, All-nil}
use Rattle.bc_data.specs.Startup.{startup_class}
use Rattle.bc_data.specs.Typed.{TypedClass, TypedProgram}
use Rattle.bc_data.specs.WellTyped.{IsWellTyped}
use Rattle.bc_data.specs.declared.program.Field.{Field}
use Rattle.bc_data.specs.declared.program.Shape.TheVariants as shape
use Rattle.bc_data.specs.declared.run.Body.{Body}
use Rattle.bc_data.specs.declared.run.Value.TheVariants as value
use Rattle.bc_mean.specs.declared.plain.Plain.{Plain}
use Rattle.bc_mean.specs.Store.{FitsAs, HasShape, HaveShapes, IsArray, IsObject, input_array, start_store, startup_object}
use Rattle.bc_law_soundness.proofs.Committed.{map_back}
use Rattle.bc_law_histories.specs.Laws.{StartFits}

byte_fits : (b : ℕ) → b < 256 → FitsSigned w32 (pos b)
byte_fits b h = fits_signed_from_abs w32 (pos b) (omega arith)

bytes_fit : (S : Plain) (input : List ℕ) → All (λ b. b < 256) input → length input ≤ 65536 → IsArray S shape.Int (input_array input)
bytes_fit S input bytes short = record {
  cells = All-map (HasShape S shape.Int) (λ b. value.Int (pos b)) input (λ k d l. byte_fits (get_or input k d) (bytes k d l));
  short = simp length-map short;
  flags = refl;
  tags = refl;
}

startup_fits : (P : TypedProgram) (input : List ℕ) → IsWellTyped P → IsObject P (start_store input) 0 startup_object
startup_fits P input well =
    record {
      class = startup_class;
      declared = well.startup;
      cells = ((input_array input, refl, refl), tt);
      flags = lit< tt;
      few_tags = lit≤ tt;
      present_tags = All-nil _;
      different_tags = λ i j d a b. absurd (omega arith);
    }

pub start_fits : StartFits
start_fits P input well bytes short =
    let fits : Body → Type 0 = λ b. FitsAs P (start_store input) b.kind b in
    record {
      bodies =
          All-cons fits startup_object (input_array input ∷ []) (startup_fits P input well)
          (All-cons fits (input_array input) [] (bytes_fit (start_store input) input bytes short) (All-nil fits));
      types = All-nil _;
      objects = lit≤ tt;
      cells = simp length-map (omega arith);
      instances = lit≤ tt;
      output = lit≤ tt;
    }
