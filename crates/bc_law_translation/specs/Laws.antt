-- A program has one translation, and one listing, as facts that contracts name.
use Rattle.std.specs.Prelude.{◌≡◌}
use Rattle.bc_data.specs.Typed.{TypedProgram}
use Rattle.bc_code.specs.declared.code.Code.{Code}
use Rattle.bc_code.specs.Listing.{listing_text}
use Rattle.bc_code.specs.Translation.{Translates}

-- Whatever translates a program is the same code.
abbrev pub OneTranslation : Type 0
OneTranslation = (P : TypedProgram) (c d : Code) → Translates P c → Translates P d → c ≡ d

-- Whichever translation of a program is listed, and wherever the program lies in memory, the listing is the same.
abbrev pub OneListing : Type 0
OneListing =
    (P : TypedProgram) (c d : Code) → Translates P c → Translates P d → listing_text P c ≡ listing_text P d
