-- When each answer that is no tree comes. Want of memory alone is free.
use Rattle.std.specs.Prelude.{List}
use Rattle.bc_data.specs.Seen.{Seen}
use Rattle.bc_data.specs.Refusal.{IsUnexpected, IsTooDeep}
use Rattle.bc_parse.specs.declared.ParseFault.{ParseFault}
use Rattle.bc_parse.specs.declared.ParseFault.TheVariants as fault

abbrev pub IsFault : ParseFault → List Seen → Type 0
IsFault (fault.Unexpected at) tokens = IsUnexpected 64 tokens at
IsFault (fault.TooDeep at) tokens = IsTooDeep 64 tokens at
IsFault fault.Memory tokens = Unit {0}
