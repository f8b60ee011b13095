use Rattle.std.proofs.Common.{◌≡◌, ◌++◌, drop, false}
use Rattle.bc_data.specs.Seen.{meaning}
use Rattle.bc_parse_stat.proofs.print.meaning_of.Given as goal

abbrev pub invariant-loop-byte : goal.invariant-loop-byte
invariant-loop-byte l = l.meant ++ meaning l.escapes (drop l.byte-index l.bytes) ≡ meaning false l.bytes
