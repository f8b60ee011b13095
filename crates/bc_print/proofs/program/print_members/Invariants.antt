use Rattle.std.proofs.Common.{◌≡◌, ◌++◌, take}
use Rattle.std.specs.Prelude.{codes}
use Rattle.bc_data.specs.SourceTree.{Empty}
use Rattle.bc_data.specs.View.{onto_by, view_member}
use Rattle.bc_print.specs.Canonical.{each, member_text}
use Rattle.bc_print.proofs.program.print_members.Given as goal

abbrev pub invariant-loop-member : goal.invariant-loop-member
invariant-loop-member l = l.out ≡ l.fn.out ++ each (member_text (codes "  ")) (onto_by view_member (take l.member-index l.members) Empty)
