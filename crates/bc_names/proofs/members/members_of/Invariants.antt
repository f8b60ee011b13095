use Rattle.std.proofs.Common.{◌≡◌, take}
use Rattle.bc_data.specs.SourceTree.{Empty}
use Rattle.bc_data.specs.View.{onto_by, view_member}
use Rattle.bc_types_rules.specs.Got.{Gives}
use Rattle.bc_types_rules.specs.Numbering.{declare_member, no_members, try_fold}
use Rattle.bc_names.proofs.members.members_of.Given as goal

abbrev pub invariant-loop-member : goal.invariant-loop-member
invariant-loop-member l = try_fold declare_member no_members (onto_by view_member (take l.member-index l.members) Empty) ≡ Gives l.declared
