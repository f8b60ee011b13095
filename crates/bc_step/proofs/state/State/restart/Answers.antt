use Rattle.std.proofs.Common.{◌∙◌, ap, sym}
use Rattle.std.specs.Prelude.{option_copied}
use Rattle.bc_step.proofs.state.State.restart.Goals as goal

pub unreachable-requires : goal.unreachable-requires
unreachable-requires c =
    let unit = c.requires.generated.translated.tasks c.args.v.task c.requires.task c.requires.there in
    let none = sym (ap option_copied c.in_default.is) ∙ c.get.ensures ∙ unit.1 in
    cc
