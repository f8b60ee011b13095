use Rattle.bc_names.proofs.Spaces.{one_more}
use Rattle.bc_names.proofs.space.Space.add.Goals as goal

pub returns : goal.returns
returns c = one_more c.self.inside.names.keys c.insert.new.self.keys c.args.self.now c.args.name.now c.in_ok-name.name c.self.view_is c.requires.new c.in_ok-name.ensures.items c.in_ok-insert.ensures.keys
