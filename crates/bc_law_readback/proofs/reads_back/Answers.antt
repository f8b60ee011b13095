use Rattle.bc_law_readback.proofs.Lexing.{parts_are_read}
use Rattle.bc_law_readback.proofs.Parted.{parts_are_apart}
use Rattle.bc_law_readback.proofs.PartedText.{program_written}
use Rattle.bc_law_readback.proofs.ReadBack.{read_back}
use Rattle.bc_law_readback.proofs.RegrownProgram.{kinds_are_tree}
use Rattle.bc_law_readback.proofs.reads_back.Goals as goal

pub returns : goal.returns
returns c = read_back parts_are_read program_written parts_are_apart kinds_are_tree
