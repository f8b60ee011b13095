-- The four statements give the law.
use Rattle.std.proofs.Common.{◌≡◌, List, sym, subst}
use Rattle.bc_data.specs.SourceTree.{Sequence, Item}
use Rattle.bc_data.specs.Lexical.{AreTokensOf}
use Rattle.bc_data.specs.Refusal.{IsTreeOf}
use Rattle.bc_data.specs.Seen.{seen}
use Rattle.bc_data.specs.declared.token.Token.{Token}
use Rattle.bc_print.specs.Laws.{unplaced, IsReadBack}
use Rattle.bc_law_readback.specs.Parts.{written, program_parts}
use Rattle.bc_law_readback.specs.Steps.{PartsAreRead, TextIsParts, PartsAreApart, KindsAreTree}

pub read_back : PartsAreRead → TextIsParts → PartsAreApart → KindsAreTree → IsReadBack
read_back parts_are_read text_is_parts parts_are_apart kinds_are_tree n items source tokens lexed tree =
    let parts = program_parts items in
    let (stand, spelled) = parts_are_apart n items source tokens lexed tree in
    let (new, lexes, same) = parts_are_read parts stand spelled in
    let (again, is_tree, u) = kinds_are_tree n items (seen source tokens) (seen (written parts) new) tree same in
    subst (λ text. (again : Sequence Item) × (ts : List Token) × AreTokensOf text ts × IsTreeOf n again (seen text ts) × (unplaced again ≡ unplaced items)) (sym (text_is_parts items)) (again, new, lexes, is_tree, u)
