use Rattle.std.proofs.Common.{arith}
use Rattle.std.proofs.lemmas.Bool.Decides.{nat_tests}
use Rattle.bc_book_lists.proofs.CountReshaped.{count_reshaped}
use Rattle.bc_book_lists.proofs.count.is_crowded.Goals as goal

pub returns : goal.returns
returns c P S T reshaped reshapes typed fits all before behind =
    let n = count_reshaped P S T reshaped c.args.before.now c.args.behind.now reshapes typed fits before behind in
    grind (arith, nat_tests, n, all, c.requires.some, c.requires.few)
