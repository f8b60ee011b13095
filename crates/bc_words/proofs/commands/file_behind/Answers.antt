use Rattle.std.proofs.Common.{◌≡◌, ◌∷◌, [], length, ap, sym, ◌∙◌, arith}
use Rattle.std.specs.Cmp.Lexicographic.{same_text}
use Rattle.bc_words.proofs.Commanding.{two}
use Rattle.bc_words.proofs.commands.file_behind.Goals as goal

pub returns-then-eq-clause-yes : goal.returns-then-eq-clause-yes
returns-then-eq-clause-yes c =
    let long : length c.args.words.now ≡ 2 = omega arith in
    let name : c.command-item.result ≡ c.args.name.now = sym c.as_slice.ensures ∙ same_text _ _ (sym c.if-eq.true ∙ c.eq.ensures) in
    two c.args.words.now c.command-item.result c.file-item.result long c.command-item.is c.file-item.is
    ∙ ap (λ w. w ∷ c.file-item.result ∷ []) name
    ∙ ap (λ w. c.args.name.now ∷ w ∷ []) (sym c.as_slice-then-eq.ensures)
