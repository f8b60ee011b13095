use Rattle.std.proofs.Common.{◌≡◌, ◌+◌, ◌<◌, ◌≤◌, length, refl, sym, ap, ◌∙◌, arith, rules}
use Rattle.bc_data.specs.Lexical.{character_at, Whole, more, closed, unclosed, wrong}
use Rattle.bc_lex.specs.Pieces.{character_view}
use Rattle.bc_lex.proofs.Bytes.{whole_inside}
use Rattle.bc_lex.proofs.scan.literal.Goals.{In-Whole}
use Rattle.bc_lex.proofs.scan.literal.Goals as goal

is_whole : (c : In-Whole) → character_at c.args.text.now c.loop-len.i ≡ Whole c.in-Whole.len
is_whole c = sym c.character_at.ensures ∙ ap character_view c.in-Whole.is

inside : (c : In-Whole) → (0 < c.in-Whole.len) × (c.loop-len.i + c.in-Whole.len ≤ length c.args.text.now)
inside c = whole_inside c.args.text.now c.loop-len.i c.in-Whole.len (is_whole c)

pub overflow_add-i-in-Whole : goal.overflow_add-i-in-Whole
overflow_add-i-in-Whole c =
    let h = inside (goal.at.overflow_add-i-in-Whole c).In-Whole in
    search (rules, h)

pub loop-len-smaller : goal.loop-len-smaller
loop-len-smaller c =
    let h = inside (goal.at.loop-len-smaller c).In-Whole in
    omega (arith, h)

pub loop-len-preserved : goal.loop-len-preserved
loop-len-preserved c =
    let w = (goal.at.loop-len-preserved c).In-Whole in
    let h = inside w in
    record {
      low = omega (arith, h);
      high = h.1;
      onward = λ p rest. c.loop-len.invariant.onward p (more (is_whole w) rest);
    }

pub returns-in-Quote : goal.returns-in-Quote
returns-in-Quote c = c.loop-len.invariant.onward _ (closed (sym c.character_at.ensures ∙ ap character_view c.in-Quote.is) refl)

pub returns-in-Missing : goal.returns-in-Missing
returns-in-Missing c = c.loop-len.invariant.onward _ (unclosed (sym c.character_at.ensures ∙ ap character_view c.in-Missing.is) refl)

pub returns-in-Wrong : goal.returns-in-Wrong
returns-in-Wrong c = c.loop-len.invariant.onward _ (wrong (sym c.character_at.ensures ∙ ap character_view c.in-Wrong.is) refl)
