use Rattle.std.proofs.Common.{◌≡◌, ◌≤◌, length, sym, arith, subst, length-take, length-drop}
use Rattle.bc_data.specs.Lexical.{BadByte, OpenComment, OpenText, NumberRange, Tokens, Lexes}
use Rattle.bc_lex.proofs.Onward.{Onward, onward_gap, onward_token, onward_end, onward_fault, place_from}
use Rattle.bc_lex.proofs.lexer.tokens.Goals.{After-place_behind-at, in-Gap, in-Lexeme+in_ok-push-in-Lexeme}
use Rattle.bc_lex.proofs.lexer.tokens.Goals as goal

pub returns-in-BadByte : goal.returns-in-BadByte
returns-in-BadByte c =
    let low : c.loop-i.i ≤ c.in-BadByte.offset = c.in-BadByte.ensures.inside.0 in
    onward_fault c.args.text.now c.loop-i.i c.in-BadByte.offset BadByte c.place_behind.result c.loop-i.tokens c.in-BadByte.ensures.piece
    (place_from c.args.text.now c.loop-i.i c.in-BadByte.offset c.loop-i.at c.place_behind.result low c.loop-i.invariant.place c.place_behind.ensures.place) c.loop-i.invariant.onward

pub returns-in-OpenComment : goal.returns-in-OpenComment
returns-in-OpenComment c = onward_fault c.args.text.now c.loop-i.i c.loop-i.i OpenComment c.loop-i.at c.loop-i.tokens c.in-OpenComment.ensures.piece c.loop-i.invariant.place c.loop-i.invariant.onward

pub returns-in-OpenText : goal.returns-in-OpenText
returns-in-OpenText c = onward_fault c.args.text.now c.loop-i.i c.loop-i.i OpenText c.loop-i.at c.loop-i.tokens c.in-OpenText.ensures.piece c.loop-i.invariant.place c.loop-i.invariant.onward

pub returns-in-NumberRange : goal.returns-in-NumberRange
returns-in-NumberRange c = onward_fault c.args.text.now c.loop-i.i c.loop-i.i NumberRange c.loop-i.at c.loop-i.tokens c.in-NumberRange.ensures.piece c.loop-i.invariant.place c.loop-i.invariant.onward

cut : (c : After-place_behind-at) → (c.loop-i.i ≤ c.match-piece_at.end) × (c.match-piece_at.end ≤ length c.args.text.now) × Onward c.args.text.now c.match-piece_at.end c.match-piece_at.tokens
cut c = elim c.match-piece_at.branch [
  | in-Gap w ↦ rw (w.end-is, w.tokens-is) (omega (arith, w.in-Gap.ensures.inside.0), w.in-Gap.ensures.inside.1, onward_gap c.args.text.now c.loop-i.i w.in-Gap.end c.loop-i.tokens w.in-Gap.ensures.piece c.loop-i.invariant.onward)
  | in-Lexeme+in_ok-push-in-Lexeme w ↦ rw (w.end-is, w.tokens-is, w.in_ok-push-in-Lexeme.ensures.ok) (omega (arith, w.in-Lexeme.ensures.inside.0), w.in-Lexeme.ensures.inside.1, onward_token c.args.text.now c.loop-i.i w.in-Lexeme.end w.in-Lexeme.kind c.loop-i.at c.loop-i.tokens w.in-Lexeme.ensures.piece c.loop-i.invariant.place c.loop-i.invariant.onward)
]

pub loop-i-preserved : goal.loop-i-preserved
loop-i-preserved c =
    let h = cut c in
    let low : c.loop-i.i ≤ c.match-piece_at.end = h.0 in
    let high : c.match-piece_at.end ≤ length c.args.text.now = h.1 in
    record {
      high = high;
      place = place_from c.args.text.now c.loop-i.i c.match-piece_at.end c.loop-i.at c.place_behind-at.result low c.loop-i.invariant.place c.place_behind-at.ensures.place;
      line = omega (arith, simp (length-take, length-drop) at c.place_behind-at.ensures.line);
      column = omega (arith, simp (length-take, length-drop) at c.place_behind-at.ensures.column);
      onward = h.2;
    }

pub returns : goal.returns
returns c =
    let whole : c.loop-i.i ≡ length c.args.text.now = omega arith in
    let pushed = c.in_ok-push.ensures.ok in
    subst (λ ts. Lexes c.args.text.now 0 (Tokens ts)) (sym pushed) (onward_end c.args.text.now c.loop-i.i c.loop-i.at c.loop-i.tokens whole c.loop-i.invariant.place c.loop-i.invariant.onward)
