-- Parts that stand apart, and what may follow them.
use Rattle.std.proofs.Common.{List, [], ◌∷◌, ◌++◌, not, IsTrue, refl, append_assoc}
use Rattle.std.proofs.lemmas.List.{append-nil}
use Rattle.bc_data.specs.SourceTree.{Sequence, Empty, More}
use Rattle.bc_data.specs.Seen.{Lexeme, Keyword, Name, Text, Mark}
use Rattle.bc_data.specs.declared.token.Sign.{Sign}
use Rattle.bc_data.specs.declared.token.Sign.TheVariants as sign
use Rattle.bc_data.specs.declared.token.Word.{Word}
use Rattle.bc_data.specs.declared.tree.Named.{Named}
use Rattle.bc_law_readback.specs.Parts.{Part, Token, Space, is_word_like, begins_equal, may_touch, may_follow, AreApart, mark, keyword, name, space, each_parts, ended_parts, joined_parts}

-- what may stand right behind a part: anything, all but a word, all but `=` and `==`, or a space alone
pub data Ending : Type 0 where
  Anything : Ending
  NoWord : Ending
  NoEquals : Ending
  OnlySpace : Ending

abbrev pub mark_ending : Sign → Ending
mark_ending sign.Bang = NoEquals
mark_ending sign.Colon = OnlySpace
mark_ending sign.Equals = OnlySpace
mark_ending sign.Less = OnlySpace
mark_ending sign.More = OnlySpace
mark_ending sign.Slash = OnlySpace
mark_ending _ = Anything

abbrev pub ending : Part → Ending
ending (Token (Mark s)) = mark_ending s
ending (Token (Text meaning)) = Anything
ending (Token _) = NoWord
ending _ = Anything

-- parts that may follow an ending
abbrev pub Follows : Ending → List Part → Type 0
Follows Anything parts = Unit {0}
Follows NoWord (Token y ∷ ps) = IsTrue (not (is_word_like y))
Follows NoWord (p ∷ ps) = Unit {0}
Follows NoEquals (Token y ∷ ps) = IsTrue (not (begins_equal y))
Follows NoEquals (p ∷ ps) = Unit {0}
Follows OnlySpace (Space ∷ ps) = Unit {0}
Follows _ _ = ⊥

-- only the first part counts
pub follows_append : (e : Ending) (ys rest : List Part) → Follows e ys → Follows e (ys ++ rest)
follows_append Anything ys rest h = tt
follows_append NoWord (Token y ∷ ps) rest h = h
follows_append NoEquals (Token y ∷ ps) rest h = h
follows_append NoWord (p ∷ ps) rest h = tt
follows_append NoEquals (p ∷ ps) rest h = tt
follows_append OnlySpace (Space ∷ ps) rest h = tt
follows_append e ys rest h = absurd h

mark_touches : (s : Sign) (y : Lexeme) (qs : List Part) → Follows (mark_ending s) (Token y ∷ qs) → IsTrue (may_touch (Mark s) y)
mark_touches sign.Bang y qs h = h
mark_touches sign.Colon y qs h = absurd h
mark_touches sign.Equals y qs h = absurd h
mark_touches sign.Less y qs h = absurd h
mark_touches sign.More y qs h = absurd h
mark_touches sign.Slash y qs h = absurd h
mark_touches _ y qs h = refl

-- what may follow a part's ending may follow the part
touches : (p q : Part) (qs : List Part) → Follows (ending p) (q ∷ qs) → IsTrue (may_follow p q)
touches (Token (Mark s)) (Token y) qs h = mark_touches s y qs h
touches (Token (Text meaning)) (Token y) qs h = refl
touches (Token x) (Token y) qs h = h
touches p q qs h = refl

-- the parts stand apart, and before what may follow their ending
pub record IsApart (e : Ending) (parts : List Part) : Type 0 where
  pub apart : (rest : List Part) → Follows e rest → AreApart rest → AreApart (parts ++ rest)

pub empty : {e : Ending} → IsApart e []
empty = record { apart = λ rest f a. a }

one_apart : (p : Part) (rest : List Part) → Follows (ending p) rest → AreApart rest → AreApart (p ∷ rest)
one_apart p [] f a = tt
one_apart p (q ∷ qs) f a = (touches p q qs f, a)

-- One part, and parts behind parts.
pub one : (p : Part) → IsApart (ending p) (p ∷ [])
one p = record { apart = one_apart p }

pub mark_end : (s : Sign) → IsApart (mark_ending s) (mark s)
mark_end s = one (Token (Mark s))

pub word_end : (w : Word) → IsApart NoWord (keyword w)
word_end w = one (Token (Keyword w))

pub name_end : (x : Named) → IsApart NoWord (name x)
name_end x = one (Token (Name x.name))

pub space_end : IsApart Anything space
space_end = one Space

spaced_apart : (x : Lexeme) (rest : List Part) → Follows OnlySpace rest → AreApart rest → AreApart (Token x ∷ rest)
spaced_apart x (Space ∷ qs) f a = (refl, a)
spaced_apart x _ f a = absurd f

-- a space may follow any token
pub spaced : (x : Lexeme) → IsApart OnlySpace (Token x ∷ [])
spaced x = record { apart = spaced_apart x }

-- what ends so that anything may follow ends as any
pub loose : {e : Ending} {parts : List Part} → IsApart Anything parts → IsApart e parts
loose h = record { apart = λ rest f a. h.apart rest tt a }

pub join : {e f : Ending} {xs ys : List Part} → IsApart e xs → IsApart f ys → Follows e ys → IsApart f (xs ++ ys)
join {e} {f} {xs} {ys} h k next = record { apart = λ rest g a. rw append_assoc (h.apart (ys ++ rest) (follows_append e ys rest next) (k.apart rest g a)) }

-- parts with nothing behind them
pub whole : (parts : List Part) → IsApart Anything parts → AreApart parts
whole parts h = rw append-nil at (h.apart [] tt tt)

-- lists of parts
module _ {A : Type 0} (parts : A → List Part) where
  pub each_apart : ((x : A) → IsApart Anything (parts x)) → (s : Sequence A) → IsApart Anything (each_parts parts s)
  each_apart h Empty = empty
  each_apart h (More front last) = join (each_apart h front) (h last) tt

  pub ended_apart : ((x : A) → IsApart NoWord (parts x)) → (separator : List Part) → IsApart Anything separator → Follows NoWord separator → (s : Sequence A) → IsApart Anything (ended_parts parts separator s)
  ended_apart h separator k next Empty = empty
  ended_apart h separator k next (More front last) = join (join (ended_apart h separator k next front) (h last) tt) k next

  pub joined_apart : ((x : A) → IsApart NoWord (parts x)) → (separator : List Part) → IsApart Anything separator → Follows NoWord separator → (s : Sequence A) → IsApart NoWord (joined_parts parts separator s)
  joined_apart h separator k next Empty = empty
  joined_apart h separator k next (More front last) = join (ended_apart h separator k next front) (h last) tt
