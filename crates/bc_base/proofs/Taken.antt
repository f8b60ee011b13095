-- What a sink took in several writes, one behind the other.
use Rattle.std.proofs.Common.{◌≡◌, ℕ, ◌+◌, ◌-◌, List, [], ◌++◌, length, take, drop, refl, ap, sym, ◌∙◌, arith, append_assoc, append-nil, length-drop, length-append}
use Rattle.std.specs.Prelude.{Option, None, Some}
use Rattle.std.proofs.Math.Seq.{take-add, take-append-add}
use Rattle.std.proofs.lemmas.List.{take_all, take-append-le}
use Rattle.bc_base.specs.Outside.{Appends, AppendsPart, followed_by}

followed_by-twice : (told : Option (List ℕ)) (a b : List ℕ) → followed_by (followed_by told a) b ≡ followed_by told (a ++ b)
followed_by-twice None a b = refl
followed_by-twice (Some before) a b = ap Some (append_assoc before a b)

-- a sink that took nothing is as it was
pub Appends-nothing : (told : Option (List ℕ)) → Appends told told []
Appends-nothing None = refl
Appends-nothing (Some before) = ap Some (sym (append-nil before))

-- one text, and then another
pub Appends-twice : (old mid new : Option (List ℕ)) (a b : List ℕ) → Appends old mid a → Appends mid new b → Appends old new (a ++ b)
Appends-twice old mid new a b first second =
    second ∙ ap (λ told. followed_by told b) first ∙ followed_by-twice old a b

-- a part of one text is a part of that text and another behind it
pub AppendsPart-front : (old new : Option (List ℕ)) (a b : List ℕ) → AppendsPart old new a → AppendsPart old new (a ++ b)
AppendsPart-front old new a b (n, few, part) =
    (n, omega (arith, length-append a b), part ∙ ap (followed_by old) (sym (take-append-le n a b few)))

-- one text, and then a part of another
pub AppendsPart-behind : (old mid new : Option (List ℕ)) (a b : List ℕ) → Appends old mid a → AppendsPart mid new b → AppendsPart old new (a ++ b)
AppendsPart-behind old mid new a b first (n, few, part) =
    (length a + n, omega (arith, length-append a b), Appends-twice old mid new a (take n b) first part ∙ ap (followed_by old) (sym (take-append-add a b n)))

-- the first so many bytes of a text, and then the first so many of the rest
pub Appends-more : (old mid new : Option (List ℕ)) (text : List ℕ) (at n : ℕ) → Appends old mid (take at text) → Appends mid new (take n (take (length text - at) (drop at text))) → Appends old new (take (at + n) text)
Appends-more old mid new text at n first second =
    let rest : take (length text - at) (drop at text) ≡ drop at text = take_all (length text - at) (drop at text) (omega (arith, length-drop at text)) in
    let piece : Appends mid new (take n (drop at text)) = second ∙ ap (λ p. followed_by mid (take n p)) rest in
    Appends-twice old mid new (take at text) (take n (drop at text)) first piece ∙ ap (followed_by old) (sym (take-add at n text))
