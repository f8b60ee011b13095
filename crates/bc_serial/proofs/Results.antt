-- What follows from a fact of one variant.
use Rattle.std.proofs.Common.{◌≡◌, Bool, true, sym, ◌∙◌}
use Rattle.std.specs.Prelude.{Result, Ok, Err, OnErr, OnOk, is_err}
use Rattle.std.proofs.lemmas.Bool.{false≢true}

pub on_err_from : {A E : Type 0} (r : Result A E) (P : Type 0) → P → OnErr r P
on_err_from (Ok x) P h = tt
on_err_from (Err e) P h = h

pub on_ok_more : {A E : Type 0} (r : Result A E) (P Q : Type 0) → (P → Q) → OnOk r P → OnOk r Q
on_ok_more (Ok x) P Q f h = f h
on_ok_more (Err e) P Q f h = tt

pub on_err_more : {A E : Type 0} (r : Result A E) (P Q : Type 0) → (P → Q) → OnErr r P → OnErr r Q
on_err_more (Ok x) P Q f h = tt
on_err_more (Err e) P Q f h = f h

-- at an error
pub at_err : {A E : Type 0} (r : Result A E) (test : Bool) (P : Type 0) → test ≡ is_err r → test ≡ true → OnErr r P → P
at_err (Ok x) test P is on h = absurd (false≢true (sym is ∙ on))
at_err (Err e) test P is on h = h
