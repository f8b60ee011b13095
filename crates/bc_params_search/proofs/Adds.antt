-- How what is found grows.
use Rattle.std.proofs.Common.{◌≡◌, ◌≤◌, List, [], ◌++◌, length, take, sym, ap, ◌∙◌, subst, append_assoc, append-nil}
use Rattle.std.proofs.lemmas.List.{take_all}
use Rattle.bc_data.specs.declared.run.Invocation.{Invocation}
use Rattle.bc_params_search.specs.Search.{Sought, AreAll, Adds}
use Rattle.bc_params_search.proofs.Lists.{take_then, take_full}

-- what is picked
abbrev pub Pick : Type 0
Pick = List Invocation → List Invocation

pub adds_nothing : (s : Sought) (f : Pick) (old : List Invocation) → length old ≤ s.most → ((all : List Invocation) → AreAll s all → f all ≡ []) → Adds s f old old
adds_nothing s f old short h all is =
    sym (ap (λ l. take s.most (old ++ l)) (h all is) ∙ ap (take s.most) (append-nil old) ∙ take_all s.most old short)

pub adds_as : (s : Sought) (f g : Pick) (old new : List Invocation) → ((all : List Invocation) → AreAll s all → f all ≡ g all) → Adds s f old new → Adds s g old new
adds_as s f g old new h a all is = a all is ∙ ap (λ l. take s.most (old ++ l)) (h all is)

pub adds_then : (s : Sought) (f g : Pick) (old now new : List Invocation) → Adds s f old now → Adds s g now new → Adds s (λ all. f all ++ g all) old new
adds_then s f g old now new a b all is =
    b all is ∙ ap (λ l. take s.most (l ++ g all)) (a all is) ∙ take_then s.most (old ++ f all) (g all) ∙ ap (take s.most) (append_assoc old (f all) (g all))

pub adds_full : (s : Sought) (f g : Pick) (old now : List Invocation) → s.most ≤ length now → Adds s f old now → Adds s (λ all. f all ++ g all) old now
adds_full s f g old now full a all is =
    let e = a all is in
    let m : s.most ≤ length (take s.most (old ++ f all)) = subst (λ (l : List Invocation). s.most ≤ length l) e full in
    e ∙ sym (take_full s.most (old ++ f all) (g all) m) ∙ ap (take s.most) (append_assoc old (f all) (g all))
