-- `is_among` says whether a pair stands in a list.
use Rattle.std.specs.Prelude.{◌≡◌, ◌==◌, ◌&&◌, ℕ, true, List}
use Rattle.std.proofs.Common.{◌∙◌}
use Rattle.std.proofs.lemmas.Option.{slice_get_within, get_or_from_slice_get}
use Rattle.std.proofs.lemmas.List.Folds.{list_any_at}
use Rattle.std.proofs.lemmas.Bool.{and_parts}
use Rattle.indexmap.proofs.CallerLemmas.{Contains-list_any}
use Rattle.fx_model.specs.contracts.ExprIdPartialEq.TheImpl as id_eq
use Rattle.expr_dag.proofs.Same.{same_id}
use Rattle.pair_closure.specs.Closure.{Pair}
use Rattle.pair_closure.specs.Reached.{Has}
use Rattle.pair_closure.proofs.Members.{has_from_contains}
use Rattle.pair_closure.specs.Among.{same_pair, is_among}

pub exact : (p q : Pair) → same_pair p q ≡ true → p ≡ q
exact p q h =
    let f = and_parts ((id_eq.ghosts).eq p.0 q.0) ((id_eq.ghosts).eq p.1 q.1) h in
    let a = same_id p.0 q.0 f.0 in
    let b = same_id p.1 q.1 f.1 in
    (λ i. (a i, b i))

self_id : (n : ℕ) → (n == n) ≡ true
self_id n = search (Rattle.std.proofs.Common.rules)

pub itself : (p : Pair) → same_pair p p ≡ true
itself p = (λ i. self_id (p.0).0 i && self_id (p.1).0 i)

pub among_out : (ps : List Pair) (p : Pair) → is_among ps p ≡ true → Has ps p
among_out ps p e = has_from_contains ps p (Contains-list_any same_pair exact ps p e)

pub among_in : (ps : List Pair) (p : Pair) → Has ps p → is_among ps p ≡ true
among_in ps p h = list_any_at (same_pair p) ps h.0 p (slice_get_within ps h.0 p h.1)
    ((λ j. same_pair p (get_or_from_slice_get ps h.0 p p h.1 j)) ∙ itself p)
