use Rattle.std.proofs.Common.{subst, rules}
use Rattle.std.proofs.lemmas.Result.{on_ok_weaker}
use Rattle.std.proofs.lemmas.List.Sorted.{IsNonDecreasingBy-from_sort_by_key}
use Rattle.std.specs.Prelude.{◌↔◌}
use Rattle.pair_closure.specs.Reached.{Has}
use Rattle.pair_closure.specs.Closure.{Pair, rank}
use Rattle.pair_closure.proofs.PairSets.{once}
use Rattle.pair_closure.proofs.Ordered.{permuted, rising}
use Rattle.pair_closure.proofs.pairs.PairSet.sort.Goals as goal

pub invariant_of-self : goal.invariant_of-self
invariant_of-self c = once _ c.sort_by_key.ensures.unique

pub returns-clause-same : goal.returns-clause-same
returns-clause-same c =
    subst (λ l. (p : Pair) → Has c.sort_by_key.new.self.keys p ↔ Has l p) c.self.view_is
    (permuted c.self.inside.set.keys c.sort_by_key.new.self.keys c.sort_by_key.ensures.reordered.0)

pub returns-clause-rising : goal.returns-clause-rising
returns-clause-rising c =
    on_ok_weaker c.sort_by_key.result
    (λ s. rising c.sort_by_key.new.self.keys (λ p h. c.requires p ((returns-clause-same c p).0 h))
    (once _ c.sort_by_key.ensures.unique)
    (IsNonDecreasingBy-from_sort_by_key rank _ s (λ a r q k. search rules)))
    c.sort_by_key.ensures.sorted
