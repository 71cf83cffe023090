-- A script has one universe.
use Rattle.std.specs.Prelude.{◌≡◌}
use Rattle.std.proofs.Common.{sym, ◌∙◌}
use Rattle.pair_closure.specs.Closure.{ClosuresAreOne}
use Rattle.rule_instances.specs.InOrder.{instance_list}
use Rattle.rewrite_hints.proofs.MarksLaws.{rows_are_one}
use Rattle.universe.specs.Starts.{starting_pairs}
use Rattle.universe.specs.Universes.{UniversesAreOne}

pub universes_are_one : ClosuresAreOne → UniversesAreOne
universes_are_one closures s claims u v a b =
    let both = closures s.nodes
    (starting_pairs s) u.nodes v.nodes u.pairs v.pairs a.closure b.closure in
    let nodes : u.nodes ≡ v.nodes = both.0 in
    let pairs : u.pairs ≡ v.pairs = both.1 in
    let goals : u.goals ≡ v.goals = a.goals ∙ sym b.goals in
    let hypotheses : u.hypotheses ≡ v.hypotheses = a.hypotheses ∙ sym b.hypotheses in
    let hints : u.hints ≡ v.hints =
    rows_are_one s.nodes s.hints.rewrites u.hints v.hints a.hints b.hints in
    let instances : u.instances ≡ v.instances =
    a.order ∙ (λ i. instance_list (nodes i) (pairs i) (hints i)) ∙ sym b.order in
    (λ i. record {
      nodes = nodes i;
      pairs = pairs i;
      goals = goals i;
      hypotheses = hypotheses i;
      hints = hints i;
      instances = instances i;
    })
