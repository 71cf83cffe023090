use Rattle.std.proofs.Common.{rules, arith, ap, length, List, sym, subst}
use Rattle.facts.specs.declared.fact.Fact.{Fact}
use Rattle.rule_universe.specs.Worlds.{IsWhole}
use Rattle.rule_universe.proofs.universe.Universe.new.Goals as goal

pub invariant_of-result : goal.invariant_of-result
invariant_of-result c = (
  subst (λ (hypotheses : List Fact). IsWhole (record {
    nodes = c.args.nodes;
    pairs = c.args.pairs;
    goals = c.args.goals.items;
    hypotheses = hypotheses;
    hints = c.args.hints.items;
    instances = c.args.instances.items;
  })) (sym c.new-hypotheses.ensures.items) c.requires.whole,
  search rules,
  search rules,
  c.requires.few,
  search rules,
  search rules,
  λ k w. absurd (omega (arith, w.1, ap length c.new-order.ensures.items)),
)
