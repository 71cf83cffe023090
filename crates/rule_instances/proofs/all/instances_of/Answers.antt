use Rattle.std.proofs.Common.{sym, ◌∙◌, subst}
use Rattle.pair_closure.specs.Reached.{Has, IsListOf}
use Rattle.pair_closure.proofs.RowLaws.{seconds_has, seconds_once}
use Rattle.rule_instances.specs.Instances.{IsInstance}
use Rattle.rule_instances.proofs.Behind.{all_behind}
use Rattle.rule_instances.proofs.Whole.{all_listed}
use Rattle.rule_instances.proofs.SidesKnown.{sides_known}
use Rattle.rule_instances.proofs.all.instances_of.Goals as goal

pub returns-clause-order : goal.returns-clause-order
returns-clause-order c =
    c.into_vec.ensures
    ∙ all_behind c.args.nodes.now c.args.pairs.now c.args.hints.now
    c.new-rows.result c.add_nodes.new.rows c.add_differences.new.rows c.add_pairs.new.rows
    c.add_hints.new.rows c.new-rows.ensures
    c.in_ok-add_nodes.ensures c.in_ok-add_differences.ensures c.in_ok-add_pairs.ensures
    c.in_ok-add_hints.ensures

pub returns-clause-exactly : goal.returns-clause-exactly
returns-clause-exactly c =
    subst (IsListOf (IsInstance c.args.nodes.now (Has c.args.pairs.now) c.args.hints.now))
    (sym (returns-clause-order c))
    (all_listed c.args.nodes.now c.args.pairs.now c.laws.ensures.number c.laws-2.ensures
    c.requires.known (seconds_has c.args.pairs.now) (λ a. seconds_once c.args.pairs.now a
    c.laws-2.ensures) (sides_known c.args.nodes.now c.laws.ensures.ordered) c.args.hints.now)
