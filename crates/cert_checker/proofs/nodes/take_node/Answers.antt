use Rattle.std.proofs.Common.{sym, subst}
use Rattle.cert_checker.specs.Own.{Agrees}
use Rattle.cert_checker.proofs.Own.{absent_next, agrees_next, placed_last}
use Rattle.cert_checker.proofs.nodes.take_node.Goals as goal

pub returns-in-Ok-clause-ok : goal.returns-in-Ok-clause-ok
returns-in-Ok-clause-ok c =
    let own = c.args.own.now in
    let old = c.args.nodes.now in
    let judged = c.in_ok-judge_node.ensures in
    let absent = absent_next own old c.args.variables c.args.node judged
    c.laws.ensures.distinct c.requires.agrees in
    let last = placed_last own old c.args.variables c.args.node judged c.add.new.self _ absent
    c.in-Ok.ensures.placed in (
      last,
      subst (Agrees own) (sym last)
          (agrees_next own old c.args.variables c.args.node judged c.requires.agrees),
    )
