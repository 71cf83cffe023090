use Rattle.std.specs.Prelude.{List}
use Rattle.std.proofs.Common.{subst}
use Rattle.fx_model.specs.declared.ExprId.{ExprId}
use Rattle.fx_model.specs.declared.Node.{Node}
use Rattle.expr_dag.specs.Nodes.{IsAt, IsLawful}
use Rattle.answer_certificates.proofs.room.script_has_room.Goals as goal

abbrev AreLawful : List Node → Type 0
AreLawful nodes = (x : ExprId) (n : Node) → IsAt nodes x n → IsLawful x.0 n

pub returns-clause-cases : goal.returns-clause-cases
returns-clause-cases c =
    let s = c.args.script.now in
    let u = c.args.universe.now in
    c.scripts_have_room.ensures.room s.text s c.requires.0 u c.laws.ensures.spelled
    (record {
      names = c.laws.ensures.names;
      ordered = c.laws.ensures.ordered;
      universe = c.requires.1;
      nodes = c.laws-2.ensures.ordered;
    })
    (record {
      whole = c.laws-2.ensures.universe;
      lawful = subst AreLawful c.dag.ensures c.laws-3.ensures.lawful;
      short = c.laws-2.ensures.short;
    })

pub returns-clause-slots : goal.returns-clause-slots
returns-clause-slots c =
    c.scripts_have_room.ensures.slots c.args.script.now c.requires.0 c.args.universe.now
    c.laws.ensures.names c.requires.1
