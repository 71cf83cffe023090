use Rattle.std.proofs.Common.{reverse, ap}
use Rattle.script_nodes.specs.Known.{or_none}
use Rattle.script_nodes.specs.Waits.{Reading}
use Rattle.script_nodes.proofs.Entries.{operator_is, operator_range}
use Rattle.script_nodes.proofs.reader.NodeReader.operator.Goals as goal

pub returns-in-Some-clause-rounding : goal.returns-in-Some-clause-rounding
returns-in-Some-clause-rounding c = operator_is _ c.args.self.now c.args.name.now c.get.result
    c.in-Some.rounding c.self.view_is c.get.ensures (ap or_none c.in-Some.is)

pub returns-in-Some-clause-range : goal.returns-in-Some-clause-range
returns-in-Some-clause-range c =
    let r : Reading = record {
      known = record {
        nodes = c.self.inside.dag;
        variables = c.self.inside.variables;
        values = c.self.inside.values;
        operators = c.self.inside.operators;
      };
      waits = reverse c.self.inside.waits.items;
    } in
    operator_range r c.args.name.now c.get.result c.in-Some.rounding c.get.ensures
    c.in-Some.is c.self.invariant

pub returns-in-None-clause-rounding : goal.returns-in-None-clause-rounding
returns-in-None-clause-rounding c = operator_is _ c.args.self.now c.args.name.now c.get.result _
    c.self.view_is c.get.ensures (ap or_none c.in-None.is)
