use Rattle.std.proofs.Common.{reverse}
use Rattle.script_nodes.specs.Waits.{Reading}
use Rattle.script_nodes.proofs.Entries.{operator_sound}
use Rattle.script_nodes.proofs.reader.NodeReader.define_operator.Goals as goal

pub invariant_of-self : goal.invariant_of-self
invariant_of-self c =
    let r : Reading = record {
      known = record {
        nodes = c.self.inside.dag;
        variables = c.self.inside.variables;
        values = c.self.inside.values;
        operators = c.self.inside.operators;
      };
      waits = reverse c.self.inside.waits.items;
    } in
    operator_sound r c.args.name.now c.args.rounding c.put.new.self c.put.result c.requires
    c.put.ensures.names c.put.ensures.refused c.self.invariant
