use Rattle.script_nodes.proofs.Entries.{value_below}
use Rattle.script_nodes.proofs.reader.NodeReader.value.Goals as goal

pub returns-clause-below : goal.returns-clause-below
returns-clause-below c = value_below _ c.args.self.now c.args.name.now c.get.result c.self.view_is
    c.get.ensures c.self.invariant
