use Rattle.script_nodes.proofs.Entries.{value_sound}
use Rattle.script_nodes.proofs.reader.NodeReader.define_value.Goals as goal

pub invariant_of-self : goal.invariant_of-self
invariant_of-self c =
    value_sound _ c.args.self.now c.args.name.now c.args.value c.put.new.self c.put.result
    c.self.view_is c.requires c.put.ensures.names c.put.ensures.refused c.self.invariant
