use Rattle.script_nodes.proofs.Keys.{index_of_key}
use Rattle.script_nodes.proofs.names.Variables.place.Goals as goal

pub returns : goal.returns
returns c = index_of_key c.self.inside.names.keys c.args.name c.args.self.now
    c.get_index_of.result c.self.view_is c.get_index_of.ensures.index
