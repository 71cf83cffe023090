use Rattle.script_nodes.proofs.Keys.{kept_keys}
use Rattle.script_nodes.proofs.names.Variables.truncate.Goals as goal

pub returns : goal.returns
returns c = kept_keys _ _ c.args.len c.args.self.now c.self.view_is c.truncate.ensures.keys
