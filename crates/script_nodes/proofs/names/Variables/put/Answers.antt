use Rattle.script_nodes.proofs.Keys.{put_key, place_of_key}
use Rattle.script_nodes.proofs.names.Variables.put.Goals as goal

pub returns-clause-names : goal.returns-clause-names
returns-clause-names c =
    put_key _ _ c.args.name c.args.self.now c.self.view_is c.in_ok-place.ensures.keys

pub returns-clause-place : goal.returns-clause-place
returns-clause-place c = place_of_key _ c.args.name c.args.self.now c.in_ok-place.place
    c.self.view_is c.in_ok-place.ensures.index
