use Rattle.script_nodes.proofs.Keys.{put_entry}
use Rattle.script_nodes.proofs.names.Operators.put.Goals as goal

pub returns-clause-names : goal.returns-clause-names
returns-clause-names c = put_entry _ _ c.args.name c.args.rounding c.args.self.now c.self.view_is
    c.in_ok-insert.ensures.entries
