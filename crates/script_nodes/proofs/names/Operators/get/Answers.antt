use Rattle.std.proofs.Common.{◌∙◌}
use Rattle.script_nodes.proofs.Keys.{found_entry}
use Rattle.script_nodes.proofs.names.Operators.get.Goals as goal

pub returns : goal.returns
returns c = found_entry c.self.inside.names c.args.name c.args.self.now c.copied.result
    c.self.view_is (c.copied.ensures ∙ c.get.ensures.value)
