use Rattle.std.proofs.Common.{◌<◌, ap, subst, reverse, length}
use Rattle.script_nodes.specs.Known.{put}
use Rattle.script_nodes.specs.Waits.{Reading}
use Rattle.script_nodes.proofs.Sounds.{added_sound, added_put}
use Rattle.script_nodes.proofs.VariableJoins.{full_grows}
use Rattle.script_nodes.proofs.reader.NodeReader.add.Goals as goal

pub invariant_of-self : goal.invariant_of-self
invariant_of-self c =
    let r : Reading = record {
      known = record {
        nodes = c.self.inside.dag;
        variables = c.self.inside.variables;
        values = c.self.inside.values;
        operators = c.self.inside.operators;
      };
      waits = reverse c.self.inside.waits.items;
    } in
    added_sound r c.args.node c.add.new.self c.add.result c.requires.made c.add.ensures.placed
    c.add.ensures.refused c.self.invariant

pub returns-clause-put : goal.returns-clause-put
returns-clause-put c = added_put _ c.args.node c.add.new.self c.args.self.now.known c.add.result
    (ap (λ (r : Reading). r.known) c.self.view_is) c.add.ensures.computes

pub returns-clause-full : goal.returns-clause-full
returns-clause-full c = λ e.
    subst (λ (r : Reading). 1024 < length (put r.known c.args.node).0.nodes) c.self.view_is
    (full_grows _ c.args.node (λ x p. (c.laws.ensures.number x c.args.node).0 p)
    (c.add.ensures.full.0 e))
