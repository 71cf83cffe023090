use Rattle.script_truths.proofs.Settled.{goals_true, lines_true}
use Rattle.script_truths.proofs.laws.goals_are_true.Goals as goal

pub returns : goal.returns
returns c = record {
  settled = goals_true c.goals_are_enough.ensures.inside c.goals_are_enough.ensures.zeros
      c.universes_extend.ensures c.nodes_keep_what_is_said.ensures.claims;
  lines = lines_true c.universes_extend.ensures c.nodes_keep_what_is_said.ensures.lines;
}
