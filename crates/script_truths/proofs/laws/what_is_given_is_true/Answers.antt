use Rattle.script_truths.proofs.Beginnings.{claims_true, hypotheses_held, hints_true}
use Rattle.script_truths.proofs.laws.what_is_given_is_true.Goals as goal

pub returns : goal.returns
returns c = record {
  hypotheses = hypotheses_held c.universes_extend.ensures c.nodes_keep_what_is_said.ensures.claims
      c.hypotheses_hold.ensures.holds;
  hints = hints_true c.universes_extend.ensures c.nodes_keep_what_is_said.ensures.rows
      c.what_is_written_is_true.ensures.met;
  whole_box = λ s claims u a is meets truth depth.
      c.hypotheses_are_in_the_box.ensures u.nodes a claims s.hints depth (claims_true
      c.universes_extend.ensures c.nodes_keep_what_is_said.ensures.claims s claims u a is truth);
}
