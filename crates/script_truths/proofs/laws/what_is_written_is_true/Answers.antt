use Rattle.facts.specs.Holds.{Holds}
use Rattle.script_claims.proofs.Facts.{facts_all}
use Rattle.script_claims.specs.Meets.{IsTrueAt}
use Rattle.script_truths.proofs.Rows.{checked_true, met_true}
use Rattle.script_truths.proofs.laws.what_is_written_is_true.Goals as goal

pub returns : goal.returns
returns c = record {
  facts = λ s a claims truth.
      facts_all (Holds s.nodes a) (IsTrueAt s.nodes a) (c.hypotheses_hold.ensures.holds s.nodes a)
      claims truth;
  checked = checked_true c.equal_forms_have_equal_values.ensures c.rows_are_true.ensures.equal
      c.rows_are_true.ensures.rows;
  met = met_true c.met_scripts.ensures.hints c.rows_are_true.ensures.rows;
}
