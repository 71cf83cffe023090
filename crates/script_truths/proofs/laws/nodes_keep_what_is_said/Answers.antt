use Rattle.script_truths.proofs.Kept.{values_kept, facts_kept, lines_kept, claims_kept, rows_kept}
use Rattle.script_truths.proofs.laws.nodes_keep_what_is_said.Goals as goal

pub returns : goal.returns
returns c = record {
  values = values_kept c.values_stay.ensures;
  facts = facts_kept c.values_stay.ensures;
  lines = lines_kept c.values_stay.ensures;
  claims = claims_kept c.values_stay.ensures;
  rows = rows_kept c.values_stay.ensures;
}
