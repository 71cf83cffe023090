use Rattle.script_checker.proofs.Settled.{ClaimLaws}
use Rattle.script_checker.proofs.Held.{ScriptLaws, items_held, bytes_held}
use Rattle.script_checker.proofs.laws.accepted_lines_hold_of_scripts.Goals as goal

pub returns-clause-items : goal.returns-clause-items
returns-clause-items c =
    let claims : ClaimLaws = record {
      inside = c.goals_are_enough.ensures.inside;
      zeros = c.goals_are_enough.ensures.zeros;
    } in
    let laws : ScriptLaws = record {
      claims = claims;
      hypotheses = c.hypotheses_hold.ensures.holds;
      hints = c.met_scripts.ensures.hints;
      rows = c.rows_are_true.ensures.rows;
    } in
    λ s t items lines ordered names few is acc.
    items_held laws s t ordered names few is c.accepted_lines_hold.ensures.script items lines acc

pub returns-clause-bytes : goal.returns-clause-bytes
returns-clause-bytes c =
    let claims : ClaimLaws = record {
      inside = c.goals_are_enough.ensures.inside;
      zeros = c.goals_are_enough.ensures.zeros;
    } in
    let laws : ScriptLaws = record {
      claims = claims;
      hypotheses = c.hypotheses_hold.ensures.holds;
      hints = c.met_scripts.ensures.hints;
      rows = c.rows_are_true.ensures.rows;
    } in
    λ s t p end ordered names few is comes.
    bytes_held laws s t ordered names few is c.accepted_lines_hold.ensures.bytes p end comes
