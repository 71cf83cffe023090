use Rattle.point_eval.proofs.Marked.{meets_told}
use Rattle.point_eval.proofs.laws.meeting_is_told.Goals as goal

pub returns : goal.returns
returns c = meets_told c.tests_are_told.ensures.claims c.tests_are_told.ensures.hints
