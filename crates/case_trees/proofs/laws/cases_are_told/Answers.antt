use Rattle.case_trees.proofs.Told.{first_of_all, none_open}
use Rattle.case_trees.proofs.laws.cases_are_told.Goals as goal

pub returns : goal.returns
returns c = record {
  first = first_of_all c.answers_are_told.ensures.first c.answers_are_told.ensures.none;
  none = none_open c.answers_are_told.ensures.none;
}
