use Rattle.case_trees.proofs.Same.{once, one_is_all}
use Rattle.case_trees.proofs.laws.cases_answer_once.Goals as goal

pub returns : goal.returns
returns c = record { once = once c.one_answer.ensures; one = one_is_all }
