use Rattle.settler.proofs.One.{one_case_is_all, proved_in_one}
use Rattle.settler.proofs.laws.one_case_is_all.Goals as goal

pub returns : goal.returns
returns c = record {
  comes = one_case_is_all c.cases_answer_once.ensures.one;
  proved = proved_in_one c.cases_answer_once.ensures.one;
}
