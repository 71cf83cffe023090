use Rattle.point_values.specs.Known.{values_of}
use Rattle.point_values.specs.Judged.{cases_in}
use Rattle.point_values.proofs.CaseClaims.{narrow_cases}
use Rattle.point_values.proofs.evaluation.lines_of.Goals as goal

pub some_case_is_met-claims_hold-requires-clause-narrow :
    goal.some_case_is_met-claims_hold-requires-clause-narrow
some_case_is_met-claims_hold-requires-clause-narrow c =
    narrow_cases (values_of c.args.values.now) c.args.judged.now.hypotheses.now
    (cases_in c.args.judged.now) c.in_ok-put_hypotheses.ensures.narrow
    c.requires.can_evaluate.among
