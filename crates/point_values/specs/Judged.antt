-- What is judged, as a subject.
use Rattle.std.specs.Prelude.{List, map}
use Rattle.script_claims.specs.declared.claim.Claim.{Claim}
use Rattle.point_values.specs.declared.evaluation.Judged.{Judged}
use Rattle.point_values.specs.Evaluation.{Subject, subject_of}

-- the claims of each case
abbrev pub cases_in : Judged → List (List Claim)
cases_in j = map (λ case. case.items) j.cases.now

-- the subject of the evaluation
abbrev pub subject_in : Judged → Subject
subject_in j =
    subject_of j.dag.now j.hypotheses.now (cases_in j) j.goals.now j.hints.now j.marks.now
