use Rattle.cert_bytes.specs.Pieces.{cursor_of}
use Rattle.script_checker.proofs.Settled.{ClaimLaws}
use Rattle.script_checker.proofs.Held.{ScriptLaws, checked_held, accepted_so}
use Rattle.script_checker.proofs.OneSubject.{few_goals, few_marks, count_for, marks_for, checks_for}
use Rattle.script_checker.proofs.OneSubject.{exact_for}
use Rattle.script_checker.proofs.check.check_script.Goals as goal

pub check_subject-requires-clause-countable : goal.check_subject-requires-clause-countable
check_subject-requires-clause-countable g c = record {
  goals = few_goals c.args.script.now _ c.in_ok-subject.ensures c.laws.ensures.goals;
  marks = few_marks c.args.script.now _ c.in_ok-subject.ensures c.laws.ensures.few;
}

pub returns-clause-of_told : goal.returns-clause-of_told
returns-clause-of_told g c = λ all h.
    let claims : ClaimLaws = record {
      inside = c.goals_are_enough.ensures.inside;
      zeros = c.goals_are_enough.ensures.zeros;
    } in
    let laws : ScriptLaws = record {
      claims = claims;
      hypotheses = c.hypotheses_hold.ensures.holds;
      hints = c.met_scripts.ensures.hints;
      rows = c.rows_are_true.ensures.rows;
    } in
    let s = c.args.script.now in
    let is = c.in_ok-subject.ensures in
    let place = cursor_of all c.args.reader.now.ahead in
    let answers = c.check_subject.ensures.of_told all h in
    record {
      checks = checks_for s _ is place c.check_subject.result answers.checks;
      exact = exact_for s _ is place c.check_subject.result answers.exact;
      accepts = λ bytes. accepted_so laws s _ c.laws.ensures.ordered c.laws.ensures.names
          c.laws.ensures.cases is all c.check_subject.result (answers.accepts bytes);
    }

pub returns-clause-holds : goal.returns-clause-holds
returns-clause-holds g c =
    let claims : ClaimLaws = record {
      inside = c.goals_are_enough.ensures.inside;
      zeros = c.goals_are_enough.ensures.zeros;
    } in
    let laws : ScriptLaws = record {
      claims = claims;
      hypotheses = c.hypotheses_hold.ensures.holds;
      hints = c.met_scripts.ensures.hints;
      rows = c.rows_are_true.ensures.rows;
    } in
    checked_held laws c.args.script.now _ c.laws.ensures.ordered
    c.laws.ensures.names c.laws.ensures.cases c.in_ok-subject.ensures c.check_subject.result
    c.check_subject.ensures.holds

pub returns-clause-count : goal.returns-clause-count
returns-clause-count g c =
    count_for c.args.script.now _ c.in_ok-subject.ensures c.check_subject.result
    c.check_subject.ensures.lines

pub returns-clause-marks : goal.returns-clause-marks
returns-clause-marks g c =
    marks_for c.args.script.now _ c.in_ok-subject.ensures c.check_subject.result
    c.check_subject.ensures.lines
