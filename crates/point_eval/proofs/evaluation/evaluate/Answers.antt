use Rattle.point_values.specs.Rows.{assignment_of}
use Rattle.point_eval.proofs.Lasting.{met_answer, missed_answer}
use Rattle.point_eval.proofs.evaluation.evaluate.Goals as goal

pub returns-clause-met : goal.returns-clause-met
returns-clause-met c = met_answer c.args.script.now c.args.marks.now
    (assignment_of c.args.point.now.rows) c.evaluate_cases.result
    (c.meeting_is_told.ensures c.args.script.now c.args.marks.now _ c.requires.marks)
    c.evaluate_cases.ensures.text

pub returns-clause-missed : goal.returns-clause-missed
returns-clause-missed c = missed_answer c.args.script.now c.args.marks.now
    (assignment_of c.args.point.now.rows) c.evaluate_cases.result
    (c.meeting_is_told.ensures c.args.script.now c.args.marks.now _ c.requires.marks)
    c.evaluate_cases.ensures.text
