use Rattle.point_text.proofs.Answered.{answered_by}
use Rattle.point_text.proofs.reading.read_point.Goals as goal

pub returns-clause-answered : goal.returns-clause-answered
returns-clause-answered c = answered_by c.reads_literals.ensures c.lexed_once.ensures
    c.args.script.now.variables c.args.text.now c.point_of.result c.point_of.ensures.spelled
    c.point_of.ensures.fault
