use Rattle.literal.proofs.Bodies.{no_zero, behind_two}
use Rattle.literal.proofs.scan.behind_opening.Goals as goal

pub returns-in_default : goal.returns-in_default
returns-in_default c = no_zero c.args.text.now c.in_default.ensures

pub returns : goal.returns
returns c = behind_two c.args.text.now c.in-Some.digits.now c.in-Some.ensures
    c.behind-2.result c.behind-2.ensures
