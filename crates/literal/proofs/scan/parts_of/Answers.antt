use Rattle.literal.proofs.Bodies.{finds_hexadecimal, finds_plain}
use Rattle.literal.proofs.scan.parts_of.Goals as goal

pub returns-in-Some : goal.returns-in-Some
returns-in-Some c = finds_hexadecimal c.args.text.now c.in-Some.rest.now c.body.result
    c.in-Some.ensures c.body.ensures

pub returns-in-None : goal.returns-in-None
returns-in-None c =
    finds_plain c.args.text.now c.body-in-None.result c.in-None.ensures c.body-in-None.ensures
