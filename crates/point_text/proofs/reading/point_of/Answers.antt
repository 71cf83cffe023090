use Rattle.point_text.proofs.Faults.{text_fault_told}
use Rattle.point_text.proofs.reading.point_of.Goals as goal

pub returns-in-Some-clause-fault : goal.returns-in-Some-clause-fault
returns-in-Some-clause-fault c = λ f e.
    text_fault_told c.args.script.now.variables c.args.text.now c.in-Some.fault f
    c.in-Some.ensures.some e
