use Rattle.script_cases.proofs.Pushed.{conjunction_marks, conjunction_parts}
use Rattle.script_cases.proofs.Lengths.{long}
use Rattle.script_cases.proofs.parts.Parts.end_conjunction.Goals as goal

pub invariant_of-self-2 : goal.invariant_of-self-2
invariant_of-self-2 g c = rw (c.in_ok-push.ensures.items, c.len.ensures, long c.self.inside.items)
    (conjunction_marks _ _ _ c.self.invariant)

pub returns-clause-ended : goal.returns-clause-ended
returns-clause-ended g c =
    rw (c.in_ok-push.ensures.items, c.len.ensures, long c.self.inside.items, ← c.self.view_is)
    (conjunction_parts _ _ _ c.self.invariant)
