use Rattle.script_cases.proofs.Pushed.{item_marks, item_parts}
use Rattle.script_cases.proofs.parts.Parts.add.Goals as goal

pub invariant_of-self-2 : goal.invariant_of-self-2
invariant_of-self-2 g c =
    rw c.in_ok-push.ensures.items (item_marks _ _ _ c.self.invariant c.args.item)

pub returns-clause-added : goal.returns-clause-added
returns-clause-added g c = rw (c.in_ok-push.ensures.items, ← c.self.view_is)
    (item_parts _ _ _ c.self.invariant c.args.item)
