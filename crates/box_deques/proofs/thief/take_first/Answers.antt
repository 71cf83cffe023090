use Rattle.std.proofs.Common.{ap, ◌∙◌, min}
use Rattle.crossbeam_deque.specs.Handles.{view}
use Rattle.box_deques.proofs.Steps.{takes, finds_few}
use Rattle.box_deques.proofs.thief.take_first.Goals as goal

pub steal_as-requires-clause-takes : goal.steal_as-requires-clause-takes
steal_as-requires-clause-takes g c = takes _ _ _ _ c.loop.pass.id (view c.loop.pass)
    (ap (λ v. v.live) c.loop.invariant.1 ∙ c.requires.live)

pub steal_as-requires-clause-empty : goal.steal_as-requires-clause-empty
steal_as-requires-clause-empty g c = finds_few _ _ _ _ _ c.loop.pass.id (view c.loop.pass)
    (ap (λ v. v.live) c.loop.invariant.1 ∙ c.requires.live) (ap (λ n. min n 1) c.requires.fifo)

pub returns-in-Success-clause-some : goal.returns-in-Success-clause-some
returns-in-Success-clause-some g c = rw c.loop.invariant.1 at c.in-Success.ensures.rule
