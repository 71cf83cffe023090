use Rattle.std.proofs.Common.{sym, subst}
use Rattle.std.specs.Prelude.{IfOk}
use Rattle.saturate.specs.Universes.{setting_of}
use Rattle.saturate.specs.Closed.{IsMarked, IsMarkedParent}
use Rattle.saturate.specs.Boxes.{IsOfUniverse, table_of}
use Rattle.box_tree.specs.Plans.{pieces_at}
use Rattle.settler.proofs.Along.{same_box, its_table, its_state}
use Rattle.settler.proofs.boxes.Boxes.settled.Goals as goal

pub settle-requires-clause-given : goal.settle-requires-clause-given
settle-requires-clause-given g c =
    let pieces = pieces_at g.F.Frame.plan c.args.path.now in (
      pieces,
      same_box c.self.inside.universe.now g.F.Frame.universe c.self.inside.rounds g.F.Frame.rounds
          c.self.invariant.0 c.self.invariant.2 c.given-piece.result.0 c.given-piece.result.1 pieces
          c.given-piece.ensures.is,
    )

pub settle-requires-clause-places : goal.settle-requires-clause-places
settle-requires-clause-places g c =
    subst (λ u. IsOfUniverse u c.given-piece.result.0 c.given-piece.result.1)
    (sym c.self.invariant.0) c.given-piece.ensures.of

pub settle-requires-clause-marked : goal.settle-requires-clause-marked
settle-requires-clause-marked g c =
    subst (λ u. IsMarkedParent (setting_of u) c.given-piece.result.1) (sym c.self.invariant.0)
    c.given-piece.ensures.marked

pub returns-clause-table : goal.returns-clause-table
returns-clause-table g c =
    its_table c.self.inside.universe.now g.F.Frame.universe c.self.inside.rounds g.F.Frame.rounds
    c.self.invariant.0 c.self.invariant.2 c.given-piece.result.0 c.given-piece.result.1
    (pieces_at g.F.Frame.plan c.args.path.now) c.given-piece.ensures.is
    c.settle.result c.settle.ensures.table

pub returns-clause-state : goal.returns-clause-state
returns-clause-state g c =
    its_state c.self.inside.universe.now g.F.Frame.universe c.self.inside.rounds g.F.Frame.rounds
    c.self.invariant.0 c.self.invariant.2 c.given-piece.result.0 c.given-piece.result.1
    (pieces_at g.F.Frame.plan c.args.path.now) c.given-piece.ensures.is
    c.settle.result c.settle.ensures.state

pub returns-clause-marked : goal.returns-clause-marked
returns-clause-marked g c =
    subst (λ u. IfOk c.settle.result (λ s. IsMarked (setting_of u) (table_of s)))
    c.self.invariant.0 c.settle.ensures.marked
