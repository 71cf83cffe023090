use Rattle.std.proofs.Common.{ℕ, List, subst}
use Rattle.derivation.specs.Known.{IsTableAt}
use Rattle.saturate.specs.Tables.{fact_at}
use Rattle.saturate.specs.Universes.{setting_of}
use Rattle.box_tree.specs.Plans.{pieces_at}
use Rattle.settler.proofs.entry.Entry.table.Goals as goal

pub returns-clause-right : goal.returns-clause-right
returns-clause-right g c =
    subst (λ (p : List ℕ). IsTableAt (setting_of g.F.Frame.universe) g.F.Frame.rounds
    (pieces_at g.F.Frame.plan p) (fact_at c.self.inside.table)) c.self.view_is c.self.invariant.0
