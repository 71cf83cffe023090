use Rattle.std.proofs.Common.{sym, ap, subst}
use Rattle.script_hints.specs.Few.{HaveFewPieces}
use Rattle.box_tree.specs.Regions.{Region}
use Rattle.box_tree.proofs.InRanges.{few_behind}
use Rattle.box_tree.proofs.Turns.{forced_of, fewer_left}
use Rattle.box_tree.proofs.region.Region.forced.Goals as goal

pub from_forced-requires-clause-pieces : goal.from_forced-requires-clause-pieces
from_forced-requires-clause-pieces c =
    subst HaveFewPieces (sym c.behind.ensures)
    (few_behind c.self.inside.done c.cuts.result.now c.cuts.ensures.pieces)

pub returns-clause-is : goal.returns-clause-is
returns-clause-is c =
    forced_of c.args.plan.now c.args.self.now c.ranges-2.result.now c.self.inside.done
    c.cuts.result.now c.behind.result.now c.from_forced.result.now c.ranges-2.ensures.value
    (ap (λ (g : Region). g.done) c.self.view_is) c.cuts.ensures.value c.behind.ensures
    c.from_forced.ensures.is c.from_forced.ensures.fewer

pub returns-clause-fewer : goal.returns-clause-fewer
returns-clause-fewer c =
    fewer_left c.self.inside.done c.cuts.result.now c.args.plan.now.cuts c.behind.result.now
    c.from_forced.result.now c.cuts.ensures.value c.behind.ensures c.from_forced.ensures.fewer
