use Rattle.std.proofs.Common.{◌≡◌, Some, length, slice_get, subst}
use Rattle.facts.specs.declared.instance.Instance.{Instance}
use Rattle.rule_universe.specs.Worlds.{World}
use Rattle.rule_universe.specs.Placed.{ArePlaced}
use Rattle.rule_universe.proofs.universe.Universe.premises.Goals as goal

pub returns : goal.returns
returns c =
    subst (λ (u : World). (i : Instance) → slice_get u.instances c.args.k ≡ Some i
    → ArePlaced (length u.nodes) u.pairs i.premises c.row.result.now) c.self.view_is
    (λ i e. c.self.invariant.5.each c.args.k i c.row.result.now e c.row.ensures)
