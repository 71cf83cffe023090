use Rattle.script_claims.specs.Facts.{HasNormalBounds}
use Rattle.script_claims.proofs.InParts.{case_parts}
use Rattle.script_claims.proofs.sides.Sides.conjunctions.Goals as goal

pub returns-clause-normal : goal.returns-clause-normal
returns-clause-normal c =
    case_parts HasNormalBounds c.self.inside.parts.before c.args.number c.conjunctions.result
    c.self.invariant.2.before c.conjunctions.ensures
