use Rattle.std.proofs.Common.{sym, subst}
use Rattle.literal_order.specs.declared.written.Written.{Written}
use Rattle.script_claims.specs.Parts.{IsNormalPart}
use Rattle.script_claims.proofs.NormalParts.{bounded_normal}
use Rattle.script_claims.proofs.proposition.Proposition.add_bound.Goals as goal

pub returns-clause-normal : goal.returns-clause-normal
returns-clause-normal c = λ n.
    let b : Written = record { literal = c.literal_of.result; negative = c.args.negative } in
    subst IsNormalPart (sym c.bounded-part.ensures)
    (bounded_normal b c.args.self.now.part c.literal_of.ensures.normal n)
