use Rattle.dyadic.proofs.RisingLemmas.{padded_more}
use Rattle.dyadic.proofs.points.Points.with.Goals as goal

pub invariant_of-result : goal.invariant_of-result
invariant_of-result c = padded_more c.self.inside c.args.self c.args.p c.self.view_is
    c.self.invariant c.requires.room c.requires.above
