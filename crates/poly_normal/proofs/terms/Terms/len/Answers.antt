use Rattle.std.proofs.Common.{arith}
use Rattle.poly_normal.proofs.FlatRows.{length-rows}
use Rattle.poly_normal.proofs.terms.Terms.len.Goals as goal

pub returns : goal.returns
returns c = let s = c.args.self.now in
    let n = length-rows s.width s.coefficients.items s.powers.items in
    omega (arith, n, s.coefficients.ok.0)
