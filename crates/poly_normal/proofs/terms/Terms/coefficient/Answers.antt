use Rattle.std.proofs.Common.{arith, pos}
use Rattle.std.proofs.lemmas.List.{get_or_read}
use Rattle.std.proofs.lemmas.Int.{ints}
use Rattle.poly_normal.proofs.FlatRows.{length-rows, coefficient-rows}
use Rattle.poly_normal.proofs.terms.Terms.coefficient.Goals as goal

pub index-requires : goal.index-requires
index-requires c = let s = c.args.self.now in
    let n = length-rows s.width s.coefficients.items s.powers.items in
    omega (arith, n, s.coefficients.ok.0)

pub returns : goal.returns
returns c = let s = c.args.self.now in
    let n = length-rows s.width s.coefficients.items s.powers.items in
    let e = get_or_read s.coefficients.items _ _ (omega (arith, n)) c.index.ensures (pos 0) in
    let r = coefficient-rows s.width s.coefficients.items s.powers.items c.args.i in
    omega (arith, ints, e, r)
