use Rattle.std.proofs.Common.{arith, sym, ap, inl, ◌≡◌, ◌/◌}
use Rattle.poly_normal.specs.Form.{common_divisor_to}
use Rattle.poly_normal.proofs.Divisors.{divisor_is, divisor_positive, quotient_below}
use Rattle.poly_normal.proofs.literals.reduced.Goals as goal

pub nonzero_div-lesser : goal.nonzero_div-lesser
nonzero_div-lesser c =
    divisor_positive c.args.bottom _ c.requires.above c.greatest_divisor-divisor.ensures.1

pub nonzero_div-result : goal.nonzero_div-result
nonzero_div-result c =
    divisor_positive c.args.bottom _ c.requires.above c.greatest_divisor-divisor.ensures.1

pub returns-then-lesser-ge-LIMIT : goal.returns-then-lesser-ge-LIMIT
returns-then-lesser-ge-LIMIT c =
    let e = divisor_is c.args.top c.args.bottom c.greatest_divisor-divisor.result c.requires.above
    c.greatest_divisor-divisor.ensures in
    let f = ap (λ g. c.args.top / g) e in inl (omega (arith, c.if-lesser-ge-LIMIT.true))

pub returns : goal.returns
returns c =
    let e = divisor_is c.args.top c.args.bottom c.greatest_divisor-divisor.result c.requires.above
    c.greatest_divisor-divisor.ensures in
    let f : c.args.top / common_divisor_to c.args.bottom c.args.top c.args.bottom
    ≡ c.args.top / c.greatest_divisor-divisor.result = ap (λ g. c.args.top / g) e in
    let h : c.args.bottom / common_divisor_to c.args.bottom c.args.top c.args.bottom
    ≡ c.args.bottom / c.greatest_divisor-divisor.result = ap (λ g. c.args.bottom / g) e in
    let k = quotient_below c.args.bottom
    (common_divisor_to c.args.bottom c.args.top c.args.bottom) in
    (sym f, sym h, omega (arith, c.if-lesser-ge-LIMIT.false), omega (arith, c.requires.below))
