use Rattle.std.proofs.Common.{arith, ◌^◌}
use Rattle.std.proofs.Math.Nat.{one-le-pow, mul-le-mul_left}
use Rattle.poly_normal.proofs.Divisors.{power-step, power-past}
use Rattle.poly_normal.proofs.literals.times_power.Goals as goal

pub returns-then-num-ge-LIMIT : goal.returns-then-num-ge-LIMIT
returns-then-num-ge-LIMIT c = let some = mul-le-mul_left c.args.num
    (one-le-pow c.args.exponent c.args.base (omega (arith, c.requires))) in
    omega (arith, c.if-num-ge-LIMIT.true)

pub returns-in_default : goal.returns-in_default
returns-in_default c =
    power-past c.args.num c.args.base (2 ^ 127) c.loop.n c.loop.counter c.args.exponent c.requires
    (omega (arith, c.in_default.ensures)) c.loop.invariant.power (omega arith)

pub returns-then-next-ge-LIMIT : goal.returns-then-next-ge-LIMIT
returns-then-next-ge-LIMIT c =
    power-past c.args.num c.args.base (2 ^ 127) c.loop.n c.loop.counter c.args.exponent c.requires
    (omega (arith, c.in-Some.ensures, c.if-next-ge-LIMIT.true)) c.loop.invariant.power (omega arith)

pub loop-preserved : goal.loop-preserved
loop-preserved c = record {
  power = power-step c.args.num c.args.base c.loop.n c.in-Some.next c.loop.counter
      c.loop.invariant.power (omega (arith, c.in-Some.ensures));
  below = omega (arith, c.if-next-ge-LIMIT.false);
}
