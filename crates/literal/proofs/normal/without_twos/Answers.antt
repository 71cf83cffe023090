use lib.Count.{count_trailing_zeros}
use mir.Syntax.{w128}
use Rattle.std.proofs.Common.{arith, ◌<◌}
use Rattle.std.proofs.lemmas.Int.{ints}
use Rattle.std.proofs.lemmas.Nat.Bits.{bit_at-trailing_zeros}
use Rattle.literal.proofs.Numbers.{twos_are}
use Rattle.literal.proofs.normal.without_twos.Goals as goal

pub returns : goal.returns
returns c =
    let b = bit_at-trailing_zeros w128 c.args.num c.requires.num.0 c.ranges.num.fits in
    let t : count_trailing_zeros 128 c.args.num < 128 = b.0 in
    let low = c.requires.two.0 in
    let high = c.requires.two.1 in
    record {
      lost = count_trailing_zeros 128 c.args.num;
      num = twos_are c.args.num (count_trailing_zeros 128 c.args.num) b.2;
      two = omega (arith, ints);
      ten = omega (arith, ints);
      reduced = λ e. absurd (omega (arith, b.1));
    }
