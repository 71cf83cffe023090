use Rattle.std.proofs.Common.{◌≡◌, ◌*◌, ◌/◌, ◌^◌, ◌+◌, ◌<◌, arith}
use Rattle.literal.proofs.Numbers.{few_tens, one_more}
use Rattle.literal.proofs.normal.without_tens.Goals as goal

pub loop-rest-preserved : goal.loop-rest-preserved
loop-rest-preserved c =
    let e : c.loop-rest.rest ≡ c.loop-rest.rest / 10 * 10 = omega arith in
    let some : 0 < c.loop-rest.rest / 10 = omega arith in
    let s : c.args.num ≡ c.loop-rest.rest / 10 * 10 ^ (c.loop-rest.lost + 1) = one_more c.args.num
    c.loop-rest.rest (c.loop-rest.rest / 10) c.loop-rest.lost c.loop-rest.invariant.same e in
    record {
      some = some;
      same = s;
      few = few_tens c.args.num (c.loop-rest.rest / 10)
          (c.loop-rest.lost + 1) s some c.requires.num.1;
    }
