use Rattle.std.proofs.Common.{◌<◌, ℕ, subst, arith}
use Rattle.std.specs.Option.{SomeIff}
use Rattle.literal.proofs.Numbers.{joined_past, joined_is}
use Rattle.literal.proofs.number.joined.Goals as goal

pub returns-in_default : goal.returns-in_default
returns-in_default c = joined_past c.args.radix c.args.limit c.args.whole.now c.args.fraction.now
    (omega arith) c.in_default.ensures

pub returns : goal.returns
returns c =
    subst (λ (n : ℕ). SomeIff c.continued-2.result (n < c.args.limit) n) (joined_is c.args.radix
    c.in-Some.num c.args.whole.now c.args.fraction.now c.in-Some.ensures.1) c.continued-2.ensures
