use Rattle.literal.proofs.Tens.{few_digits}
use Rattle.literal.proofs.number.binary.Goals as goal

pub returns-in_default-clause-written : goal.returns-in_default-clause-written
returns-in_default-clause-written c =
    λ k. c.in_default.ensures (few_digits c.args.whole.now c.requires k.0)
