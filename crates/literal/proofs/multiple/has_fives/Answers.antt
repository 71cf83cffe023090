use Rattle.std.proofs.Common.{◌<◌, ℕ, subst, sym, arith, lit<}
use Rattle.std.proofs.lemmas.Int.{ints}
use Rattle.literal.proofs.Tens.{pow_positive}
use Rattle.literal.proofs.Fixes.{five_fits}
use Rattle.literal.proofs.multiple.has_fives.Goals as goal

pub pow-requires : goal.pow-requires
pow-requires c = five_fits c.unsigned_abs.result (omega (arith, ints, c.unsigned_abs.ensures.value))

pub nonzero_rem-result : goal.nonzero_rem-result
nonzero_rem-result c =
    subst (λ (n : ℕ). 0 < n) (sym c.pow.ensures) (pow_positive 5 c.unsigned_abs.result (lit< tt))
