use Rattle.std.proofs.Common.{w64}
use Rattle.std.proofs.lemmas.Nat.Bits.{bit_at-trailing_zeros}
use Rattle.dyadic.proofs.GridLemmas.{odd_times}
use Rattle.dyadic.proofs.number.odd_part.Goals as goal

pub returns-clause-odd : goal.returns-clause-odd
returns-clause-odd c = (bit_at-trailing_zeros w64 c.args.size c.requires c.ranges.size.fits).1

pub returns-clause-value : goal.returns-clause-value
returns-clause-value c =
    odd_times c.args.size _ (bit_at-trailing_zeros w64 c.args.size c.requires c.ranges.size.fits).2
