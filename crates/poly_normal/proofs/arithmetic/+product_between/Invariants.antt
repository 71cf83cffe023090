use Rattle.std.proofs.Common.{◌-◌}
use Rattle.poly_normal.proofs.arithmetic.+product_between.Given as goal

abbrev pub decreases-product_between : goal.decreases-product_between
decreases-product_between l = l.high - l.low
