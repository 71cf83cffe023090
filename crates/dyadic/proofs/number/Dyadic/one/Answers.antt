use Rattle.std.proofs.Common.{ap, sym, pos, ◌∙◌}
use Rattle.fx_model.specs.Fraction.{one_ℚ, ◌*ℚ◌, mul_comm, one-mul}
use Rattle.fx_model.specs.Powers.{whole, two_to-pos, one-whole}
use Rattle.dyadic.proofs.number.Dyadic.one.Goals as goal

pub returns : goal.returns
returns c = ap (λ y. whole (pos 1) *ℚ y) (two_to-pos 0 ∙ sym one-whole)
    ∙ mul_comm (whole (pos 1)) one_ℚ ∙ one-mul (whole (pos 1)) ∙ sym one-whole
