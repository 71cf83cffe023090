-- Fractions of unbounded whole numbers, with their laws.
pub mod Core
pub use Rattle.fx_model.specs.Fraction.Core.{Ratio, Same, Fraction, positive-mul, add_ratio}
pub use Rattle.fx_model.specs.Fraction.Core.{mul_ratio, neg_ratio, add_left, add_right, mul_left}
pub use Rattle.fx_model.specs.Fraction.Core.{mul_right, neg_same, ◌+ℚ◌, ◌*ℚ◌, neg_ℚ, ◌-ℚ◌, T_true}
pub use Rattle.fx_model.specs.Fraction.Core.{cancel_le, le_ratio, LeRatio, le_ℚ, ◌≤ℚ◌, ◌<ℚ◌}
pub use Rattle.fx_model.specs.Fraction.Core.{by_ratio, Fraction-set, same_1, same_2, same_3}
pub use Rattle.fx_model.specs.Fraction.Core.{of_ratio, add-mk, mul-mk, neg-mk, le-mk}
unfoldable pub use Rattle.fx_model.specs.Fraction.Core.{zero_ℚ, one_ℚ}
pub use Rattle.fx_model.specs.Fraction.Core.Ring.{add_comm, add_assoc, zero-add, add-neg, mul_comm}
pub use Rattle.fx_model.specs.Fraction.Core.Ring.{mul_assoc, one-mul, zero-mul, mul-add, neg-mul}
pub use Rattle.fx_model.specs.Fraction.Core.Ring.{neg-add, neg-neg}
pub use Rattle.fx_model.specs.Fraction.Core.Order.{le_in, le_out, Le-prop, le_refl, le_trans}
pub use Rattle.fx_model.specs.Fraction.Core.Order.{le_antisymm, le_total, add-le, mul-le, lt_by}
pub use Rattle.fx_model.specs.Fraction.Core.Order.{lt_not, lt_le, le_lt_trans, lt_le_trans}
pub use Rattle.fx_model.specs.Fraction.Core.Order.{le_or_lt, mul-le_cancel}
pub use Rattle.fx_model.specs.Fraction.Core.Order.{neg-le, add-le-add, Lt-prop}
pub use Rattle.fx_model.specs.Fraction.Core.Order.{minus_one, under, plus_one, over}
pub use Rattle.fx_model.specs.Fraction.Core.Laws.{add-sub}
pub use Rattle.fx_model.specs.Fraction.Core.Laws.{mul-neg, add-le_out, add-lt, mul-lt, times-le}
pub use Rattle.fx_model.specs.Fraction.Core.Laws.{times-lt, neg-le_out, neg_zero, neg_up}
pub use Rattle.fx_model.specs.Fraction.Core.Laws.{neg_down}
pub use Rattle.fx_model.specs.Fraction.Core.Floor.{floor_ratio, FloorRatio, floor_ℚ, floor_law}
pub use Rattle.fx_model.specs.Fraction.Core.Floor.{floor-mk}
pub use Rattle.fx_model.specs.Fraction.Core.Inverse.{abs_ℚ, is_zero_ℚ, square_ratio}
pub use Rattle.fx_model.specs.Fraction.Core.Inverse.{square_positive, inverse_ratio, inverse_ℚ}
pub use Rattle.fx_model.specs.Fraction.Core.Inverse.{◌/ℚ◌, mul-inverse, inverse-mk, abs-from}
pub use Rattle.fx_model.specs.Fraction.Core.Inverse.{abs-below, is_zero-zero, is_zero_out}
