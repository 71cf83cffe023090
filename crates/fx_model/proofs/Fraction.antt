-- Laws of what specs/Fraction defines.
pub mod Core
pub use Rattle.fx_model.proofs.Fraction.Core.Order.{mul-lt_cancel}
pub use Rattle.fx_model.proofs.Fraction.Core.Order.{mul_cancel}
pub use Rattle.fx_model.proofs.Fraction.Core.Laws.{add-zero, middle_sums, left_swap}
pub use Rattle.fx_model.proofs.Fraction.Core.Laws.{middle_products, mul-one, mul-zero, add-mul}
pub use Rattle.fx_model.proofs.Fraction.Core.Laws.{neg-lt}
pub use Rattle.fx_model.proofs.Fraction.Core.Laws.{sub-add}
pub use Rattle.fx_model.proofs.Fraction.Core.Inverse.{is_zero_not, div-mul}
