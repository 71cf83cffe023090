-- Laws of what specs/Cut defines.
pub mod Digits
pub use Rattle.fx_model.proofs.Cut.Digits.{quotient_is}
