-- Laws of what specs/Enclosure defines.
pub mod Isotone
pub mod Sets
pub mod Unique
pub use Rattle.fx_model.proofs.Enclosure.Sets.{Set}
pub use Rattle.fx_model.proofs.Enclosure.Isotone.{enclosure_isotone}
pub use Rattle.fx_model.proofs.Enclosure.Isotone.{sum_isotone}
pub use Rattle.fx_model.proofs.Enclosure.Unique.{enclosure_unique, product_unique}
