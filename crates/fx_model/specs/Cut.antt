-- A number that is cut off below a power of two, and how the grid's roundings follow from it.
pub mod Gaps
pub mod Digits
pub mod Top
pub use Rattle.fx_model.specs.Cut.Gaps.{Cuts, Full, cut_low, cut_high, gap_le, on_grid, down_is}
pub use Rattle.fx_model.specs.Cut.Gaps.{up_is_exact, up_least}
pub use Rattle.fx_model.specs.Cut.Digits.{more, narrow_is}
pub use Rattle.fx_model.specs.Cut.Top.{top, down_beyond, up_beyond, next_grid, up_is, up_top}
