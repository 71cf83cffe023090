-- Intervals, and the best outward interval of a set of fractions, with their laws.
pub mod Sets
pub mod Attained
pub mod Members
pub mod SumEnds
pub mod Isotone
pub mod Ends
pub mod Unique
pub use Rattle.fx_model.specs.Enclosure.Sets.{Range, from_ends, IsFrom, IsUpTo, Lies}
pub use Rattle.fx_model.specs.Enclosure.Sets.{IsInfimum}
pub use Rattle.fx_model.specs.Enclosure.Sets.{IsSupremum, IsEnclosure, Negations, Sizes, Squares}
pub use Rattle.fx_model.specs.Enclosure.Sets.{Sums, Differences, Products, Quotients, MultiplesIn}
pub use Rattle.fx_model.specs.Enclosure.Sets.{IsFinite, whole_line, IsNegation, IsSize, IsSquare}
pub use Rattle.fx_model.specs.Enclosure.Sets.{IsSum, IsDifference, IsProduct, IsQuotient}
pub use Rattle.fx_model.specs.Enclosure.Attained.{infimum_at, supremum_at, in_enclosure}
pub use Rattle.fx_model.specs.Enclosure.SumEnds.{sum_low, sum_low_infinite, sum_high, LowSum}
pub use Rattle.fx_model.specs.Enclosure.SumEnds.{HighSum, sum_high_infinite, sum_is}
pub use Rattle.fx_model.specs.Enclosure.Isotone.{BoundLe, Within, within_in}
pub use Rattle.fx_model.specs.Enclosure.Ends.{IsOrdered, IsOrdered-prop, member_of, ordered_by}
pub use Rattle.fx_model.specs.Enclosure.Members.{from-le, up_to-le, lower_up_to, higher_from}
pub use Rattle.fx_model.specs.Enclosure.Members.{end_up_to, end_from, low_lies, high_lies, deep}
pub use Rattle.fx_model.specs.Enclosure.Members.{far, mirror, from_neg, up_to_neg, mirror-mirror}
pub use Rattle.fx_model.specs.Enclosure.Members.{lies_mirror, lies_mirrored, mirror_ordered}
pub use Rattle.fx_model.specs.Enclosure.Members.{enclosure_ordered, infimum_same, supremum_same}
pub use Rattle.fx_model.specs.Enclosure.Members.{enclosure_same}
pub use Rattle.fx_model.specs.Enclosure.Unique.{finite_or}
pub use Rattle.fx_model.specs.Enclosure.Unique.{product_holds}
