-- Errors by the side that they go to.
use Rattle.fx_model.specs.Fraction.{Fraction}
use Rattle.fx_model.specs.Enclosure.{Range}
use Rattle.rounding.specs.declared.bounds.Span.{Span}
use Rattle.rounding.specs.declared.bounds.Span.TheVariants.{Nowhere, Leftward, Rightward, Sideward}
use Rattle.rounding.specs.declared.bounds.Span.TheVariants.{Near}
use Rattle.rounding.specs.Errors.{leftward, rightward, sideward, nowhere}

-- The errors that a side stands for, where u is the unit and h half of it.
abbrev pub spanned : Span → Fraction → Fraction → Range
spanned Nowhere u h = nowhere
spanned Leftward u h = leftward u
spanned Rightward u h = rightward u
spanned Sideward u h = sideward u
spanned Near u h = sideward h
