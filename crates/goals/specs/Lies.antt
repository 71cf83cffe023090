-- What of an assignment a slot is about.
use Rattle.std.specs.Prelude.{List}
use Rattle.std.specs.Option.{IsSomeAnd}
use Rattle.fx_model.specs.Fraction.{Fraction}
use Rattle.fx_model.specs.Enclosure.{Lies}
use Rattle.fx_model.specs.Expression.{Assignment, value}
use Rattle.fx_model.specs.declared.Node.{Node}
use Rattle.fx_model.specs.declared.ExprId.{ExprId}
use Rattle.interval.specs.declared.interval.Interval.{Interval}
use Rattle.interval.specs.Intervals.{range_of}
use Rattle.facts.specs.declared.fact.Slot.{Slot}
use Rattle.facts.specs.declared.fact.Slot.TheVariants as slot
use Rattle.facts.specs.Holds.{AreZero, IsRelated}

-- both have values, of which P holds
abbrev pub OfBoth : List Node → Assignment → ExprId → ExprId
    → (Fraction → Fraction → Type 0) → Type 0
OfBoth nodes a x y P = IsSomeAnd (value nodes a x) (λ v. IsSomeAnd (value nodes a y) (P v))

-- The value, or the relative error, that the slot is about lies in the interval. A pair of which
-- both are 0 has every relative error.
abbrev pub LiesAt : List Node → Assignment → Interval → Slot → Type 0
LiesAt nodes a i (slot.Bnd x) = IsSomeAnd (value nodes a x) (Lies (range_of i))
LiesAt nodes a i (slot.Rel x y) = OfBoth nodes a x y (IsRelated i)
LiesAt nodes a i _ = ⊥

-- both values of a pair are 0
abbrev pub AreZeroAt : List Node → Assignment → Slot → Type 0
AreZeroAt nodes a (slot.Rel x y) = OfBoth nodes a x y AreZero
AreZeroAt nodes a _ = ⊥
