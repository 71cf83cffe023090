-- Which of two facts on one slot has the further ends.
use Rattle.std.specs.Prelude.{◌≤ℤ◌, ⊤, Option, Some, None}
use Rattle.fx_model.specs.Enclosure.{BoundLe}
use Rattle.interval.specs.declared.interval.Interval.{Interval}
use Rattle.interval.specs.Intervals.{range_of}
use Rattle.facts.specs.declared.relative.RelativeError.{RelativeError}
use Rattle.facts.specs.declared.fact.Fact.{Fact}
use Rattle.facts.specs.declared.fact.Fact.TheVariants as fact

-- the first interval's lower end isn't above the second's
abbrev pub IsLow : Interval → Interval → Type 0
IsLow i j = BoundLe (range_of i).low (range_of j).low

-- the first interval's upper end isn't below the second's
abbrev pub IsHigh : Interval → Interval → Type 0
IsHigh i j = BoundLe (range_of j).high (range_of i).high

-- that both sides are 0 is further in than each interval, at both ends
abbrev pub IsLowError : Option RelativeError → Option RelativeError → Type 0
IsLowError d None = ⊤
IsLowError None (Some e) = ⊥
IsLowError (Some d) (Some e) = IsLow d.interval e.interval

-- The same at the upper end: the first one's isn't below the second's, and that both sides are 0 is
-- furthest in.
abbrev pub IsHighError : Option RelativeError → Option RelativeError → Type 0
IsHighError d None = ⊤
IsHighError None (Some e) = ⊥
IsHighError (Some d) (Some e) = IsHigh d.interval e.interval

-- Of two facts on one slot: the first one's lower end isn't above the second's. A power has this
-- end alone.
abbrev pub IsLowBy : Fact → Fact → Type 0
IsLowBy (fact.Bnd x i) (fact.Bnd y j) = IsLow i j
IsLowBy (fact.Abs x s) (fact.Abs y t) = IsLow s.interval t.interval
IsLowBy (fact.Rel x z d) (fact.Rel y w e) = IsLowError d e
IsLowBy (fact.Fix x k) (fact.Fix y n) = k.exponent ≤ℤ n.exponent
IsLowBy _ _ = ⊤

-- The first one's upper end isn't below the second's.
abbrev pub IsHighBy : Fact → Fact → Type 0
IsHighBy (fact.Bnd x i) (fact.Bnd y j) = IsHigh i j
IsHighBy (fact.Abs x s) (fact.Abs y t) = IsHigh s.interval t.interval
IsHighBy (fact.Rel x z d) (fact.Rel y w e) = IsHighError d e
IsHighBy _ _ = ⊤
