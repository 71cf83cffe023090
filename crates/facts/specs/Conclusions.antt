-- Conclusions of rules: how they are written, when one improves another, and where they stand.
use Rattle.std.specs.Prelude.{Bool, Option, Some, None, if◌then◌else◌}
use Rattle.fx_model.specs.declared.ExprId.{ExprId}
use Rattle.interval.specs.declared.interval.Interval.{Interval}
use Rattle.facts.specs.declared.place.FixPlace.{FixPlace}
use Rattle.facts.specs.declared.size.Size.{Size}
use Rattle.facts.specs.declared.fact.Fact.{Fact}
use Rattle.facts.specs.declared.fact.Fact.TheVariants as fact

-- the fact, where the test holds
abbrev pub only_if : Bool → Fact → Option Fact
only_if b f = if b then Some f else None

-- what is given, where the test holds
abbrev pub given_if : Bool → Option Fact → Option Fact
given_if b o = if b then o else None

-- a BND fact, where there is an interval
abbrev pub bnd_of : ExprId → Option Interval → Option Fact
bnd_of x None = None
bnd_of x (Some i) = Some (fact.Bnd x i)

-- an ABS fact, where there is a size
abbrev pub abs_of : ExprId → Option Size → Option Fact
abs_of x None = None
abs_of x (Some s) = Some (fact.Abs x s)

-- a FIX fact, where there is a place
abbrev pub fix_of : ExprId → Option FixPlace → Option Fact
fix_of x None = None
fix_of x (Some k) = Some (fact.Fix x k)
