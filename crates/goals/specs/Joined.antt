-- The line of a goal, gathered from facts.
use Rattle.std.specs.Prelude.{Some, None}
use Rattle.interval.specs.declared.interval.Interval.{Interval}
use Rattle.interval.specs.Meets.{hull_of}
use Rattle.facts.specs.declared.fact.Fact.{Fact}
use Rattle.facts.specs.declared.fact.Fact.TheVariants as fact
use Rattle.goals.specs.declared.line.Line.{Line}
use Rattle.goals.specs.declared.line.Line.TheVariants as line

-- The line with one interval more: the hull of both, or the new interval alone where the line has
-- none yet.
abbrev pub with_interval : Line → Interval → Line
with_interval (line.In j) i = line.In (hull_of j i)
with_interval line.None i = line.In i
with_interval line.Empty i = line.In i

-- that both sides are 0 gives nothing to a hull
abbrev pub with_zeros : Line → Line
with_zeros (line.In j) = line.In j
with_zeros line.None = line.None
with_zeros line.Empty = line.None

-- The line with one fact more. Facts of other kinds are no goal's.
abbrev pub joined : Line → Fact → Line
joined l (fact.Bnd x i) = with_interval l i
joined l (fact.Rel x y (Some e)) = with_interval l e.interval
joined l (fact.Rel x y None) = with_zeros l
joined l _ = l
