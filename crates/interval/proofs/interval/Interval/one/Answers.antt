use Rattle.std.proofs.Common.{ap, ◌∙◌}
use Rattle.interval.specs.Results.{point_of}
use Rattle.interval.proofs.interval.Interval.one.Goals as goal

pub returns : goal.returns
returns c = c.point.ensures.is ∙ ap point_of c.one.ensures
