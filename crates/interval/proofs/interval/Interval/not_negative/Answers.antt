use Rattle.std.specs.Prelude.{pos}
use Rattle.std.proofs.Common.{refl, ◌∙◌, sym, ap}
use Rattle.fx_model.specs.Grid as grid
use Rattle.fx_model.specs.Powers.{scaled-zero}
use Rattle.dyadic.proofs.Ends.{same_bound}
use Rattle.interval.proofs.Intervals.{same_ends}
use Rattle.interval.specs.Results.{half_line}
use Rattle.interval.proofs.interval.Interval.not_negative.Goals as goal

pub returns : goal.returns
returns c = same_ends _ half_line (same_bound c.zero.result half_line.lo (c.zero.ensures
    ∙ ap grid.At (sym (scaled-zero (pos 0))))) refl
