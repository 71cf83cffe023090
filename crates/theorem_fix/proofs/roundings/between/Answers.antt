use Rattle.std.proofs.Common.{ap, ◌∙◌, sym}
use Rattle.dyadic.specs.Ends.{bound_of}
use Rattle.interval.specs.Intervals.{range_of}
use Rattle.interval.proofs.Outward.{outward_of_ends}
use Rattle.theorem_fix.specs.Roundings.{rounded_end, rounded_range, rounded_interval}
use Rattle.theorem_fix.proofs.roundings.between.Goals as goal

pub returns-in-Some : goal.returns-in-Some
returns-in-Some c =
    let r = c.in-Some.r in
    c.new.ensures.is
    ∙ outward_of_ends (rounded_range r (range_of c.args.i)) c.end.result c.end-in-Some.result
    (c.end.ensures ∙ ap (λ e. rounded_end r (bound_of e)) c.lo.ensures)
    (c.end-in-Some.ensures ∙ ap (λ e. rounded_end r (bound_of e)) c.hi.ensures)
    ∙ ap (λ o. rounded_interval o c.args.i) (sym c.in-Some.is)
