use Rattle.std.proofs.Common.{ap, ◌∙◌, sym}
use Rattle.interval.proofs.Outward.{outward_of_only}
use Rattle.rounding.specs.Errors.{error_range}
use Rattle.theorem_fix.proofs.Ranges.{error_range_ordered}
use Rattle.theorem_fix.specs.Roundings.{errors_of}
use Rattle.theorem_fix.proofs.roundings.errors.Goals as goal

pub returns-in-Some : goal.returns-in-Some
returns-in-Some c =
    let r = c.in-Some.r in
    outward_of_only (error_range r.dir r.lsb c.args.sign c.args.fix) c.error_interval.result
    (error_range_ordered r.dir r.lsb c.args.sign c.args.fix) c.error_interval.ensures.cases
    ∙ ap (λ o. errors_of o c.args.sign c.args.fix) (sym c.in-Some.is)
