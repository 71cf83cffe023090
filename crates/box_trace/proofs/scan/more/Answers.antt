use Rattle.std.specs.Prelude.{Option}
use Rattle.std.proofs.Common.{sym, subst}
use Rattle.box_trace.specs.declared.ends.Ends.{Ends}
use Rattle.box_trace.specs.Scans.{IsWith}
use Rattle.box_trace.proofs.scan.more.Goals as goal

pub returns-in-Some : goal.returns-in-Some
returns-in-Some c =
    let e = c.with.ensures in
    subst (λ (o : Option Ends). IsWith o c.args.found c.with.result) (sym c.in-Some.is)
    (e.low, e.high, e.found, e.lower, e.upper)

pub returns-in-None : goal.returns-in-None
returns-in-None c = subst (λ (o : Option Ends). IsWith o c.args.found c.of.result)
    (sym c.in-None.is) (c.of.ensures.low, c.of.ensures.high)
