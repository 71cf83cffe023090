use Rattle.std.proofs.Common.{◌<◌, ◌≤◌, sym, subst}
use Rattle.script_cases.specs.Cases.{case_count}
use Rattle.script_cases.specs.Parts.{Parts}
use Rattle.script_cases.proofs.Counts.{rising, counted}
use Rattle.script_cases.proofs.parts.Parts.case.Goals as goal

pub take_case-requires-clause-rising : goal.take_case-requires-clause-rising
take_case-requires-clause-rising g c = rw c.as_slice-3.ensures.value (rising _ _ _ c.self.invariant)

pub take_case-requires-clause-few : goal.take_case-requires-clause-few
take_case-requires-clause-few g c =
    rw (c.as_slice-3.ensures.value, ← counted _ _ _ c.self.invariant)
    (subst (λ (p : Parts _). case_count p.before ≤ 64) (sym c.self.view_is) c.requires.few)

pub take_case-requires-clause-number : goal.take_case-requires-clause-number
take_case-requires-clause-number g c =
    rw (c.as_slice-3.ensures.value, ← counted _ _ _ c.self.invariant) (subst
    (λ (p : Parts _). c.args.number < case_count p.before) (sym c.self.view_is) c.requires.number)
