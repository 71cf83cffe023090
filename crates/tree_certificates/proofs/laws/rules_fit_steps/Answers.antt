-- Rule by rule.
use Rattle.tree_certificates.proofs.FitList.{list_void_fitting, list_from_few, list_numbered_low}
use Rattle.tree_certificates.proofs.laws.rules_fit_steps.Goals as goal

pub returns : goal.returns
returns c =
    record { void_fits = list_void_fitting; counted = list_from_few; low = list_numbered_low }
