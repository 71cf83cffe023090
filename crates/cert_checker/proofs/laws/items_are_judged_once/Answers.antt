use Rattle.cert_checker.proofs.Once.{judged_once, leads_once, leads_or_fails, fails_once}
use Rattle.cert_checker.proofs.OutcomesOnce.{comes_once}
use Rattle.cert_checker.proofs.laws.items_are_judged_once.Goals as goal

pub returns-clause-judged : goal.returns-clause-judged
returns-clause-judged c = judged_once

pub returns-clause-leads : goal.returns-clause-leads
returns-clause-leads c = leads_once

pub returns-clause-apart : goal.returns-clause-apart
returns-clause-apart c = leads_or_fails

pub returns-clause-fails : goal.returns-clause-fails
returns-clause-fails c = fails_once

pub returns-clause-bytes : goal.returns-clause-bytes
returns-clause-bytes c = comes_once
