use Rattle.cert_trim.proofs.Fewer.{are_fewer}
use Rattle.cert_trim.proofs.Leaves.{leaves_are_trimmed}
use Rattle.cert_trim.proofs.Ordered.{certificates_stay_so}
use Rattle.cert_trim.proofs.laws.leaves_are_trimmed.Goals as goal

pub returns-clause-leaves : goal.returns-clause-leaves
returns-clause-leaves c = leaves_are_trimmed

pub returns-clause-order : goal.returns-clause-order
returns-clause-order c = certificates_stay_so

pub returns-clause-fewer : goal.returns-clause-fewer
returns-clause-fewer c = are_fewer
