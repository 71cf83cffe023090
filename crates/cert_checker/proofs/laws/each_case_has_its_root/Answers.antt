use Rattle.cert_checker.proofs.Roots.{have_each_root}
use Rattle.cert_checker.proofs.laws.each_case_has_its_root.Goals as goal

pub returns : goal.returns
returns c = have_each_root
