-- The recursions over rounds, boxes and trees.
use Rattle.tree_certificates.proofs.Come.{root_trace, child_trace}
use Rattle.tree_certificates.proofs.Rooted.{walk_goes_on}
use Rattle.tree_certificates.proofs.Head.{certificate_exists}
use Rattle.tree_certificates.proofs.laws.certificates_exist.Goals as goal

pub returns-clause-traces : goal.returns-clause-traces
returns-clause-traces c = record { root = root_trace; child = child_trace }

pub returns-clause-certificates : goal.returns-clause-certificates
returns-clause-certificates c = certificate_exists

pub returns-clause-walks : goal.returns-clause-walks
returns-clause-walks c = walk_goes_on
