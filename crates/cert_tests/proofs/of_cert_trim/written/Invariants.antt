use Rattle.std.proofs.Common.{length}
use Rattle.std.specs.List.{AllByRecursion}
use Rattle.cert_bytes.specs.Certificates.{HasSpelling}
use Rattle.cert_tests.proofs.of_cert_trim.written.Given as goal

abbrev pub invariant-loop-items : goal.invariant-loop-items
invariant-loop-items l = AllByRecursion HasSpelling l.items

abbrev pub decreases-loop-items : goal.decreases-loop-items
decreases-loop-items l = length l.items
