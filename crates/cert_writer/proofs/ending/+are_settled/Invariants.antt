use Rattle.std.proofs.Common.{length}
use Rattle.cert_writer.proofs.ending.+are_settled.Given as goal

abbrev pub decreases-are_settled : goal.decreases-are_settled
decreases-are_settled l = length l.goals.now
