use Rattle.std.proofs.Common.{◌≡◌, ◌++◌, length}
use Rattle.tree_certificates.specs.Trees.{AllSettled}
use Rattle.box_trace.specs.Tables.{known_at}
use Rattle.cert_writer.specs.Boxes.{refs_in}
use Rattle.cert_writer.proofs.spell.refs_of.Given as goal

abbrev pub invariant-loop-goals : goal.invariant-loop-goals
invariant-loop-goals l = record {
  settled : AllSettled (known_at l.uni l.known) l.goals;
  all : l.refs.items ++ refs_in l.uni l.known l.goals ≡ refs_in l.uni l.known l.fn.goals;
}

abbrev pub decreases-loop-goals : goal.decreases-loop-goals
decreases-loop-goals l = length l.goals
