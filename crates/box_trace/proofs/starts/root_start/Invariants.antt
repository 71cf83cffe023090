use Rattle.std.proofs.Common.{length, ◌+◌}
use Rattle.derivation.specs.Known.{IsGiven}
use Rattle.derivation.specs.Begun.{IsGathered, FirstHypotheses, FirstLines}
use Rattle.saturate.specs.Universes.{setting_of}
use Rattle.box_trace.specs.Tables.{known_at}
use Rattle.box_trace.specs.Boxes.{BeginsWithin}
use Rattle.box_trace.specs.Rounds.{BeginsRootBy}
use Rattle.box_trace.proofs.RoundsLaws.{given_before}
use Rattle.box_trace.proofs.starts.root_start.Given as goal

abbrev pub invariant-loop-k : goal.invariant-loop-k
invariant-loop-k l = record {
  gathered : IsGathered (setting_of l.uni) (IsGiven (setting_of l.uni))
      (FirstHypotheses l.uni.hypotheses l.k) (known_at l.uni l.log.known);
  begins : BeginsWithin l.uni l.first l.k l.log;
  gives : BeginsRootBy l.uni l.k l.first l.log;
}

abbrev pub invariant-loop-n : goal.invariant-loop-n
invariant-loop-n l = record {
  gathered : IsGathered (setting_of l.uni) (IsGiven (setting_of l.uni))
      (FirstLines l.uni.nodes l.uni.hypotheses l.n) (known_at l.uni l.log.known);
  begins : BeginsWithin l.uni l.first (length l.uni.hypotheses + l.n) l.log;
  gives : BeginsRootBy l.uni (given_before l.uni l.n) l.first l.log;
}
