use Rattle.std.proofs.Common.{◌≡◌, ◌≤◌, ◌<◌, ◌*◌, ◌^◌, ℕ, List, Some}
use Rattle.fx_edge.specs.OnlyReads.{OnlyReads}
use Rattle.cert_bytes.specs.Reading.{limited_at}
use Rattle.cert_bytes.specs.Pieces.{cursor_of, kept_of}
use Rattle.cert_bytes.specs.Calls.{ReadsOn}
use Rattle.cert_bytes.proofs.source.Source.limited_far.Given as goal

abbrev pub invariant-loop-left : goal.invariant-loop-left
invariant-loop-left g l = record {
  some : 1 ≤ l.left;
  worth : l.worth * 128 ^ l.left ≤ 128 ^ 19;
  sum : l.sum < l.worth;
  gives : (all : List ℕ) → g.F.Folder.told l.initial.folder l.initial.self.name ≡ Some all
      → limited_at l.left l.most l.worth l.sum (cursor_of all l.self)
      ≡ limited_at l.bytes l.most l.weight l.value (cursor_of all l.initial.self);
  reads_on : ReadsOn kept_of (g.F.Folder.told l.folder) l.initial.self l.self;
  only_reads : OnlyReads g.F.Folder l.initial.folder l.folder ⊥;
}

abbrev pub decreases-loop-left : goal.decreases-loop-left
decreases-loop-left g l = l.left
