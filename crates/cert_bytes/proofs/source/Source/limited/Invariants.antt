use Rattle.std.proofs.Common.{◌≡◌, ◌≤◌, ◌<◌, ◌-◌, ◌^◌, ℕ, List, Some}
use Rattle.fx_edge.specs.OnlyReads.{OnlyReads}
use Rattle.cert_bytes.specs.Reading.{limited_at}
use Rattle.cert_bytes.specs.Pieces.{cursor_of, kept_of}
use Rattle.cert_bytes.specs.Calls.{ReadsOn}
use Rattle.cert_bytes.proofs.source.Source.limited.Given as goal

abbrev pub invariant-loop-have : goal.invariant-loop-have
invariant-loop-have g l = record {
  within : l.have ≤ 9;
  weight : l.weight ≡ 128 ^ l.have;
  value : l.value < l.weight;
  gives : (all : List ℕ) → g.F.Folder.told l.initial.folder l.initial.self.name ≡ Some all
      → limited_at (l.bytes - l.have) l.most l.weight l.value (cursor_of all l.self)
      ≡ limited_at l.bytes l.most 1 0 (cursor_of all l.initial.self);
  reads_on : ReadsOn kept_of (g.F.Folder.told l.folder) l.initial.self l.self;
  only_reads : OnlyReads g.F.Folder l.initial.folder l.folder ⊥;
}

abbrev pub decreases-loop-have : goal.decreases-loop-have
decreases-loop-have g l = 9 - l.have
