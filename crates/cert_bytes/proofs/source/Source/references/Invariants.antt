use Rattle.std.proofs.Common.{length, ◌≡◌, ◌≤◌, ◌-◌, ℕ, List, [], Some}
use Rattle.fx_edge.specs.OnlyReads.{OnlyReads}
use Rattle.cert_bytes.specs.Reading.{references_at}
use Rattle.cert_bytes.specs.Pieces.{cursor_of, kept_of}
use Rattle.cert_bytes.specs.Calls.{ReadsOn}
use Rattle.cert_bytes.proofs.source.Source.references.Given as goal

abbrev pub invariant-loop-have : goal.invariant-loop-have
invariant-loop-have g l = record {
  within : l.have ≤ l.count;
  many : length l.numbers.items ≡ l.have;
  gives : (all : List ℕ) → g.F.Folder.told l.initial.folder l.initial.self.name ≡ Some all
      → references_at (l.count - l.have) l.numbers.items (cursor_of all l.self)
      ≡ references_at l.count [] (cursor_of all l.initial.self);
  reads_on : ReadsOn kept_of (g.F.Folder.told l.folder) l.initial.self l.self;
  only_reads : OnlyReads g.F.Folder l.initial.folder l.folder ⊥;
}

abbrev pub decreases-loop-have : goal.decreases-loop-have
decreases-loop-have g l = l.count - l.have
