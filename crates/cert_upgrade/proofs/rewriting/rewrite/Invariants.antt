use Rattle.std.proofs.Common.{◌≡◌, ◌≢◌, ◌≤◌, ◌^◌, ℕ, List}
use Rattle.cert_bytes.specs.Pieces.{AgreesTold}
use Rattle.cert_upgrade.proofs.Read.{turns_left}
use Rattle.cert_upgrade.proofs.Rewritten.{HasRewritten}
use Rattle.cert_upgrade.proofs.rewriting.rewrite.Given as goal

abbrev pub invariant-loop-ended : goal.invariant-loop-ended
invariant-loop-ended g l = record {
  rewritten : HasRewritten (g.F.Folder.told l.fn.folder l.fn.cert) l.reader l.seen l.ended
      (g.F.Folder.told l.fn.folder l.fn.new) (g.F.Folder.told l.folder l.fn.new) l.bytes.items;
  within : l.reader.ahead.at ≤ 2 ^ 44;
  agrees : AgreesTold (g.F.Folder.told l.folder l.reader.ahead.name) l.reader.ahead;
  name : l.reader.ahead.name ≡ l.fn.cert;
  others : (other : List ℕ) → other ≢ l.fn.new
      → g.F.Folder.told l.folder other ≡ g.F.Folder.told l.fn.folder other;
  reads : g.F.Folder.read_faults l.fn.folder ≤ g.F.Folder.read_faults l.folder;
  writes : g.F.Folder.write_faults l.fn.folder ≤ g.F.Folder.write_faults l.folder;
}

abbrev pub decreases-loop-ended : goal.decreases-loop-ended
decreases-loop-ended g l = turns_left l.ended l.reader.ahead.at
