use Rattle.std.proofs.Common.{◌≡◌, ◌≤◌, ◌^◌}
use Rattle.fx_edge.specs.OnlyReads.{OnlyReads}
use Rattle.cert_bytes.specs.Pieces.{AgreesTold}
use Rattle.cert_upgrade.proofs.Measured.{HasMeasured}
use Rattle.cert_upgrade.proofs.Read.{turns_left}
use Rattle.cert_upgrade.proofs.respell.measure.Given as goal

abbrev pub invariant-loop-ended : goal.invariant-loop-ended
invariant-loop-ended g l = record {
  measured : HasMeasured (g.F.Folder.told l.fn.folder l.fn.name) l.reader l.seen l.ended l.length;
  within : l.reader.ahead.at ≤ 2 ^ 44;
  agrees : AgreesTold (g.F.Folder.told l.folder l.reader.ahead.name) l.reader.ahead;
  name : l.reader.ahead.name ≡ l.fn.name;
  only_reads : OnlyReads g.F.Folder l.fn.folder l.folder ⊥;
}

abbrev pub decreases-loop-ended : goal.decreases-loop-ended
decreases-loop-ended g l = turns_left l.ended l.reader.ahead.at
