use Rattle.std.proofs.Common.{◌≡◌, ◌≤◌, ◌-◌, None}
use Rattle.cert_bytes.specs.Pieces.{AgreesTold}
use Rattle.cert_tests.proofs.halved.citable.Given as goal

abbrev pub invariant-items : goal.invariant-items
invariant-items g l = record {
  steps : l.chain.context.next ≤ l.taken;
  sections : l.chain.context.section ≤ l.taken;
  sound : l.chain.fault ≡ None;
  agrees : AgreesTold (g.F.Folder.told l.folder l.reader.ahead.name) l.reader.ahead;
}

abbrev pub decreases-items : goal.decreases-items
decreases-items g l = 1000 - l.taken
