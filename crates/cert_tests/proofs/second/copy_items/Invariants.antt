use Rattle.cert_bytes.specs.Pieces.{AgreesTold}
use Rattle.cert_tests.proofs.second.copy_items.Given as goal

abbrev pub invariant-calls : goal.invariant-calls
invariant-calls g l = AgreesTold (g.F.Folder.told l.folder l.reader.ahead.name) l.reader.ahead
