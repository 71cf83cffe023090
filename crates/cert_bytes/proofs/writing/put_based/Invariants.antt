use Rattle.std.proofs.Common.{◌≡◌, ◌≤◌, ◌<◌, ◌^◌, ◌++◌}
use Rattle.cert_bytes.specs.Fronts.{IsFront}
use Rattle.cert_bytes.specs.Spelling.{digits, based}
use Rattle.cert_bytes.proofs.writing.put_based.Given as goal

abbrev pub invariant-loop-rest : goal.invariant-loop-rest
invariant-loop-rest l = record {
  some : 1 ≤ l.left;
  room : l.rest < 128 ^ l.left;
  spelled : l.out.items ++ digits l.left l.rest ≡ l.initial.out.items ++ based l.n;
  front : IsFront l.initial.out.items l.out.items;
}

abbrev pub decreases-loop-rest : goal.decreases-loop-rest
decreases-loop-rest l = l.rest
