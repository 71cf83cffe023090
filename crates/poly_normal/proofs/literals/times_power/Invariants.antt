use Rattle.std.proofs.Common.{◌≡◌, ◌*◌, ◌^◌, ◌<◌}
use Rattle.poly_normal.proofs.literals.times_power.Given as goal

abbrev pub invariant-loop : goal.invariant-loop
invariant-loop l = record {
  power : l.n ≡ l.num * l.base ^ l.counter;
  below : l.n < 2 ^ 127;
}
