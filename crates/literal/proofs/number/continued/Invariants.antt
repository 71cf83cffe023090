use Rattle.std.proofs.Common.{◌≡◌, ◌<◌, drop}
use Rattle.std.specs.Str.Parse.{digits_value_after}
use Rattle.literal.proofs.number.continued.Given as goal

abbrev pub invariant-loop-b : goal.invariant-loop-b
invariant-loop-b l = record {
  below : l.num < l.limit;
  same : digits_value_after l.radix l.fn.first l.digits
      ≡ digits_value_after l.radix l.num (drop l.b-index l.digits);
}
