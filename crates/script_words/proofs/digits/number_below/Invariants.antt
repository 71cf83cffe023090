use Rattle.std.proofs.Common.{◌≡◌, ◌<◌, drop}
use Rattle.std.specs.Str.Parse.{digits_value, digits_value_after}
use Rattle.script_words.proofs.digits.number_below.Given as goal

abbrev pub invariant-loop-b : goal.invariant-loop-b
invariant-loop-b l = record {
  below : l.number < l.fn.limit;
  same : digits_value 10 l.digits ≡ digits_value_after 10 l.number (drop l.b-index l.digits);
}
