use Rattle.std.proofs.Common.{◌≡◌, ◌≤◌, string_bytes}
use Rattle.made_script.specs.Script.{polynomial}
use Rattle.made_script.proofs.script.polynomial.Given as goal

abbrev pub invariant-loop-i : goal.invariant-loop-i
invariant-loop-i l = record {
  text : string_bytes l.text ≡ polynomial l.n l.i;
  within : l.i ≤ l.n;
}

abbrev pub decreases-loop-i : goal.decreases-loop-i
decreases-loop-i l = l.i
