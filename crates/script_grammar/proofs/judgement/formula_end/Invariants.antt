use Rattle.std.proofs.Common.{◌≡◌, ◌+◌, ◌≤◌, length}
use Rattle.script_grammar.specs.Judgement as spec
use Rattle.script_grammar.proofs.judgement.formula_end.Given as goal

abbrev pub invariant-loop-roles : goal.invariant-loop-roles
invariant-loop-roles l = record {
  counted : spec.formula_end l.fn.roles ≡ l.end + spec.formula_end l.roles;
  room : l.end + length l.roles ≤ length l.fn.roles;
}

abbrev pub decreases-loop-roles : goal.decreases-loop-roles
decreases-loop-roles l = length l.roles
