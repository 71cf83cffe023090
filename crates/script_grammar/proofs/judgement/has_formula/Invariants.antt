use Rattle.std.proofs.Common.{◌≡◌, length}
use Rattle.script_grammar.specs.Judgement as spec
use Rattle.script_grammar.proofs.judgement.has_formula.Given as goal

abbrev pub invariant-loop-roles : goal.invariant-loop-roles
invariant-loop-roles l = spec.has_formula l.fn.roles ≡ spec.has_formula l.roles

abbrev pub decreases-loop-roles : goal.decreases-loop-roles
decreases-loop-roles l = length l.roles
