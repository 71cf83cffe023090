use Rattle.std.proofs.Common.{◌≡◌, map, take}
use Rattle.script_claims.specs.Facts as spec
use Rattle.script_grammar.specs.Cases.{cases_of}
use Rattle.script_checker.proofs.cases.facts_of_cases.Given as goal

abbrev pub invariant-loop-number : goal.invariant-loop-number
invariant-loop-number l = l.cases.items ≡ take l.number (map spec.facts_of (cases_of l.script))
