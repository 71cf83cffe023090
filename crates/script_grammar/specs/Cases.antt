-- The cases of a script: which claims are hypotheses together.
use Rattle.std.specs.Prelude.{List}
use Rattle.script_cases.specs.Cases.{cases}
use Rattle.script_claims.specs.declared.claim.Claim.{Claim}
use Rattle.script_grammar.specs.Spells.{View}

-- The cases, in order, each the claims that it takes as hypotheses. A script without disjunctions
-- has one, of all its hypotheses.
abbrev pub cases_of : View → List (List Claim)
cases_of s = cases s.parts
