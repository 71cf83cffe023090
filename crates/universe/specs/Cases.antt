-- The claims of a script's cases are hypotheses of it.
use Rattle.std.specs.Prelude.{List}
use Rattle.std.specs.List.{AllByRecursion}
use Rattle.pair_closure.specs.Reached.{Has}
use Rattle.script_claims.specs.declared.claim.Claim.{Claim}
use Rattle.script_grammar.specs.Spells.{View}

-- each of the claims is a hypothesis of the script
abbrev pub AreHypotheses : View → List Claim → Type 0
AreHypotheses s claims = AllByRecursion (Has s.hypotheses) claims
