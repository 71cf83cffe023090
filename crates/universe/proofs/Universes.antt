-- Laws of what specs/Universes defines.
use Rattle.std.specs.Prelude.{List, refl}
use Rattle.script_claims.specs.declared.claim.Claim.{Claim}
use Rattle.script_claims.specs.Facts.{facts_of}
use Rattle.script_grammar.specs.Spells.{View}
use Rattle.rule_universe.specs.Worlds.{World}
use Rattle.rule_universe.specs.Assumed.{assuming}
use Rattle.universe.specs.Cases.{AreHypotheses}
use Rattle.universe.specs.Universes.{IsUniverse}

-- Other hypotheses make the universe of another case.
pub assumed : (s : View) (u : World) (before claims : List Claim) → IsUniverse s before u
    → AreHypotheses s claims → IsUniverse s claims (assuming u (facts_of claims))
assumed s u before claims is are = record {
  claims_are = are;
  closure = is.closure;
  goals = is.goals;
  hypotheses = refl;
  hints = is.hints;
  instances = is.instances;
  order = is.order;
}
