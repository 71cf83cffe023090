-- What a script says, by recursion on its tree: definitions first, then the formula, then the
-- hints.
use Rattle.std.specs.Prelude.{List}
use Rattle.script_shape.specs.Hints.{Hints}
use Rattle.script_shape.specs.Tree.{Script, formula, define}
use Rattle.script_cases.specs.Parts.{Parts}
use Rattle.script_nodes.specs.Known.{Known, nothing_known}
use Rattle.script_nodes.specs.Definitions.{definition_value}
use Rattle.script_claims.specs.declared.claim.Claim.{Claim}
use Rattle.script_claims.specs.Claims.{Claims, formula_claims}
use Rattle.script_hints.specs.declared.hint.HintList.{HintList}
use Rattle.script_hints.specs.Hints.{HintsSoFar, no_hints, with_hints}

-- The nodes of all expressions and the names of variables, what the formula claims, all of that by
-- parts and conjunctions too, and what the hints say.
pub record Meaning : Type 0 where
  pub known : Known
  pub hypotheses : List Claim
  pub goals : List Claim
  pub parts : Parts Claim
  pub hints : HintList

-- The meaning of a script whose formula claims this, with what hints say and what is known behind
-- them.
abbrev pub with_hints_of : Claims → HintsSoFar → Meaning
with_hints_of cs s = record {
  known = s.0;
  hypotheses = cs.sides.hypotheses;
  goals = cs.sides.goals;
  parts = cs.sides.parts;
  hints = s.1;
}

-- The meaning of a formula with these claims and of the hints behind it.
abbrev pub body_meaning : Claims → Hints → Meaning
body_meaning cs h = with_hints_of cs (with_hints h (cs.known, no_hints))

-- behind definitions that make this known
abbrev pub meaning_from : Script → Known → Meaning
meaning_from (formula f h) k = body_meaning (formula_claims f k) h
meaning_from (define x rest) k = meaning_from rest (definition_value x k)

-- What the script says, where nothing is known before its first word.
abbrev pub meaning_of : Script → Meaning
meaning_of tree = meaning_from tree nothing_known
