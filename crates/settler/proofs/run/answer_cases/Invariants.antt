use Rattle.std.proofs.Common.{◌≡◌, ◌≤◌, List, drop}
use Rattle.facts.specs.declared.fact.Fact.{Fact}
use Rattle.script_claims.specs.declared.claim.Claim.{Claim}
use Rattle.rule_universe.specs.Assumed.{assuming}
use Rattle.universe.specs.Universes.{IsUniverse}
use Rattle.bisect.specs.declared.outcome.Outcome.{Outcome}
use Rattle.case_trees.specs.Gathered.{EndsAs, nothing_seen}
use Rattle.settler.specs.Cases.{trees_in}
use Rattle.settler.proofs.run.answer_cases.Given as goal

abbrev pub invariant-loop-case : goal.invariant-loop-case
invariant-loop-case g l = record {
  -- what the cases that are left come to behind what was seen, all come to
  ends :
      (found : Outcome)
      → EndsAs l.gathered (trees_in l.fn.universe l.options.rounds (drop l.case-index l.cases))
      found
      → EndsAs (nothing_seen l.options.boxes) (trees_in l.fn.universe l.options.rounds l.cases)
      found;
  limit : l.gathered.limit ≡ l.options.boxes;
  few : l.gathered.cases ≤ l.case-index;
  room : l.gathered.boxes ≤ l.gathered.limit;
  universe : (before : List Claim) × IsUniverse l.script before l.universe;
  same : (facts : List Fact) → assuming l.universe facts ≡ assuming l.fn.universe facts;
}
