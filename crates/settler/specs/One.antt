-- A script of one case.
use Rattle.std.specs.Prelude.{◌≡◌, ℕ, List, [], ◌∷◌, length}
use Rattle.goals.specs.declared.line.Line.{Line}
use Rattle.script_claims.specs.declared.claim.Claim.{Claim}
use Rattle.script_grammar.specs.Spells.{View}
use Rattle.script_grammar.specs.Cases.{cases_of}
use Rattle.rule_universe.specs.Worlds.{World}
use Rattle.universe.specs.Universes.{IsUniverse}
use Rattle.bisect.specs.declared.settler.State.{State}
use Rattle.bisect.specs.declared.outcome.Outcome.{Outcome}
use Rattle.bisect.specs.declared.outcome.Leaf.{Leaf}
use Rattle.bisect.specs.declared.outcome.Outcome.TheVariants as outcome
use Rattle.bisect.specs.Answers.{IsAnswer}
use Rattle.bisect.specs.Gathered.{lines_of}
use Rattle.settler.specs.Standing.{AreStates}
use Rattle.settler.specs.Answers.{Options, plan_of, tree_by, ComesTo, IsProved}

-- The tree of the case in which these claims are assumed comes to this: each box stands as
-- derivations over the script's universe say.
pub record CaseComesTo (s : View)
    (claims : List Claim) (o : Options) (found : Outcome) : Type 0 where
  pub universe : World
  pub is_universe : IsUniverse s claims universe
  pub states : List ℕ → State
  pub are_states : AreStates universe (plan_of s claims o.depth) o.rounds states
  pub is_answer : IsAnswer (tree_by s claims o states) o.boxes found

-- What a script of one case comes to is what the tree of that case comes to.
abbrev pub OneCaseIsAll : Type 0
OneCaseIsAll = (s : View) (claims : List Claim) (o : Options) (found : Outcome)
    → cases_of s ≡ claims ∷ [] → ComesTo s o found → CaseComesTo s claims o found

-- no leaf of it is open: the line of each goal is the hull of its best known facts over its leaves
abbrev pub CaseIsProved : View → List Claim → Options → List Line → Type 0
CaseIsProved s claims o lines = (count : ℕ) × ((leaves : List Leaf) × CaseComesTo s claims o
    (outcome.Leaves count leaves) × (lines ≡ lines_of leaves (length s.goals)))

-- What is proved of a script of one case is proved by that case's tree.
abbrev pub ProvedInOneCase : Type 0
ProvedInOneCase = (s : View) (claims : List Claim) (o : Options) (lines : List Line)
    → cases_of s ≡ claims ∷ [] → IsProved s o lines → CaseIsProved s claims o lines
