-- What the lines of a proved script are gathered from.
use Rattle.std.specs.Prelude.{◌≡◌, ◌↔◌, ◌++◌, ⊤, ℕ, List, [], ◌∷◌, length, Option, Some, None}
use Rattle.std.specs.Prelude.{slice_get}
use Rattle.pair_closure.specs.Reached.{Has}
use Rattle.facts.specs.declared.fact.Fact.{Fact}
use Rattle.facts.specs.declared.fact.Fact.TheVariants as fact
use Rattle.goals.specs.declared.goal.Goal.{Goal}
use Rattle.goals.specs.declared.line.Line.{Line}
use Rattle.goals.specs.declared.line.Line.TheVariants as line
use Rattle.goals.specs.Settles.{Settles}
use Rattle.script_claims.specs.declared.claim.Claim.{Claim}
use Rattle.script_claims.specs.Facts.{goal_of}
use Rattle.script_grammar.specs.Spells.{View}
use Rattle.script_grammar.specs.Cases.{cases_of}
use Rattle.derivation.specs.Derivations.{Setting}
use Rattle.derivation.specs.Known.{Piece, Known}
use Rattle.rule_universe.specs.Worlds.{World}
use Rattle.saturate.specs.Universes.{setting_of}
use Rattle.universe.specs.Universes.{IsUniverse}
use Rattle.box_tree.specs.Plans.{pieces_at}
use Rattle.box_tree.specs.Regions.{PlanParts}
use Rattle.bisect.specs.declared.settler.State.{State}
use Rattle.bisect.specs.Trees.{IsLeaf}
use Rattle.bisect.specs.Gathered.{with_known}
use Rattle.settler.specs.Standing.{IsBestKnown, AreStates}
use Rattle.settler.specs.Answers.{Options, plan_of, tree_by, IsProved}

-- What a box gives to a goal's line: its best known fact, which settles the goal. Where VOID is
-- known that is nothing.
abbrev pub Gives : Setting → ℕ → List Piece → Goal → Option Fact → Type 0
Gives u height pieces goal None = Known u height pieces fact.Void
Gives u height pieces goal (Some f) = (¬ Known u height pieces fact.Void)
    × IsBestKnown u height pieces goal.of f × Settles goal f

-- one for each of the boxes, in their order
abbrev pub GiveEach : World → PlanParts → ℕ → Goal → List (List ℕ) → List (Option Fact) → Type 0
GiveEach u plan height goal [] [] = ⊤
GiveEach u plan height goal (path ∷ paths) (given ∷ later) =
    Gives (setting_of u) height (pieces_at plan path) goal given
    × GiveEach u plan height goal paths later
GiveEach u plan height goal _ _ = ⊥

-- the hull of the line and of what is given
abbrev pub hull_over : Line → List (Option Fact) → Line
hull_over l [] = l
hull_over l (given ∷ later) = hull_over (with_known l given) later

-- The leaves of the tree of a case, in which these claims are assumed.
pub record LeavesOf (s : View) (o : Options) (claims : List Claim) : Type 0 where
  pub universe : World
  pub is_universe : IsUniverse s claims universe
  pub states : List ℕ → State
  pub are_states : AreStates universe (plan_of s claims o.depth) o.rounds states
  pub leaves : List (List ℕ)
  pub are_leaves : (path : List ℕ) → Has leaves path ↔ IsLeaf (tree_by s claims o states) path

-- those of each case
abbrev pub LeavesOfEach : View → Options → List (List Claim) → Type 0
LeavesOfEach s o [] = ⊤
LeavesOfEach s o (claims ∷ later) = LeavesOf s o claims × LeavesOfEach s o later

-- What the leaves of the cases give to a goal's line, case by case.
abbrev pub GiveInEach : (s : View) (o : Options) (cases : List (List Claim))
    → LeavesOfEach s o cases → Goal → List (Option Fact) → Type 0
GiveInEach s o [] leaves goal given = given ≡ []
GiveInEach s o (claims ∷ later) leaves goal given = (here behind : List (Option Fact))
    × GiveEach (leaves.0).universe (plan_of s claims o.depth) o.rounds goal (leaves.0).leaves here
    × GiveInEach s o later leaves.1 goal behind × (given ≡ here ++ behind)

-- There is one line for each goal: the hull of what the leaves of the trees of all cases give. So
-- no fact that is known at a leaf is stronger than what the leaf gives.
pub record AreTight (s : View) (o : Options) (lines : List Line) : Type 0 where
  pub leaves : LeavesOfEach s o (cases_of s)
  pub count : length lines ≡ length s.goals
  pub hulls : (k : ℕ) (c : Claim) (l : Line) → slice_get s.goals k ≡ Some c
      → slice_get lines k ≡ Some l
      → (given : List (Option Fact))
      × GiveInEach s o (cases_of s) leaves (goal_of c) given × (l ≡ hull_over line.Empty given)

-- Where a script is proved, its lines are so.
abbrev pub ProvedLinesAreTight : Type 0
ProvedLinesAreTight = (s : View) (o : Options) (lines : List Line)
    → IsProved s o lines → AreTight s o lines
