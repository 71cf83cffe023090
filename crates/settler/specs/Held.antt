-- What is true of assignments where no leaf is open.
use Rattle.std.specs.Prelude.{◌≡◌, ℕ, List, [], Some, slice_get, Contains}
use Rattle.fx_model.specs.Expression.{Assignment, IsOrdered, value}
use Rattle.facts.specs.declared.fact.Fact.{Fact}
use Rattle.facts.specs.Holds.{Holds}
use Rattle.goals.specs.declared.goal.Goal.{Goal}
use Rattle.goals.specs.Settles.{Settles}
use Rattle.goals.specs.declared.line.Line.{Line}
use Rattle.theorem_list.specs.Promises.{RowsAreTrue}
use Rattle.script_claims.specs.declared.claim.Claim.{Claim}
use Rattle.script_grammar.specs.Spells.{View}
use Rattle.script_grammar.specs.Cases.{cases_of}
use Rattle.script_meets.specs.Meets.{Meets}
use Rattle.script_meets.specs.Held.{AreHeld}
use Rattle.rule_universe.specs.Worlds.{World}
use Rattle.box_tree.specs.Covers.{LieInBox}
use Rattle.box_tree.specs.Plans.{cut_at}
use Rattle.box_tree.specs.Regions.{PlanParts}
use Rattle.bisect.specs.declared.settler.State.{State}
use Rattle.bisect.specs.declared.settler.State.TheVariants as state
use Rattle.bisect.specs.Trees.{Tree, tree_of, IsLeaf}
use Rattle.bisect.specs.Boxes.{HasNoOpenLeaf}
use Rattle.script_truths.specs.Truths.{AreTrue, HasUniverse}
use Rattle.settler.specs.Answers.{Options, IsTreeOf, IsProved}
use Rattle.settler.specs.Standing.{AreStates}

-- Of the assignment all is true that derivations over the universe begin with, and its values lie
-- in the whole box.
pub record MeetsUniverse (u : World) (plan : PlanParts) (a : Assignment) : Type 0 where
  pub hypotheses : (f : Fact) → Contains u.hypotheses f → Holds u.nodes a f
  pub rows : RowsAreTrue u.nodes a u.hints
  pub inside : LieInBox plan (value u.nodes a) []

-- A leaf of the tree is settled, with a fact for each goal that settles it and holds of the
-- assignment.
pub record HasHeldLeaf (u : World) (t : Tree) (a : Assignment) : Type 0 where
  pub path : List ℕ
  pub is_leaf : IsLeaf t path
  pub facts : List Fact
  pub settled : t.state_at path ≡ state.Settled facts
  pub held : (k : ℕ) (goal : Goal) → slice_get u.goals k ≡ Some goal
      → (f : Fact) × (slice_get facts k ≡ Some f) × Settles goal f × Holds u.nodes a f

-- Where no leaf is open, that is so of each such assignment.
abbrev pub SettledLeavesHold : PlanParts → Type 0
SettledLeavesHold plan = (u : World) (rounds : ℕ) (states : List ℕ
    → State) (a : Assignment) → IsOrdered u.nodes
    → AreStates u plan rounds states → HasNoOpenLeaf (tree_of (cut_at plan) states)
    → MeetsUniverse u plan a → HasHeldLeaf u (tree_of (cut_at plan) states) a

-- ---- of scripts
-- Where no leaf of the case's tree is open, that is so of each assignment that meets the script and
-- of which the case's claims are true.
abbrev pub CaseHolds : View → Options → List Claim → Type 0
CaseHolds s o claims = (t : Tree) (a : Assignment) → IsTreeOf s o claims t → HasNoOpenLeaf t
    → Meets a s → AreTrue s a claims → (u : World) × HasUniverse s claims u × HasHeldLeaf u t a

-- It is so in each case.
abbrev pub CasesHold : View → Options → Type 0
CasesHold s o = (case : ℕ) (claims : List Claim)
    → slice_get (cases_of s) case ≡ Some claims → CaseHolds s o claims

-- Where the script is proved, its lines hold of every assignment that meets it.
abbrev pub ProvedHolds : View → Options → Type 0
ProvedHolds s o = (lines : List Line) (a : Assignment)
    → IsProved s o lines → Meets a s → AreHeld s a lines
