-- What is answered to a script: by the script and its options alone. No code and no order of work
-- occurs in it.
use Rattle.std.specs.Prelude.{◌≡◌, ⊤, ℕ, List, [], ◌∷◌, length}
use Rattle.proof_options.specs.declared.options.Options.{Options as Asking}
use Rattle.goals.specs.declared.line.Line.{Line}
use Rattle.script_claims.specs.declared.claim.Claim.{Claim}
use Rattle.script_grammar.specs.Spells.{View}
use Rattle.script_grammar.specs.Cases.{cases_of}
use Rattle.rule_universe.specs.Worlds.{World}
use Rattle.universe.specs.Universes.{IsUniverse, IsTooLarge}
use Rattle.box_tree.specs.Plans.{cut_at}
use Rattle.box_tree.specs.Regions.{PlanParts}
use Rattle.box_tree.specs.Root.{plan_by}
use Rattle.bisect.specs.declared.settler.State.{State}
use Rattle.bisect.specs.declared.outcome.Leaf.{Leaf}
use Rattle.bisect.specs.Trees.{Tree, tree_of}
use Rattle.bisect.specs.Gathered.{lines_of}
use Rattle.bisect.specs.declared.outcome.OpenLeaf.{OpenLeaf}
use Rattle.bisect.specs.declared.outcome.Outcome.{Outcome}
use Rattle.bisect.specs.declared.outcome.Outcome.TheVariants as outcome
use Rattle.case_trees.specs.Answers.{IsAnswerOfAll}
use Rattle.settler.specs.Standing.{AreStates}

-- How a script is proved: the height of derivations, how often boxes are halved, and how many boxes
-- there may be.
pub record Options : Type 0 where
  pub rounds : ℕ
  pub depth : ℕ
  pub boxes : ℕ

-- those of a run, without its workers, which change no answer
abbrev pub options_from : Asking → Options
options_from a = record { rounds = a.rounds; depth = a.depth; boxes = a.boxes }

-- options of these numbers
abbrev pub options : ℕ → ℕ → ℕ → Options
options rounds depth boxes = record { rounds = rounds; depth = depth; boxes = boxes }

-- ---- one case: these claims are assumed
-- how its boxes are cut
abbrev pub plan_of : View → List Claim → ℕ → PlanParts
plan_of s claims depth = plan_by claims s.hints depth

-- the tree of its boxes that stand so
abbrev pub tree_by : View → List Claim → Options → (List ℕ → State) → Tree
tree_by s claims o states = tree_of (cut_at (plan_of s claims o.depth)) states

-- The case has this tree: each box stands as derivations over the script's universe say, of at most
-- so many rounds.
pub record IsTreeOf (s : View) (o : Options) (claims : List Claim) (t : Tree) : Type 0 where
  pub universe : World
  pub is_universe : IsUniverse s claims universe
  pub states : List ℕ → State
  pub are_states : AreStates universe (plan_of s claims o.depth) o.rounds states
  pub is_tree : t ≡ tree_by s claims o states

-- ---- all cases
-- a tree for each
abbrev pub AreTrees : View → Options → List (List Claim) → List Tree → Type 0
AreTrees s o [] [] = ⊤
AreTrees s o (claims ∷ later) (t ∷ trees) = IsTreeOf s o claims t × AreTrees s o later trees
AreTrees s o _ _ = ⊥

-- The script hasn't too many expressions, and the trees of its cases come to this together.
pub record ComesTo (s : View) (o : Options) (found : Outcome) : Type 0 where
  pub few : ¬ IsTooLarge s
  pub trees : List Tree
  pub are_trees : AreTrees s o (cases_of s) trees
  pub is_answer : IsAnswerOfAll trees o.boxes found

-- ---- the four answers
abbrev pub HasTooManyExpressions : View → Type 0
HasTooManyExpressions s = IsTooLarge s

-- the trees of all cases have together more boxes than are allowed
abbrev pub HasTooManyBoxes : View → Options → Type 0
HasTooManyBoxes s o = ComesTo s o outcome.BoxLimit

-- a leaf is open: the first of the first case that has one, with its least goal that isn't settled
abbrev pub IsUnproved : View → Options → OpenLeaf → Type 0
IsUnproved s o leaf = (count : ℕ) × ComesTo s o (outcome.Unproved count leaf)

-- no leaf is open of trees with so many boxes: the line of each goal is the hull of its best known
-- facts over the leaves of all cases
abbrev pub IsProvedIn : View → Options → ℕ → List Line → Type 0
IsProvedIn s o count lines = (leaves : List Leaf)
    × ComesTo s o (outcome.Leaves count leaves) × (lines ≡ lines_of leaves (length s.goals))

-- the same, of any number of boxes
abbrev pub IsProved : View → Options → List Line → Type 0
IsProved s o lines = (count : ℕ) × IsProvedIn s o count lines

-- ---- the answer
pub data Answer : Type 0 where
  expr_limit : Answer
  box_limit : Answer
  unproved : OpenLeaf → Answer
  proved : List Line → Answer

-- The answer is this, the first of the four that applies.
abbrev pub IsScriptAnswer : View → Options → Answer → Type 0
IsScriptAnswer s o expr_limit = HasTooManyExpressions s
IsScriptAnswer s o box_limit = HasTooManyBoxes s o
IsScriptAnswer s o (unproved leaf) = IsUnproved s o leaf
IsScriptAnswer s o (proved lines) = IsProved s o lines

-- ---- it is one
-- A script comes to one outcome at most, with its number of boxes and its leaves.
abbrev pub OutcomesAreOne : Type 0
OutcomesAreOne = (s : View) (o : Options) (found other : Outcome)
    → ComesTo s o found → ComesTo s o other → found ≡ other

-- It has one answer at most.
abbrev pub AnswersAreOne : Type 0
AnswersAreOne = (s : View) (o : Options) (answer other : Answer) → IsScriptAnswer s o answer
    → IsScriptAnswer s o other → answer ≡ other
