-- What holds of the answers of several trees.
use Rattle.std.specs.Prelude.{◌≡◌, ◌≢◌, ◌<◌, ◌≤◌, ◌⊎◌, ◌↔◌, ℕ, List, [], ◌∷◌, Some, None, slice_get}
use Rattle.std.specs.List.{AllByRecursion}
use Rattle.fx_model.specs.Expression.{Assignment}
use Rattle.fx_model.specs.declared.Node.{Node}
use Rattle.facts.specs.declared.fact.Fact.{Fact}
use Rattle.facts.specs.declared.fact.Slot.{Slot}
use Rattle.facts.specs.Holds.{Holds}
use Rattle.facts.specs.Order.{slot_of}
use Rattle.goals.specs.Holds.{LineHolds, IsOfGoal}
use Rattle.bisect.specs.declared.settler.State.TheVariants as state
use Rattle.bisect.specs.declared.outcome.Outcome.{Outcome}
use Rattle.bisect.specs.declared.outcome.Outcome.TheVariants as outcome
use Rattle.bisect.specs.Trees.{Tree, IsLeaf}
use Rattle.bisect.specs.Boxes.{IsBefore, IsOpenLeaf}
use Rattle.bisect.specs.Answers.{IsAnswer}
use Rattle.bisect.specs.Gathered.{line_of}
use Rattle.bisect.specs.declared.outcome.OpenLeaf.{OpenLeaf}
use Rattle.case_trees.specs.Listed.{Listed, AreListed, first_open_from, all_leaves}
use Rattle.case_trees.specs.Answers.{IsAnswerOfAll}
use Rattle.case_trees.specs.Gathered.{Seen, HasBoxes, IsWithin, EndsAs, nothing_seen, boxes_left}
use Rattle.case_trees.specs.Gathered.{with_outcome, end_of}

-- Several trees have one answer under a limit.
abbrev pub HaveOneAnswer : Type 0
HaveOneAnswer = (trees : List Tree) (limit : ℕ) (found other : Outcome)
    → IsAnswerOfAll trees limit found → IsAnswerOfAll trees limit other → found ≡ other

-- What one tree comes to is the answer of the list of it alone.
abbrev pub OneIsAll : Type 0
OneIsAll = (t : Tree) (limit : ℕ) (found : Outcome) → IsAnswer t limit found
    ↔ IsAnswerOfAll (t ∷ []) limit found

-- ---- tree by tree
-- What a tree comes to is within its limit.
abbrev pub AnswersAreWithin : Type 0
AnswersAreWithin = (t : Tree) (limit : ℕ) (o : Outcome) → IsAnswer t limit o → IsWithin limit o

-- What is seen from nothing on is the answer.
abbrev pub StartsFromNothing : Type 0
StartsFromNothing = (trees : List Tree) (limit : ℕ) (found : Outcome)
    → EndsAs (nothing_seen limit) trees found → IsAnswerOfAll trees limit found

-- A tree that comes to this within the boxes that are left joins what was seen.
abbrev pub GoesOn : Type 0
GoesOn = (w : Seen) (t : Tree) (later : List Tree) (o : Outcome) (found : Outcome)
    → w.boxes ≤ w.limit → IsAnswer t (boxes_left w) o → o ≢ outcome.BoxLimit →
    EndsAs (with_outcome w o) later found → EndsAs w (t ∷ later) found

-- One that has more boxes than are left ends it.
abbrev pub StopsOver : Type 0
StopsOver = (w : Seen) (t : Tree) (later : List Tree)
    → w.boxes ≤ w.limit → IsAnswer t (boxes_left w) outcome.BoxLimit
    → AllByRecursion HasBoxes later → EndsAs w (t ∷ later) outcome.BoxLimit

-- So does any where none is left: each tree has a box.
abbrev pub StopsAtNone : Type 0
StopsAtNone = (w : Seen) (t : Tree) (later : List Tree) → w.limit ≤ w.boxes
    → HasBoxes t → AllByRecursion HasBoxes later → EndsAs w (t ∷ later) outcome.BoxLimit

-- And so does the end of the list.
abbrev pub StopsAtEnd : Type 0
StopsAtEnd = (w : Seen) → w.boxes ≤ w.limit → EndsAs w [] (end_of w)

-- ---- what is read off
-- The first open leaf is one of its case's tree, and each other that is open there lies after it;
-- no leaf of an earlier case is open.
pub record IsFirstOfAll (trees : List Tree) (leaf : OpenLeaf) : Type 0 where
  pub tree : Tree
  pub there : slice_get trees leaf.case ≡ Some tree
  pub open_leaf : IsOpenLeaf tree leaf.path leaf.goal
  pub first : (other : List ℕ) (goal : ℕ) → IsOpenLeaf tree other goal → (leaf.path ≡ other)
      ⊎ IsBefore leaf.path other
  pub earlier : (case : ℕ) (t : Tree) → case < leaf.case
      → slice_get trees case ≡ Some t → (path : List ℕ) (goal : ℕ) → ¬ (IsOpenLeaf t path goal)

-- The first open leaf that the lists of boxes show is the first of all trees.
abbrev pub FirstIsFirst : Type 0
FirstIsFirst = (trees : List Tree) (ls : List Listed) (leaf : OpenLeaf)
    → AreListed trees ls → first_open_from 0 ls ≡ Some leaf → IsFirstOfAll trees leaf

-- Where there is none, no leaf of any tree is open.
abbrev pub NoneIsOpen : Type 0
NoneIsOpen = (trees : List Tree) (ls : List Listed) (case : ℕ) (t : Tree)
    → AreListed trees ls → first_open_from 0 ls ≡ None
    → slice_get trees case ≡ Some t → (path : List ℕ) (goal : ℕ) → ¬ (IsOpenLeaf t path goal)

-- The line over the leaves of all trees holds of what the fact of one leaf of one of them holds of.
abbrev pub LinesHoldOfEach : Type 0
LinesHoldOfEach = (trees : List Tree) (ls : List Listed) (case : ℕ) (t : Tree)
    → AreListed trees ls → slice_get trees case ≡ Some t →
    (path : List ℕ) (facts : List Fact) → IsLeaf t path → t.state_at path ≡ state.Settled facts →
    (nodes : List Node) (a : Assignment) (s : Slot) (k : ℕ) (f : Fact)
    → slice_get facts k ≡ Some f → IsOfGoal f → slot_of f ≡ s → Holds nodes a f →
    LineHolds nodes a s (line_of (all_leaves ls) k)
