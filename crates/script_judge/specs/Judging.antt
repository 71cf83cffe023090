-- How far the code has judged words.
use Rattle.std.specs.Prelude.{◌≡◌, ℕ, ◌≤◌, ◌<◌, List, [], ◌∷◌, ◌++◌, drop, take, Option, Some, None}
use Rattle.script_shape.specs.Roles.{Leaf}
use Rattle.script_judge.specs.declared.fault.Fault.{Fault}
use Rattle.script_judge.specs.declared.judge.Judging.{Judging}
use Rattle.script_judge.specs.declared.judge.Seen.{Seen as CodeSeen}
use Rattle.script_judge.specs.declared.splits.Splits.{Splits}
use Rattle.script_judge.specs.Limits.{IsWithinLimits, HasCases}
use Rattle.script_judge.specs.Names.{split_name}
use Rattle.script_judge.specs.Said.{Said}
use Rattle.script_judge.specs.Front.{said_in}
use Rattle.script_judge.specs.Numbers.{Notes, Tells}
use Rattle.script_judge.specs.SplitViews.{splits_seen}
use Rattle.script_judge.specs.Judge.{Seen, nothing_seen, seen_after, arrow_count, refusal_at}
use Rattle.script_judge.specs.Judge.{Judged}
use Rattle.script_judge.specs.Views.{IsSeen}

-- The judge lets leaves pass that have others behind them, from what stands before them to what
-- stands behind.
pub data Passed : Seen → List Leaf → List Leaf → Seen → Type 0 where
  none : {seen : Seen} {behind : List Leaf} → Passed seen [] behind seen
  more : {seen last : Seen} {l : Leaf} {ls behind : List Leaf} {v : Notes}
      → Tells v l.role l.word (ls ++ behind)
      → refusal_at v seen l.role l.word (ls ++ behind) ≡ None
      → Passed (seen_after v seen l.role l.word) ls behind last
      → Passed seen (l ∷ ls) behind last

-- It lets pass as many of these leaves, and the code holds what stands behind them.
pub record JudgedAt (all : List Leaf) (number : ℕ) (code : CodeSeen) (splits : Splits)
    (arrows : ℕ) : Type 0 where
  pub seen : Seen
  pub passed : Passed (nothing_seen (said_in all)) (take number all) (drop number all) seen
  pub stands : IsSeen code seen
  pub splits_stand : splits_seen splits ≡ seen.splits
  pub within : IsWithinLimits code.counts
  pub cases : HasCases code.counts
  pub arrows_left : arrows ≡ arrow_count (drop number all)

-- those that stand before the code's number
abbrev pub JudgedTo : List Leaf → Judging → Type 0
JudgedTo all code = JudgedAt all code.number code.seen code.splits code.arrows

-- the first refused word of leaves, by what they say, or none
abbrev pub IsFirstFault : List Leaf → Option Fault → Type 0
IsFirstFault leaves found = Judged 0 (nothing_seen (said_in leaves)) leaves found

-- the first of these leaves splits no variable
abbrev pub SplitsNone : List Leaf → Type 0
SplitsNone [] = Unit {0}
SplitsNone (l ∷ ls) = split_name l.role l.word ≡ None

-- What the code holds of the formula is what these leaves say. Where it holds none, none of those
-- from one number to another splits a variable.
abbrev pub HoldsSaid : List Leaf → Option Said → ℕ → ℕ → Type 0
HoldsSaid all None from end = (k : ℕ) → from ≤ k → k < end → SplitsNone (drop k all)
HoldsSaid all (Some f) from end = said_in all ≡ Some f
