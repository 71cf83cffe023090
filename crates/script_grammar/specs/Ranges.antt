-- The cases of a script's hypotheses, and the ranges of the variables that it splits.
use Rattle.std.specs.Prelude.{◌≡◌, ℕ, ◌≤◌, List, length}
use Rattle.std.specs.List.{AllByRecursion}
use Rattle.script_cases.specs.Cases.{cases, all_items}
use Rattle.script_grammar.specs.SplitRanges.{HaveRanges}
use Rattle.script_grammar.specs.Spells.{View, Spells}

-- In a script that a text spells some hypothesis of each case gives each variable that the hints
-- split a range with two finite ends.
abbrev pub SpelledHaveRanges : Type 0
SpelledHaveRanges = (text : List ℕ) (s : View)
    → Spells text s → AllByRecursion (λ claims. HaveRanges claims s.hints) (cases s.parts)

-- Its hypotheses are those of all conjunctions in their order, and they have 64 cases at most.
pub record HasFewCases (s : View) : Type 0 where
  pub hypotheses : s.hypotheses ≡ all_items s.parts
  pub few : length (cases s.parts) ≤ 64

-- What a text spells has few cases.
abbrev pub SpelledHaveFewCases : Type 0
SpelledHaveFewCases = (text : List ℕ) (s : View) → Spells text s → HasFewCases s
