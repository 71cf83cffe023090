-- A script that a text spells has few hints, few goals and few constraints.
use Rattle.std.specs.Prelude.{ℕ, ◌≤◌, ◌+◌, ◌^◌, List, [], ◌∷◌, length}
use Rattle.script_hints.specs.declared.hint.Hint.{Hint}
use Rattle.script_grammar.specs.CountedHints.{HasFewHints}
use Rattle.script_grammar.specs.Spells.{View, Spells}

-- Its hints are few.
abbrev pub SpelledHaveFewHints : Type 0
SpelledHaveFewHints = (text : List ℕ) (s : View) → Spells text s → HasFewHints s.hints

-- It has no more goals than propositions, which are 128 at most.
abbrev pub SpelledHaveFewGoals : Type 0
SpelledHaveFewGoals = (text : List ℕ) (s : View) → Spells text s → length s.goals ≤ 128

-- how many constraints the rewritings have together
abbrev pub constraints_in : List Hint → ℕ
constraints_in [] = 0
constraints_in (h ∷ hints) = length h.constraints + constraints_in hints

-- Each is written in four words at least, with what stands before it, and a text has 2^20 bytes at
-- most.
abbrev pub SpelledHaveFewConstraints : Type 0
SpelledHaveFewConstraints = (text : List ℕ) (s : View) → Spells text s
    → constraints_in s.hints.rewrites ≤ 2 ^ 18
