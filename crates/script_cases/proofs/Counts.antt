-- What the marks say of the number of cases.
use Rattle.std.specs.Prelude.{◌≡◌, ℕ, ◌<◌, ◌≤◌, List, length}
use Rattle.std.specs.List.{AllByRecursion}
use Rattle.std.proofs.Common.{arith}
use Rattle.script_cases.specs.Cases.{case_count}
use Rattle.script_cases.specs.Gaps.{gaps, AreRising}
use Rattle.script_cases.specs.Marks.{pieces, AreMarks}
use Rattle.script_cases.proofs.Pieces.{pieces_within}
use Rattle.script_cases.proofs.Lengths.{count_of_gaps, filled_rising, gaps_positive}

module _ {X : Type 0} (items : List X) (ends parts : List ℕ) (m : AreMarks items ends parts) where
  within : AllByRecursion (λ e. e ≤ length (pieces 0 items ends)) parts
  within = pieces_within items ends parts m.parts_within

  pub counted : case_count (pieces 0 (pieces 0 items ends) parts) ≡ gaps 0 parts
  counted = count_of_gaps 0 (pieces 0 items ends) parts within

  pub rising : AreRising 0 parts
  rising = filled_rising 0 (pieces 0 items ends) parts within m.filled

  pub some_case : 0 < case_count (pieces 0 (pieces 0 items ends) parts)
  some_case = omega (arith, counted, gaps_positive 0 parts rising)
