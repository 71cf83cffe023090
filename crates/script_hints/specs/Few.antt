-- How many pieces a cut that a hint asks for may have.
use Rattle.std.specs.Prelude.{◌≤◌, List, length}
use Rattle.std.specs.List.{AllByRecursion}
use Rattle.script_hints.specs.declared.hint.Cutting.{Cutting}
use Rattle.script_hints.specs.declared.hint.Cutting.TheVariants as cutting
use Rattle.script_hints.specs.declared.hint.Split.{Split}

-- 64 pieces at most: with points, one more than these
abbrev pub HasFewPieces : Cutting → Type 0
HasFewPieces (cutting.Pieces n) = n ≤ 64
HasFewPieces (cutting.Points points) = length points ≤ 63

-- each cut has 64 pieces at most
abbrev pub HaveFewPieces : List Split → Type 0
HaveFewPieces cuts = AllByRecursion (λ c. HasFewPieces c.cut) cuts
